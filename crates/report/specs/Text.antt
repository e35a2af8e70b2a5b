-- The text of a report says how many outcomes there are under an order, which matters hold in each of them, and what the model says of each matter.
--
--   1 2      the order's code, and how many outcomes there are
--   1100     an outcome, from matter 0 on: '1' for each matter that is in it, and '0' for each that is not
--   1010     the next outcome
--   tuuf     the model: 't' for a matter that holds, 'f' where its negation does, 'b' where both do, and 'u' where neither does
use Rattle.std.specs.Prelude.{ℕ, ◌/◌, ◌%◌, ◌^◌, Bool, true, false, cond, List, [], ◌∷◌, ◌++◌, map, length, decimal, ◌==◌}
use Rattle.std.specs.List.{range_with_len, flat_map}
use Rattle.rules.specs.Semantics.{LiteralSet}

-- whether the matter a is in the set m
abbrev pub member : ℕ → ℕ → Bool
member m a = m / 2 ^ a % 2 == 1

-- '1' or '0'
abbrev pub digit : ℕ → ℕ → ℕ
digit M a = cond (member M a) 49 48

-- 'u', 'f', 't' or 'b', by whether the matter holds and whether its negation does
abbrev pub reading : Bool → Bool → ℕ
reading false false = 117
reading false true = 102
reading true false = 116
reading true true = 98

abbrev pub letter : LiteralSet → ℕ → ℕ
letter X a = reading (member X.0 a) (member X.1 a)

-- a character for each of the matters 0 to n - 1
unfoldable pub cells : (ℕ → ℕ) → ℕ → List ℕ
cells character n = map character (range_with_len 0 n)

abbrev pub line : List ℕ → List ℕ
line characters = characters ++ (10 ∷ [])

-- two numbers with a space between them
unfoldable pub heading : ℕ → ℕ → List ℕ
heading code count = line (decimal code ++ (32 ∷ decimal count))

-- a line for each outcome
abbrev pub listing : ℕ → List ℕ → List ℕ
listing n Ms = flat_map (λ M. line (cells (digit M) n)) Ms

-- the report on n matters with the outcomes Ms and the model X
unfoldable pub text : (code n : ℕ) → List ℕ → LiteralSet → List ℕ
text code n Ms X = heading code (length Ms) ++ (listing n Ms ++ line (cells (letter X) n))
