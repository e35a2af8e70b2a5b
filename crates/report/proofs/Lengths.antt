-- How long the parts of the text are.
use Rattle.std.proofs.Common.{◌≡◌, ℕ, ◌+◌, ◌*◌, ◌^◌, ◌<◌, ◌≤◌, List, [], ◌∷◌, ◌++◌, length, take, decimal, ap, ◌∙◌, suc-mul, add-mul, arith, lit<}
use Rattle.std.proofs.lemmas.List.FromFn.{length-map-range_with_len, take-map-range_with_len}
use Rattle.std.proofs.lemmas.Fmt.{length-decimal-le}
use Rattle.std.proofs.lemmas.List.{length-append, length_push}
use Rattle.rules.specs.Semantics.{LiteralSet}
use Rattle.report.specs.Text.{digit, letter, cells, line, heading, listing, text}

-- no number of 64 bits has more than twenty digits
pub decimal_short : (n : ℕ) → n < 2 ^ 64 → length (decimal n) ≤ 20
decimal_short n l = length-decimal-le 20 n (lit< tt) (omega arith) l

pub length_heading : (code count : ℕ) → length (heading code count) ≡ length (decimal code) + length (decimal count) + 2
unfolding heading
length_heading code count = simp length-append (omega arith)

pub length_cells : (character : ℕ → ℕ) (n : ℕ) → length (cells character n) ≡ n
unfolding cells
length_cells character n = length-map-range_with_len character 0 n

pub length_row : (character : ℕ → ℕ) (n : ℕ) → length (line (cells character n)) ≡ n + 1
length_row character n = length_push (cells character n) 10 ∙ ap (λ k. k + 1) (length_cells character n)

pub length_listing : (n : ℕ) (Ms : List ℕ) → length (listing n Ms) ≡ length Ms * (n + 1)
length_listing n [] = omega arith
length_listing n (M ∷ Ms) =
    let one = length_row (digit M) n in
    let more = length_listing n Ms in
    let both = length-append (line (cells (digit M) n)) (listing n Ms) in
    let product = suc-mul (length Ms) (n + 1) in
    omega arith

pub length_parts : (code n : ℕ) (Ms : List ℕ) (X : LiteralSet) → length (text code n Ms X) ≡ length (heading code (length Ms)) + (length (listing n Ms) + length (line (cells (letter X) n)))
unfolding text
length_parts code n Ms X =
    let inner = length-append (listing n Ms) (line (cells (letter X) n)) in
    let outer = length-append (heading code (length Ms)) (listing n Ms ++ line (cells (letter X) n)) in
    omega arith

pub length_text : (code n : ℕ) (Ms : List ℕ) (X : LiteralSet) → length (text code n Ms X) ≡ length (decimal code) + 1 + length (decimal (length Ms)) + 1 + (length Ms + 1) * (n + 1)
length_text code n Ms X =
    let parts = length_parts code n Ms X in
    let first = length_heading code (length Ms) in
    let middle = length_listing n Ms in
    let last = length_row (letter X) n in
    let product = add-mul (length Ms) 1 (n + 1) in
    omega arith

-- the first n of the characters of all matters
pub take_cells : (character : ℕ → ℕ) (m n : ℕ) (row : List ℕ) → m ≡ n → row ≡ cells character 16 → n ≤ 16 → take m row ≡ cells character n
unfolding cells
take_cells character m n row e r few = rw (e, r) (take-map-range_with_len character 0 16 n few)
