-- Which sheets claim a literal, and what follows of rejection and defaults.
use Rattle.std.specs.Prelude.{◌≡◌, ℕ, ◌<◌, ◌⊎◌, List, length, slice_index, slice_index_or}
use Rattle.rules.specs.declared.rule.Rule.{Rule}
use Rattle.rules.specs.declared.rule.Sign.{Sign}
use Rattle.rules.specs.declared.rule.Sign.TheVariants.{Yes, No}
use Rattle.rules.specs.Parts.{no_rule}
use Rattle.rules.specs.Semantics.{Mem, LiteralSet, ◌⊆◌, ◌∈◌, body, opposite, Default}
use Rattle.steps.specs.declared.claims.Claims.{Claims}
use Rattle.steps.specs.Parts.{SetOf}

-- the claims to the matters, or to their negations
abbrev pub claimed : Sign → Claims → List ℕ
claimed Yes c = c.yes
claimed No c = c.no

-- the rule has this head and stands on sheet j, and its body is true in X
pub record ClaimsBy (r : Rule) (X : LiteralSet) (s : Sign) (a j : ℕ) : Type 0 where
  pub sign_is : r.sign ≡ s
  pub head_is : r.head ≡ a
  pub sheet_is : r.sheet ≡ j
  pub body_true : body r ⊆ X

-- one of the first i rules claims the literal for its sheet
abbrev pub Early : List Rule → ℕ → LiteralSet → Sign → ℕ → ℕ → Type 0
Early P i X s a j = (k : ℕ) × (k < i) × ClaimsBy (slice_index_or P k no_rule) X s a j

-- c has the claims of the first i rules
pub record ClaimedEarly (P : List Rule) (i : ℕ) (X : LiteralSet) (c : Claims) : Type 0 where
  pub each : (s : Sign) (a : ℕ) → a < 16 → SetOf (slice_index (claimed s c) a) (Early P i X s a)

-- c has the claims in X
abbrev pub Claimed : List Rule → LiteralSet → Claims → Type 0
Claimed P X c = ClaimedEarly P (length P) X c

-- d has the claims of c, and that of the rule
pub record Noted (r : Rule) (X : LiteralSet) (c d : Claims) : Type 0 where
  pub each : (s : Sign) (a : ℕ) → a < 16 → SetOf (slice_index (claimed s d) a) (λ j. (Mem j (slice_index (claimed s c) a)) ⊎ ClaimsBy r X s a j)

-- where the sheets have these claims, m has the defaults
abbrev pub Unclaimed : Claims → ℕ → ℕ → Type 0
Unclaimed c n m = (P : List Rule) (X : LiteralSet) → Claimed P X c → SetOf m (Default P n X)

-- a sheet that overrules that of the rule, by this table, claims the opposite of its head
abbrev pub Against : List ℕ → Claims → Rule → Type 0
Against table c r = (j : ℕ) × Mem j (slice_index (claimed (opposite r.sign) c) r.head) × Mem j (slice_index table r.sheet)

-- r is a rule of P that no such sheet rejects
abbrev pub Standing : List Rule → List ℕ → Claims → Rule → Type 0
Standing P table c r = (r ∈ P) × (Against table c r → ⊥)
