-- The facts on a slip.
use Rattle.std.specs.Prelude.{◌≡◌, ℕ, ◌<◌, List, length, Some, None, Option, ◌≢◌, slice_index_or, slice_set}
use Rattle.rules.specs.declared.rule.Rule.{Rule}
use Rattle.rules.specs.declared.rule.Sign.{Sign}
use Rattle.rules.specs.declared.rule.Sign.TheVariants.{No}
use Rattle.kiosk.specs.declared.slip.Fact.{Fact}

-- what a list of facts has past its end
abbrev pub no_fact : Fact
no_fact = record { matter = 0; sign = No }

-- a fact as a rule of a numbered sheet
abbrev pub fact_rule : ℕ → Fact → Rule
fact_rule s f = record { sheet = s; head = f.matter; sign = f.sign; yes = 0; no = 0 }

-- the fact at a place with another sign
abbrev pub re_signed : List Fact → ℕ → Sign → List Fact
re_signed fs i s = slice_set fs i (record { matter = (slice_index_or fs i no_fact).matter; sign = s })

-- the first place of a matter
abbrev pub Finds : List Fact → ℕ → Option ℕ → Type 0
Finds fs a (Some i) = (i < length fs) × ((slice_index_or fs i no_fact).matter ≡ a) × ((k : ℕ) → k < i → (slice_index_or fs k no_fact).matter ≢ a)
Finds fs a None = (k : ℕ) → k < length fs → (slice_index_or fs k no_fact).matter ≢ a

-- facts on matters below n, no two on one matter; said by places, so that an invariant in a type can cite it
abbrev pub Known : ℕ → List Fact → Type 0
Known n fs = (k : ℕ) → k < length fs → (slice_index_or fs k no_fact).matter < n

abbrev pub Apart : List Fact → Type 0
Apart fs = (i j : ℕ) → i < j → j < length fs → (slice_index_or fs i no_fact).matter ≢ (slice_index_or fs j no_fact).matter

-- the matters that a fact may be on: those of the open session, and none without one
abbrev pub matters_in : Option ℕ → ℕ
matters_in (Some n) = n
matters_in None = 0
