-- Notions for the contracts of the parts of a step.
use Rattle.std.specs.Prelude.{◌≡◌, ℕ, ◌<◌, ◌≤◌, true, List, length, slice_index}
use Rattle.rules.specs.declared.rule.Rule.{Rule}
use Rattle.rules.specs.Semantics.{Mem, ◌∈◌, Formed, Overruling}

-- the list has just these rules
pub record Members (Q : List Rule) (rule : Rule → Type 0) : Type 0 where
  pub all : (r : Rule) → rule r → r ∈ Q
  pub only : (r : Rule) → r ∈ Q → rule r

-- the set has just these
pub record SetOf (m : ℕ) (wanted : ℕ → Type 0) : Type 0 where
  pub all : (a : ℕ) → wanted a → Mem a m
  pub only : (a : ℕ) → Mem a m → wanted a

-- what the search asks of the rules that it works on; every rack keeps to it
pub record Ready (n : ℕ) (P : List Rule) : Type 0 where
  pub few_matters : n ≤ 16
  pub few_rules : length P ≤ 256
  pub formed : Formed n P
  pub low_sheets : (r : Rule) → r ∈ P → r.sheet < 32

-- j is one of the sheets, and overrules i
abbrev pub Overrules : Overruling → ℕ → ℕ → Type 0
Overrules over i j = (j < 32) × (over j i ≡ true)

-- the table has for each sheet the set of those that overrule it
pub record Tabled (over : Overruling) (table : List ℕ) : Type 0 where
  pub each : (i : ℕ) → i < 32 → SetOf (slice_index table i) (Overrules over i)
