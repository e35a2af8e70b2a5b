-- What a finder has still to give.
use Rattle.std.specs.Prelude.{◌≡◌, ℕ, ◌+◌, ◌<◌, ◌≤◌, List, Some, None, Option, bit_or}
use Rattle.rules.specs.declared.rule.Rule.{Rule}
use Rattle.rules.specs.Held.{held}
use Rattle.rules.specs.Semantics.{Overruling, Outcome}
use Rattle.evaluator.specs.declared.finder.Finder.{Finder}
use Rattle.evaluator.specs.declared.finder.candidates.Candidates.{Candidates}
use Rattle.steps.specs.Parts.{Tabled}
use Rattle.steps.specs.Subsets.{part}

-- the set that is tried with the part number t
abbrev pub candidate : Candidates → ℕ → ℕ
candidate c t = bit_or c.yes (part 16 c.undecided t)

-- the answer for that set: the set itself if it is an outcome
abbrev pub Tried : Candidates → ℕ → Option ℕ → Type 0
Tried c t (Some m) = (m ≡ candidate c t) × ((over : Overruling) → Tabled over c.overrulers → Outcome (held c.table) over c.matters m)
Tried c t None = (over : Overruling) → Tabled over c.overrulers → Outcome (held c.table) over c.matters (candidate c t) → ⊥

-- M is tried from here on
abbrev pub Waits : Finder → ℕ → Type 0
Waits f M = (t : ℕ) × (f.untried.start ≤ t) × (t < f.untried.end) × (M ≡ candidate f.candidates t)

-- f has to give the outcomes that are not below p
pub record From (P : List Rule) (over : Overruling) (n : ℕ) (f : Finder) (p : ℕ) : Type 0 where
  pub rules_are : held f.candidates.table ≡ P
  pub matters_are : f.candidates.matters ≡ n
  pub tabled : Tabled over f.candidates.overrulers
  pub rising : (t u : ℕ) → t < u → u < f.untried.end → candidate f.candidates t < candidate f.candidates u
  pub low : (t : ℕ) → f.untried.start ≤ t → t < f.untried.end → p ≤ candidate f.candidates t
  pub all : (M : ℕ) → Outcome P over n M → p ≤ M → Waits f M

-- m is the lowest outcome that is not below p, and g has to give those above it
pub record Given (P : List Rule) (over : Overruling) (n : ℕ) (g : Finder) (p m : ℕ) : Type 0 where
  pub not_below : p ≤ m
  pub outcome : Outcome P over n m
  pub least : (M : ℕ) → p ≤ M → M < m → Outcome P over n M → ⊥
  pub further : From P over n g (m + 1)

abbrev pub Handed : List Rule → Overruling → ℕ → Finder → ℕ → Option ℕ → Type 0
Handed P over n g p (Some m) = Given P over n g p m
Handed P over n g p None = (M : ℕ) → p ≤ M → Outcome P over n M → ⊥

-- f gives this answer, and is g then
abbrev pub Hands : Finder → Option ℕ → Finder → Type 0
Hands f r g = (P : List Rule) (over : Overruling) (n p : ℕ) → From P over n f p → Handed P over n g p r
