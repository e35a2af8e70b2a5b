-- What the firings of a block come from: the defaults, and the rules that survive with a true body.
use Rattle.std.specs.Prelude.{◌≡◌, ℕ, ◌<◌, ◌⊎◌, List, length, bit_or}
use Rattle.rules.specs.declared.rule.Rule.{Rule}
use Rattle.rules.specs.Semantics.{Mem, LiteralSet, ◌⊆◌, body, Overruling, Survives, Default}
use Rattle.lanes.specs.declared.firing.Firing.{Firing}
use Rattle.lanes.specs.declared.firing.Firings.{Firings}
use Rattle.steps.specs.Parts.{SetOf}
use Rattle.lanes.specs.Firing.{at, Lanes, Reached}

-- x is the default of b
abbrev pub OfDefault : ℕ → Firing → Type 0
OfDefault b x = (b ≡ x.head) × (x.needs ≡ 0)

-- x is what the rule gives
abbrev pub OfRule : Rule → Firing → Type 0
OfRule r x = (r.head ≡ x.head) × (x.needs ≡ bit_or r.yes r.no)

-- the rule survives in X, and its body is true there
abbrev pub Live : List Rule → Overruling → LiteralSet → Rule → Type 0
Live Q over X r = Survives Q over X r × (body r ⊆ X)

-- x comes from a default in X, or from a live rule
abbrev pub Reason : List Rule → Overruling → ℕ → LiteralSet → Firing → Type 0
Reason Q over n X x = ((b : ℕ) × Default Q n X b × OfDefault b x) ⊎ ((r : Rule) × Live Q over X r × OfRule r x)

-- some firing that has the lane is of this kind
abbrev pub Entry : List Firing → ℕ → (Firing → Type 0) → Type 0
Entry f l of = (k : ℕ) × (k < length f) × Mem l (at f k).lanes × of (at f k)

-- in the lanes w, the firings come from the defaults and live rules in X, and those of the matters and rules named are there
pub record Holding (Q : List Rule) (over : Overruling) (n : ℕ) (X : ℕ → LiteralSet) (w : ℕ) (matter : ℕ → Type 0) (rule : Rule → Type 0) (f : List Firing) : Type 0 where
  pub only : (k l : ℕ) → k < length f → Mem l (at f k).lanes → Mem l w × Reason Q over n (X l) (at f k)
  pub heads : (k : ℕ) → k < length f → (at f k).head < 16
  pub defaults : (b l : ℕ) → Mem l w → matter b → Default Q n (X l) b → Entry f l (OfDefault b)
  pub rules : (r : Rule) (l : ℕ) → Mem l w → rule r → Live Q over (X l) r → Entry f l (OfRule r)

-- those of the first a matters are there
abbrev pub HoldingTo : List Rule → Overruling → ℕ → (ℕ → LiteralSet) → ℕ → ℕ → List Firing → Type 0
HoldingTo Q over n X w a f = Holding Q over n X w (λ b. b < a) (λ r. r.head < a) f

-- r has the lanes of w in which the literals of all n matters are reached from the defaults by the live rules
pub record FoundedIn (Q : List Rule) (over : Overruling) (n : ℕ) (X : ℕ → LiteralSet) (w r : ℕ) : Type 0 where
  pub firings : Firings
  pub holding : HoldingTo Q over n X w n firings.items.items
  pub words : List ℕ
  pub reached : Reached firings.items.items words
  pub lanes : SetOf r (λ l. Mem l w × ((a : ℕ) → a < n → Lanes words a l))
