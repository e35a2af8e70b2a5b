-- What a trial stands for: the rules P without their tautologies, n matters, and the relation `over`.
use Rattle.std.specs.Prelude.{◌≡◌, ℕ, ◌+◌, ◌^◌, ◌<◌, ◌≤◌, List, length, Ok, Err, Result}
use Rattle.rules.specs.declared.rule.Rule.{Rule}
use Rattle.rules.specs.Semantics.{Mem, LiteralSet, Overruling, settled, struck}
use Rattle.steps.specs.Parts.{SetOf, Ready, Tabled}
use Rattle.lanes.specs.declared.trial.Trial.{Trial}
use Rattle.lanes.specs.declared.block.Block.{Block}
use Rattle.lanes.specs.Blocks.{Has}
use Rattle.lanes.specs.Docketing.{Docketed}
use Rattle.lanes.specs.Settling.{Stands}

pub record Sound (P : List Rule) (t : Trial) : Type 0 where
  pub ready : Ready t.matters P
  pub docketed : Docketed P 16 t.docket
  pub whole : length t.overrulers ≡ 32

-- the trial is by the rules P and the relation `over`, and the block has the sets X
pub record Facing (P : List Rule) (over : Overruling) (X : ℕ → LiteralSet) (t : Trial) (b : Block) : Type 0 where
  pub sound : Sound P t
  pub tabled : Tabled over t.overrulers
  pub has : Has X b

-- the lanes of w in whose set each of the matters from i up to j stands
abbrev pub StandFrom : List Rule → Overruling → ℕ → (ℕ → LiteralSet) → ℕ → ℕ → ℕ → ℕ → Type 0
StandFrom P over n X i j w l = Mem l w × ((a : ℕ) → i ≤ a → a < j → Stands (struck P) over n (X l) a)

-- a is the first matter from i on, and below j, after which no lane of w is left
pub record RuledOut (P : List Rule) (over : Overruling) (n : ℕ) (X : ℕ → LiteralSet) (i j w a : ℕ) : Type 0 where
  pub reached : i ≤ a
  pub below : a < j
  pub none : SetOf 0 (StandFrom P over n X i (a + 1) w)
  pub first : i < a → SetOf 0 (StandFrom P over n X i a w) → ⊥

-- what a sweep of the lanes w over the matters from i up to j answers: the lanes that are left, or the matter that left none
abbrev pub Sweeps : List Rule → Overruling → ℕ → (ℕ → LiteralSet) → ℕ → ℕ → ℕ → Result ℕ ℕ → Type 0
Sweeps P over n X i j w (Ok v) = SetOf v (StandFrom P over n X i j w) × (i < j → v ≡ 0 → ⊥)
Sweeps P over n X i j w (Err a) = RuledOut P over n X i j w a

-- the block has the candidates M, lane by lane, for a trial by the rules P and the relation `over`
pub record Tries (P : List Rule) (over : Overruling) (M : ℕ → ℕ) (t : Trial) (b : Block) : Type 0 where
  pub sound : Sound P t
  pub tabled : Tabled over t.overrulers
  pub small : (l : ℕ) → M l < 2 ^ t.matters
  pub has : Has (λ l. settled t.matters (M l)) b
