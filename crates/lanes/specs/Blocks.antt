-- What a block stands for: X l is the literal set of lane l.
use Rattle.std.specs.Prelude.{ℕ, ◌<◌, List, slice_index}
use Rattle.rules.specs.declared.rule.Sign.{Sign}
use Rattle.rules.specs.declared.rule.Sign.TheVariants.{Yes, No}
use Rattle.rules.specs.Semantics.{Mem, LiteralSet, Holds}
use Rattle.steps.specs.Parts.{SetOf}
use Rattle.lanes.specs.declared.block.Block.{Block}

abbrev pub words : Sign → Block → List ℕ
words Yes b = b.yes
words No b = b.no

pub record Has (X : ℕ → LiteralSet) (b : Block) : Type 0 where
  -- each literal's word is the set of the lanes that hold it
  pub lanes : (s : Sign) (a : ℕ) → a < 16 → SetOf (slice_index (words s b) a) (λ l. (l < 64) × Holds (X l) s a)
  -- `some` has what any lane holds, and but for the varying matters each lane holds all of it
  pub any : (s : Sign) (a l : ℕ) → l < 64 → Holds (X l) s a → Holds b.some s a
  pub each : (s : Sign) (a l : ℕ) → l < 64 → Holds b.some s a → (Mem a b.varying → ⊥) → Holds (X l) s a
