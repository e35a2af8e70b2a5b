-- In which lanes of a block a body is true.
use Rattle.std.proofs.Common.{ℕ, ◌^◌, ◌<◌, get_or, ⊎_elim}
use lib.Bits.{bit_and}
use Rattle.rules.specs.declared.rule.Rule.{Rule}
use Rattle.rules.specs.declared.rule.Sign.TheVariants.{Yes, No}
use Rattle.rules.specs.Semantics.{Mem, LiteralSet, ◌⊆◌, body}
use Rattle.rules.proofs.Bitwise.{mem_cases, mem_and, mem_and_left, mem_below}
use Rattle.steps.specs.Parts.{SetOf}
use Rattle.steps.proofs.SetOfs.{set_same}
use Rattle.lanes.specs.declared.block.Block.{Block}
use Rattle.lanes.specs.Blocks.{Has}
use Rattle.lanes.proofs.LaneSets.{set_and}

-- the lanes that all of the chosen words have
abbrev pub Together : Prim.Native.Nat.ℕ → mathlib.Core.List.List ℕ → ℕ → Type 0
Together chosen words l = (l < 64) × ((j : ℕ) → Mem j chosen → Mem l (get_or words j 0))

module _ (X : ℕ → LiteralSet) (b : Block) (r : Rule) (has : Has X b) where
  pub body_lanes : (y n : ℕ) → r.yes < 2 ^ 16 → r.no < 2 ^ 16 → body r ⊆ b.some
      → SetOf y (Together (bit_and r.yes b.varying) b.yes) → SetOf n (Together (bit_and r.no b.varying) b.no)
      → SetOf (bit_and y n) (λ l. (l < 64) × (body r ⊆ X l))
  body_lanes y n p q some s t = set_same
      (λ l w. (
        w.0.0,
        record {
          each = elim [
            | Yes ↦ λ a h. ⊎_elim
                (λ v. ((has.lanes Yes a (mem_below 16 r.yes a p h)).only l (w.0.1 a (mem_and a r.yes b.varying h v))).1)
                (λ f. has.each Yes a l w.0.0 (some.each Yes a h) f)
                (mem_cases a b.varying)
            | No ↦ λ a h. ⊎_elim
                (λ v. ((has.lanes No a (mem_below 16 r.no a q h)).only l (w.1.1 a (mem_and a r.no b.varying h v))).1)
                (λ f. has.each No a l w.0.0 (some.each No a h) f)
                (mem_cases a b.varying)
          ];
        },
      ))
      (λ l w. (
        (w.0, λ j h. let k = mem_and_left j r.yes b.varying h in (has.lanes Yes j (mem_below 16 r.yes j p k)).all l (w.0, w.1.each Yes j k)),
        (w.0, λ j h. let k = mem_and_left j r.no b.varying h in (has.lanes No j (mem_below 16 r.no j q k)).all l (w.0, w.1.each No j k)),
      ))
      (set_and s t)
