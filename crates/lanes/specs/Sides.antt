-- Which lanes hold a matter.
use Rattle.std.specs.Prelude.{◌≡◌, ℕ, ◌-◌, ◌^◌, ◌<◌, bit_or, slice_set}
use Rattle.steps.specs.Parts.{SetOf}
use Rattle.lanes.specs.declared.block.Block.{Block}
use Rattle.lanes.specs.declared.block.side.Side.{Side}
use Rattle.lanes.specs.declared.block.side.Side.TheVariants.{In, Out, Varying}

-- the side is that of the lanes of which Q holds
abbrev pub Takes : Side → (ℕ → Type 0) → Type 0
Takes In Q = (l : ℕ) → l < 64 → Q l
Takes Out Q = (l : ℕ) → l < 64 → Q l → ⊥
Takes (Varying w) Q = SetOf w (λ l. (l < 64) × Q l)

-- the matter a is put on its side in the block
abbrev pub PutAs : ℕ → Side → Block → Block → Type 0
PutAs a In b c = (c.yes ≡ slice_set b.yes a 18446744073709551615) × (c.no ≡ b.no) × (c.some ≡ (bit_or b.some.0 (2 ^ a), b.some.1)) × (c.varying ≡ b.varying)
PutAs a Out b c = (c.yes ≡ b.yes) × (c.no ≡ slice_set b.no a 18446744073709551615) × (c.some ≡ (b.some.0, bit_or b.some.1 (2 ^ a))) × (c.varying ≡ b.varying)
PutAs a (Varying w) b c =
    (c.yes ≡ slice_set b.yes a w)
    × (c.no ≡ slice_set b.no a (18446744073709551615 - w))
    × (c.some ≡ (bit_or b.some.0 (2 ^ a), bit_or b.some.1 (2 ^ a)))
    × (c.varying ≡ bit_or b.varying (2 ^ a))
