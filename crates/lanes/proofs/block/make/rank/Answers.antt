use Rattle.std.proofs.Common.{◌-◌, ◌∙◌, ap, ℕ}
use lib.Bits.{bit_and}
use lib.Count.{ones}
use Rattle.std.proofs.lemmas.Nat.{and_mask, one_shl}
use Rattle.lanes.proofs.Sides.{rank_counted}
use Rattle.lanes.proofs.block.make.rank.Goals as goal

pub returns : goal.returns
returns c =
    ap (λ (x : ℕ). ones (bit_and c.args.set (x - 1))) (one_shl c.args.a 16 c.requires)
    ∙ ap ones (and_mask c.args.set c.args.a)
    ∙ rank_counted c.args.set c.args.a
