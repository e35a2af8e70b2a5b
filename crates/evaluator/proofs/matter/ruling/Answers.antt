use Rattle.std.proofs.Common.{false, refl, rules}
use Rattle.evaluator.proofs.Surveyed.{noted_start, surveyed}
use Rattle.evaluator.proofs.matter.ruling.Goals as goal

pub returns : goal.returns
returns g c =
    let d = c.fold.ensures.ran in (
      c.in_ok-known.ensures.0,
      surveyed c.args.matter (λ r m s h k. (search rules, λ with without e. search rules)) d.0 c.new.result d.2.0 _ c.fold.result d.1 false false c.new.ensures refl noted_start noted_start d.2.1 d.3,
    )
