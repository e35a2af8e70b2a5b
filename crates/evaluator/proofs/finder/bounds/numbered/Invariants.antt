use Rattle.std.proofs.Common.{◌≡◌}
use Rattle.std.specs.List.{fold}
use Rattle.evaluator.proofs.Numbering.{put}
use Rattle.evaluator.proofs.finder.bounds.numbered.Given as goal

abbrev pub invariant-loop-place : goal.invariant-loop-place
invariant-loop-place l = l.chosen ≡ fold (put l.number) 0 l.yielded
