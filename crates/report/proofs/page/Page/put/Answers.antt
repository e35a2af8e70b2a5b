use Rattle.std.proofs.Common.{refl, arith}
use Rattle.std.proofs.lemmas.Grind.{common_steps}
use Rattle.report.specs.Writing.{spliced}
use Rattle.report.proofs.page.Page.put.Goals as goal

pub returns : goal.returns
unfolding spliced
returns c = record {
  same_buffer = refl;
  puts = record { room = c.requires.room; leaves = grind (arith, common_steps); ends = refl };
}
