use Rattle.lanes.proofs.Trying.{group_about, group_low}
use Rattle.lanes.proofs.trial.Trial.contest.Goals as goal

pub among-requires : goal.among-requires
among-requires c = group_low c.requires.sound.0 c.args.self.now c.requires.sound.1 c.args.matter _ c.requires.matter c.about.ensures

pub returns-clause-hears : goal.returns-clause-hears
returns-clause-hears c = λ P over X facing. c.among.ensures.hears _ over X _ facing.has facing.tabled (group_about P c.args.self.now facing.sound c.args.matter _ c.requires.matter c.about.ensures)
