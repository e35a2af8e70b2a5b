use Rattle.lanes.proofs.trial.Trial.standing.Goals as goal

pub returns : goal.returns
returns c = λ P over X facing below. c.settled.ensures _ over _ X (c.contest.ensures.hears P over X facing) below
