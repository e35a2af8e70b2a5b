use Rattle.lanes.proofs.Gathering.{noted_none}
use Rattle.lanes.proofs.claimants.Claimants.none.Goals as goal

pub invariant_of-result-clause-noted : goal.invariant_of-result-clause-noted
invariant_of-result-clause-noted c = noted_none
