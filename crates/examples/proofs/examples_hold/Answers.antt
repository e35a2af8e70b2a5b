use Rattle.examples.proofs.Worked.{examples}
use Rattle.examples.proofs.examples_hold.Goals as goal

pub returns : goal.returns
returns c = examples
