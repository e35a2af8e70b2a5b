use Rattle.report.proofs.Lengths.{length_text}
use Rattle.report.proofs.text.Text.len.Goals as goal

pub returns : goal.returns
returns c = let t = c.args.self.now in cc (length_text t.code t.matters t.outcomes.now t.model)
