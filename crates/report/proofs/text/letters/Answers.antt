use Rattle.std.proofs.Common.{rules, ◌≡◌, refl}
use Rattle.report.specs.Text.{cells, letter}
use Rattle.report.proofs.Made.{made}
use Rattle.report.proofs.text.letters.Goals as goal

pub returns : goal.returns
unfolding cells
returns c = made _ (letter c.args.model) (λ s. (s.0.now ≡ c.args.model.0) × (s.1.now ≡ c.args.model.1)) (λ s i y t h k. (search rules, search rules)) _ c.from_fn.result 16 (refl, refl) c.from_fn.ensures.items
