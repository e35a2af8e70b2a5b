use Rattle.std.proofs.Common.{rules, ◌≡◌, refl}
use Rattle.report.specs.Text.{cells, digit}
use Rattle.report.proofs.Made.{made}
use Rattle.report.proofs.text.digits.Goals as goal

pub returns : goal.returns
unfolding cells
returns c = made _ (digit c.args.outcome) (λ s. s.0.now ≡ c.args.outcome) (λ s i y t h k. (search rules, search rules)) _ c.from_fn.result 16 refl c.from_fn.ensures.items
