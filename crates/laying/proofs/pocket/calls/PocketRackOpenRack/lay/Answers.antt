use Rattle.std.proofs.Common.{sym, refl, ◌∙◌, ap}
use Rattle.std.proofs.lemmas.Result.{err_from_is_err_and}
use Rattle.rules.specs.declared.rule.Shape.{Shape}
use Rattle.rules.specs.Refusals.{first_met}
use Rattle.racks.specs.Changing.{sheets_meaning, laid, layable}
use Rattle.racks.specs.Meaning.{Meaning}
use Rattle.racks.proofs.Laid.{changed, passes}
use Rattle.laying.specs.Laying.{ground, admit_table}
use Rattle.laying.specs.Laid.{used_all}
use Rattle.laying.specs.Pocketing.{pocket_meaning}
use Rattle.laying.proofs.Answered.{lay_like, lay_passes}
use Rattle.laying.proofs.pocket.calls.PocketRackOpenRack.lay.Goals as goal

pub returns-in_err-admit : goal.returns-in_err-admit
returns-in_err-admit c =
    let p = err_from_is_err_and c.from_residual.result c.from_residual.ensures.1 in
    let m = pocket_meaning c.args.self.now in
    let s = ap (λ (own : Shape). first_met (admit_table own 64 c.args.record)) c.shape.ensures in
    rw (p.1, p.2) (lay_like (ground m 0 64) c.args.record _ refl refl (used_all m) ∙ sym s ∙ c.in_err-admit.ensures.0, refl)

-- 64 places are fewer than a table has
pub unwrap-requires : goal.unwrap-requires
unwrap-requires c =
    let m = pocket_meaning c.args.self.now in
    let x = c.args.record in
    let s = ap (λ (own : Shape). first_met (admit_table own 64 x)) c.shape.ensures in
    passes (λ k. layable k x) (λ k. laid k x) m (sheets_meaning c.lay.new.self) c.lay.result (lay_passes m x (sym s ∙ c.in_ok-admit.ensures.0)) c.lay.ensures

pub returns : goal.returns
returns c =
    let m = pocket_meaning c.args.self.now in
    let x = c.args.record in
    let s = ap (λ (own : Shape). first_met (admit_table own 64 x)) c.shape.ensures in
    let d = changed (λ k. layable k x) (λ k. laid k x) m (sheets_meaning c.lay.new.self) c.lay.result c.unwrap.ensures c.lay.ensures in
    (lay_like (ground m 0 64) x _ refl refl (used_all m) ∙ sym s ∙ c.in_ok-admit.ensures.0, ap (λ (k : Meaning). ground k 0 64) d.1)
