use Rattle.std.proofs.Common.{◌≡◌, ℕ, true, Err, sym, ap, ◌∙◌, subst}
use Rattle.std.proofs.lemmas.Result.{err_from_is_err_and}
use Rattle.rules.specs.declared.rule.Shape.{Shape}
use Rattle.rules.specs.Records.{good}
use Rattle.rules.specs.Refusals.{first_met}
use Rattle.laying.specs.Laying.{Ground, admit_table, Lays}
use Rattle.laying.specs.Pocketing.{pocket_meaning}
use Rattle.laying.proofs.Answered.{admitted}
use Rattle.racks.specs.Meaning.{shaped}
use Rattle.layers.specs.Over.{own_places, stood}
use Rattle.layers.specs.OverLemmas.{fit_from}
use Rattle.layers.specs.Amending.{lay_over, refused_over}
use Rattle.layers.proofs.amended.AmendedOpenRack.lay.Goals as goal

pub returns-in_err-admit : goal.returns-in_err-admit
returns-in_err-admit g c =
    let p = err_from_is_err_and c.from_residual.result c.from_residual.ensures.1 in
    let s = c.settle-below.new.self in
    let x = c.args.record in
    let m = g.R.Rack.meaning s.below in
    let o = pocket_meaning s.own in
    let asked = ap (λ (y : Shape). first_met (admit_table y c.places.result x)) c.shape.ensures ∙ ap (λ (n : ℕ). first_met (admit_table (shaped o) n x)) (c.places.ensures ∙ ap own_places c.settle-below.ensures.shape) in
    rw (p.1, p.2) (subst (λ (h : Ground). Lays {U = Unit {0}} h x (Err c.in_err-admit.field-0.0) (stood m o)) c.settle-below.ensures.same (refused_over m o (g.met.R.Rack.kept s.below) c.settle-below.ensures.fit x c.in_err-admit.field-0.0 (sym asked ∙ c.in_err-admit.ensures.0)))

pub returns : goal.returns
returns g c =
    let s = c.settle-below.new.self in
    let x = c.args.record in
    let m = g.R.Rack.meaning s.below in
    let o = pocket_meaning s.own in
    let p = pocket_meaning c.lay.new.self in
    let asked = ap (λ (y : Shape). first_met (admit_table y c.places.result x)) c.shape.ensures ∙ ap (λ (n : ℕ). first_met (admit_table (shaped o) n x)) (c.places.ensures ∙ ap own_places c.settle-below.ensures.shape) in
    let fit = c.settle-below.ensures.fit in
    let d = admitted (shaped o) (own_places (shaped m)) x (sym asked ∙ c.in_ok-admit.ensures.0) in
    let fine = subst (λ (n : ℕ). good n x ≡ true) (fit_from (shaped m) (shaped o) fit).same_matters d.fine in
    subst (λ (h : Ground). Lays h x c.lay.result (stood m p)) c.settle-below.ensures.same (lay_over m o p (g.met.R.Rack.kept s.below) fit x c.lay.result d.on fine d.room c.lay.ensures)
