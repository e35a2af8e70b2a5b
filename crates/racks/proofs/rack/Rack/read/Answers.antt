use Rattle.std.proofs.Common.{◌<◌, length, ap, ◌∙◌, arith}
use Rattle.std.proofs.lemmas.List.{take_all, length-take-le}
use Rattle.std.proofs.lemmas.Option.{slice_get-get_or}
use Rattle.rules.specs.Held.{held}
use Rattle.rules.specs.Parts.{no_rule}
use Rattle.rules.specs.declared.rule.Shape.{Shape}
use Rattle.racks.specs.Tables.{push_room, copied_more}
use Rattle.racks.proofs.rack.Rack.read.Goals as goal
use Rattle.racks.proofs.rack.Rack.read.Goals.{in-Some, in_default}

pub loop-place-preserved : goal.loop-place-preserved
loop-place-preserved g c =
    let xs = (g.Self.Rack.meaning c.args.self.now).rules in
    let i = c.loop-place.place in
    let few = (g.met.Self.Rack.kept c.args.self.now).few_rules in
    let e = ap (λ (s : Shape). s.rules) c.shape-shape.ensures in
    let l : i < length xs = omega arith in
    let n = ap length c.loop-place.invariant ∙ length-take-le i xs (omega arith) in
    elim c.match-rule.branch [
      | in-Some w ↦ ap held w.table-is ∙ copied_more xs _ _ i _ c.loop-place.invariant l w.in-Some.ensures (push_room _ _ _ _ (omega arith) w.push.ensures.value w.push.ensures.after)
      | in_default w ↦ absurd (w.in_default.not-Some _ (c.rule.ensures ∙ slice_get-get_or xs i no_rule l))
    ]

pub returns : goal.returns
returns g c =
    let xs = (g.Self.Rack.meaning c.args.self.now).rules in
    let e = ap (λ (s : Shape). s.rules) c.shape-shape.ensures in
    c.loop-place.invariant ∙ take_all c.loop-place.place xs (omega arith)
