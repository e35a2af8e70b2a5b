use Rattle.std.proofs.Common.{◌≡◌, Bool, true, false, ◌&&◌}
use Rattle.std.proofs.lemmas.Bool.{eq-eqb, ne_eqb}
use Rattle.std.proofs.lemmas.Bool.Decides.{Decides-at}
use Rattle.rules.specs.Semantics.{body}
use Rattle.rules.proofs.Computed.{within, includes, decides_includes}
use Rattle.rules.proofs.rule.Rule.body_true.Goals as goal

and_then : (x y : Bool) → x ≡ true → y ≡ (x && y)
and_then x y e = rw e

and_else : (x y : Bool) → x ≡ false → x ≡ (x && y)
and_else x y e = rw e

pub returns-then-self-x : goal.returns-then-self-x
returns-then-self-x c =
    let r = c.args.self in let x = c.args.x in
    Decides-at (within r.no x.1) (includes (body r) x) (and_then (within r.yes x.0) (within r.no x.1) (eq-eqb _ _ c.if-self-x.true)) (decides_includes (body r) x)

pub returns-else-self-x : goal.returns-else-self-x
returns-else-self-x c =
    let r = c.args.self in let x = c.args.x in
    Decides-at (within r.yes x.0) (includes (body r) x) (and_else (within r.yes x.0) (within r.no x.1) (ne_eqb _ _ c.if-self-x.false)) (decides_includes (body r) x)
