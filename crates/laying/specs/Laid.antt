-- What stands on the floor 0.
use Rattle.std.specs.Prelude.{◌≡◌, ◌≤◌, List, length, nat_le}
use Rattle.std.proofs.Common.{ap, arith}
use Rattle.std.specs.List.{AllByRecursion}
use Rattle.std.proofs.ByRecursion.{All-from_get_or}
use Rattle.std.proofs.lemmas.Bool.{le-leb, le-ltb}
use Rattle.rules.specs.declared.rule.Rule.{Rule}
use Rattle.rules.specs.Parts.{no_rule}
use Rattle.racks.specs.Meaning.{Meaning}
use Rattle.laying.specs.Laying.{ground, Grounded, under, used, below_floor}
use Rattle.racks.proofs.Chosen.{kept_all, kept_none}

-- over the floor 0 every rule takes a place
pub every : (Q : Rule → Type 0) (P : List Rule) → ((r : Rule) → Q r) → AllByRecursion Q P
every Q P h = All-from_get_or Q P no_rule (λ i _. h _)

pub used_all : (m : Meaning) → used m 0 ≡ length m.rules
used_all m = ap length (kept_all (λ r. nat_le 0 r.sheet) m.rules (every _ _ (λ r. le-leb 0 r.sheet (omega arith))))

pub below_none : (m : Meaning) → below_floor m 0 ≡ 0
below_none m = ap length (kept_none (under 0) m.rules (every _ _ (λ r. le-ltb r.sheet 0 (omega arith))))

-- all its sheets are above the floor, and have room in 64 places
pub grounded_low : (m : Meaning) → length m.rules ≤ 64 → Grounded (ground m 0 64)
grounded_low m l =
    let u = used_all m in
    let b = below_none m in
    record { floored = omega arith; housed = omega arith; bounded = omega arith }
