-- Which answer a lay on an open rack gives.
use Rattle.std.proofs.Common.{◌≡◌, ℕ, ◌-◌, ◌<◌, ◌≤◌, true, length, Option, Some, None, nat_le, ap, refl, arith}
use Rattle.std.proofs.lemmas.Bool.{and_from, leb-false, lt-leb, lt-ltb, not_from_true, not-false}
use Rattle.rules.specs.declared.record.Record.{Record}
use Rattle.rules.specs.declared.rule.Shape.{Shape}
use Rattle.rules.specs.Records.{good}
use Rattle.rules.specs.Refusals.{first_met}
use Rattle.rules.proofs.Refusing.{unmet, none_met}
use Rattle.racks.specs.Meaning.{Meaning, shaped}
use Rattle.racks.specs.Changing.{under, withdrawn, layable, withdrawable, Changes}
use Rattle.racks.proofs.Chosen.{kept_fewer}
use Rattle.laying.specs.Laying.{Ground, used, lay_table, admit_table}

module _ (g : Ground) (x : Record) where
  pub lay_fine : g.floor < g.meaning.sheets → good g.meaning.matters x ≡ true → used g.meaning g.floor < g.places → first_met (lay_table g x) ≡ None
  lay_fine l b u = unmet 12 _ (lt-leb g.meaning.sheets g.floor l) (unmet 13 _ (not_from_true _ b) (unmet 14 _ (lt-leb g.places (used g.meaning g.floor) u) refl))

  -- sheets of this shape are refused by the number by which the whole rack is
  pub lay_like : (own : Shape) → nat_le g.meaning.sheets g.floor ≡ nat_le own.sheets 0 → g.meaning.matters ≡ own.matters → used g.meaning g.floor ≡ own.rules → first_met (lay_table g x) ≡ first_met (admit_table own g.places x)
  lay_like own f m u = cc

-- what is known where nothing is refused
pub record Admitted (own : Shape) (places : ℕ) (x : Record) : Type 0 where
  pub on : 0 < own.sheets
  pub fine : good own.matters x ≡ true
  pub room : own.rules < places

pub admitted : (own : Shape) (places : ℕ) (x : Record) → first_met (admit_table own places x) ≡ None → Admitted own places x
admitted own places x e =
    let a = none_met 12 _ _ e in
    let b = none_met 13 _ _ a.1 in
    let c = none_met 14 _ _ b.1 in
    record { on = leb-false own.sheets 0 a.0; fine = not-false _ b.0; room = leb-false places own.rules c.0 }

-- a rule that 64 places admit finds room in a table
pub lay_passes : (m : Meaning) (x : Record) → first_met (admit_table (shaped m) 64 x) ≡ None → layable m x ≡ true
lay_passes m x e =
    let a = admitted (shaped m) 64 x e in
    let r = a.room in
    and_from _ _ (lt-ltb 0 m.sheets a.on) (and_from _ _ a.fine (lt-ltb (length m.rules) 256 (omega arith)))

-- no sheet that is withdrawn adds a rule
pub withdraw_fewer : (m o : Meaning) (r : Option (Unit {0})) → Changes withdrawable withdrawn m r o → length o.rules ≤ length m.rules
withdraw_fewer m o (Some u) h = let k = kept_fewer (under (m.sheets - 1)) m.rules in let e = ap (λ (p : Meaning). length p.rules) h.1 in omega arith
withdraw_fewer m o None h = let e = ap (λ (p : Meaning). length p.rules) h.1 in omega arith
