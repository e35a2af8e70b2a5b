use Rattle.std.proofs.Common.{◌^◌, ◌≤◌, sym, ◌∙◌, ⊎_elim, arith, pow_mono}
use Rattle.std.proofs.lemmas.Nat.{pow_pos}
use Rattle.std.proofs.lemmas.Bool.{le-leb, lt-leb, lt-ltb, le-ltb, cases_lt}
use Rattle.rules.proofs.record.names_only.Goals as goal

-- a set of 16 bits names no matter from 16 on
pub returns : goal.returns
returns c =
    let s = c.args.set in
    let n = c.args.matters in
    let r = c.all_matters.result in
    let some = pow_pos n in
    ⊎_elim
    (λ l. let w = c.all_matters.ensures.few (omega arith) in
    ⊎_elim (λ k. le-leb s r (omega arith) ∙ sym (lt-ltb s (2 ^ n) k)) (λ k. lt-leb s r (omega arith) ∙ sym (le-ltb s (2 ^ n) k)) (cases_lt s (2 ^ n)))
    (λ g. let w = c.all_matters.ensures.more g in
    let p : 2 ^ 16 ≤ 2 ^ n = pow_mono g in
    le-leb s r (omega arith) ∙ sym (lt-ltb s (2 ^ n) (omega arith)))
    (cases_lt n 16)
