-- What a list holds as the outcomes come: those below a number, and at the end all of them.
use Rattle.std.proofs.Common.{ℕ, ◌<◌, ◌≤◌, List, ⊎_elim, arith}
use Rattle.std.proofs.lemmas.Bool.{cases_lt}
use Rattle.rules.specs.declared.rule.Rule.{Rule}
use Rattle.rules.specs.Semantics.{Overruling, Outcome, Lists}
use Rattle.rules.proofs.Listing.{ListsBelow, Found}

-- the outcomes below p are those below m where there is none between
pub found_far : {P : List Rule} {over : Overruling} {n p m count : ℕ} {old new : List ℕ} → p ≤ m → ((M : ℕ) → p ≤ M → M < m → Outcome P over n M → ⊥) → Found P over n p count old new → Found P over n m count old new
found_far {p = p} l none f = record {
  room = f.room;
  found = let b = f.found in record {
    ascending = b.ascending;
    only = λ M i. let w = b.only M i in ((let h = w.0 in omega arith), w.1);
    all = λ M h o. ⊎_elim (λ k. b.all M k o) (λ k. absurd (none M k h o)) (cases_lt M p);
  };
  rest = f.rest;
}

pub found_end : {P : List Rule} {over : Overruling} {n p : ℕ} {Ms : List ℕ} → ((M : ℕ) → p ≤ M → Outcome P over n M → ⊥) → ListsBelow P over n p Ms → Lists P over n Ms
found_end {p = p} none b = record {
  ascending = b.ascending;
  only = λ M i. (b.only M i).1;
  all = λ M o. ⊎_elim (λ k. b.all M k o) (λ k. absurd (none M k o)) (cases_lt M p);
}
