-- A listing of what a kiosk shows is one of its book.
use Rattle.std.proofs.Common.{◌≡◌, ℕ, zero, suc, ◌<◌, List, [], ◌∷◌, ◌++◌, length, take, replicate, Ok, Err, vec_items, Result, ap, ◌∙◌, subst, ⊎_elim, arith}
use mathlib.Core.List.Memᴰ
use mathlib.Core.List.{Memᴰ}
use Rattle.std.proofs.lemmas.List.{take-append-le, take_all}
use Rattle.rules.specs.declared.rule.Rule.{Rule}
use Rattle.rules.specs.Semantics.{LiteralSet, Overruling, Total, Outcome, WellFounded}
use Rattle.rules.proofs.Computed.{each_place}
use Rattle.rules.proofs.Theory.{outcome_between}
use Rattle.racks.specs.Meaning.{Meaning, Kept}
use Rattle.evaluator.specs.declared.answer.EvaluatorFault.{EvaluatorFault}
use Rattle.evaluator.specs.Answers.{Listed}
use Rattle.kiosk.specs.declared.call.Call.{Call}
use Rattle.kiosk.specs.declared.call.Call.TheVariants.{Outcomes}
use Rattle.kiosk.specs.Book.{Book}
use Rattle.kiosk.specs.Standing.{shown}
use Rattle.runs.specs.declared.run.Answer.{Answer}
use Rattle.runs.specs.declared.run.Answer.TheVariants.{Done, Listed as WithList}
use Rattle.runs.specs.Running.{Listing, ListedInto, Answers, asks, told, Between}

take_mem : (x k : ℕ) (xs : List ℕ) → Memᴰ x (take k xs) → Memᴰ x xs
take_mem x zero [] m = m
take_mem x zero (y ∷ ys) m = absurd (Memᴰ.not-nil m)
take_mem x (suc k) [] m = m
take_mem x (suc k) (y ∷ ys) m = ⊎_elim (λ e. Memᴰ.head e) (λ t. Memᴰ.tail (take_mem x k ys t)) (Memᴰ.cases_cons m)

told_outcome : (P : List Rule) (over : Overruling) (n : ℕ) (old new : List ℕ) (r : Result ℕ EvaluatorFault) → Listed P over n old new r → (M : ℕ) → Memᴰ M (told new r) → Outcome P over n M
told_outcome P over n old new (Ok k) h M m = h.front.only M m
told_outcome P over n old new (Err f) h M m =
    let o = h.1 in
    o.listed.only M (take_mem M (length new) o.outcomes (subst (λ (xs : List ℕ). Memᴰ M xs) o.lowest m))

listing : (m : Meaning) (over : Overruling) (old new : List ℕ) (r : Result ℕ EvaluatorFault) → Kept m → Total over → Listed m.rules over m.matters old new r
    → (X : LiteralSet) → WellFounded m.rules over m.matters X → (M : ℕ) → Memᴰ M (told new r) → Between X M
listing m over old new r kept total h X w M i =
    let formed = each_place m.rules (λ (q : Rule). q.head < m.matters) (λ k l. (kept.sound k l).1) in
    outcome_between total formed (told_outcome m.rules over m.matters old new r h M i) w

pub listing_of : (m : Meaning) (b : Book) (over : Overruling) (old new : List ℕ) (r : Result ℕ EvaluatorFault) → Kept m → Total over → m ≡ shown b → length new ≡ length old → Listed m.rules over m.matters old new r → Listing over b old new r
listing_of m b over old new r kept total e n h =
    let k = subst Kept e kept in
    let l = subst (λ (x : Meaning). Listed x.rules over x.matters old new r) e h in
    record { listed = l; places_kept = n; agrees = listing (shown b) over old new r k total l }

-- the list behind the places
pub listing_moved : {over : Overruling} {b : Book} {old old' new new' : List ℕ} {r : Result ℕ EvaluatorFault} → old ≡ old' → new ≡ new' → Listing over b old new r → Listing over b old' new' r
listing_moved {over} {b} {old} {old'} {new} {new'} {r} p q l = subst (λ (xs : List ℕ). Listing over b old' xs r) q (subst (λ (xs : List ℕ). Listing over b xs new r) p l)

pub front_again : (xs ys : List ℕ) (n : ℕ) → length xs ≡ n → take n (xs ++ ys) ≡ xs
front_again xs ys n e = take-append-le n xs ys (omega arith) ∙ take_all n xs (omega arith)

-- a listing into a blank list answers the call
pub listed_answers : (over : Overruling) (places : ℕ) (b : Book) (c : Call) (old : List ℕ) (a : Answer) → c ≡ Outcomes → old ≡ replicate places 0 → ListedInto over b old a → Answers over places b c a
listed_answers over places b c old (Done r) e q h = absurd h
listed_answers over places b c old (WithList r list) e q h = (ap asks e, subst (λ (xs : List ℕ). Listing over b xs (vec_items list) r) q h)
