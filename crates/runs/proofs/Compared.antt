-- Books that differ only in tautologies list the same.
use Rattle.std.proofs.Common.{◌≡◌, ℕ, ◌+◌, Bool, not, List, [], ◌∷◌, ◌++◌, map, take, Some, Ok, Err, filter, Result, sym, refl, ap, ◌∙◌, subst, ⊎_elim, arith}
use Rattle.std.proofs.lemmas.List.Elements.{filter-append}
use Rattle.std.proofs.lemmas.Bool.{cases_Bool}
use Rattle.rules.specs.declared.rule.Rule.{Rule}
use Rattle.rules.specs.Semantics.{Overruling, Total, Lists, struck, holds, body}
use Rattle.rules.proofs.Tautologies.{equal_struck, same_lists}
use Rattle.laying.specs.Laying.{Ground}
use Rattle.evaluator.specs.declared.answer.EvaluatorFault.{EvaluatorFault}
use Rattle.kiosk.specs.declared.call.Call.{Call}
use Rattle.kiosk.specs.Book.{Book, Sheet}
use Rattle.kiosk.specs.Standing.{on_sheet, numbered, all_sheets, shown}
use Rattle.runs.specs.declared.run.Run.{Run}
use Rattle.runs.specs.declared.run.Start.{Start}
use Rattle.runs.specs.declared.run.Unstarted.{Unstarted}
use Rattle.runs.specs.Running.{first, after, Listing, Replays}
use Rattle.runs.specs.Comparing.{tautology, without_tautologies, SameButTautologies, counted, listed_count}

abbrev kept : Rule → Bool
kept r = not (holds (body r) r.sign r.head)

struck_sheet : (i : ℕ) (s : Sheet) → filter kept (map (on_sheet i) s) ≡ map (on_sheet i) (without_tautologies s)
struck_sheet i [] = refl
struck_sheet i (x ∷ s) =
    let h = struck_sheet i s in
    ⊎_elim
    (λ t. rw t (ap (λ (P : List Rule). on_sheet i x ∷ P) h))
    (λ t. rw t h)
    (cases_Bool (not (tautology x)))

struck_numbered : (i : ℕ) (ss : List Sheet) → filter kept (numbered i ss) ≡ numbered i (map without_tautologies ss)
struck_numbered i [] = refl
struck_numbered i (s ∷ ss) =
    filter-append kept (map (on_sheet i) s) (numbered (i + 1) ss)
    ∙ ap (λ (P : List Rule). P ++ filter kept (numbered (i + 1) ss)) (struck_sheet i s)
    ∙ ap (λ (P : List Rule). map (on_sheet i) (without_tautologies s) ++ P) (struck_numbered (i + 1) ss)

-- the rules that two such books show are the same but for tautologies
same_struck : (b c : Book) → SameButTautologies b c → struck (shown b).rules ≡ struck (shown c).rules
unfolding struck
same_struck b c e = struck_numbered 0 (all_sheets b) ∙ ap (numbered 0) e.sheets ∙ sym (struck_numbered 0 (all_sheets c))

same_fronts : (over : Overruling) (b c : Book) (old new old' new' : List ℕ) (k j : ℕ) → Total over → SameButTautologies b c → Listing over b old new (Ok k) → Listing over c old' new' (Ok j) → take k new ≡ take j new'
same_fronts over b c old new old' new' k j total e l m =
    same_lists total (equal_struck (shown b).rules (shown c).rules (same_struck b c e)) l.listed.front
    (subst (λ (n : ℕ). Lists (shown c).rules over n (take j new')) (sym e.matters) m.listed.front)

-- the last listing of a run that had places enough
listed_last : {R : Type 0} (g : R → Ground) (over : Overruling) (places : ℕ) (s : Start R) (calls : List Call) (old new : List ℕ) (r : Result (Run R × Result ℕ EvaluatorFault) (Unstarted R)) (k : ℕ) → listed_count r ≡ Some k → Replays g over places s calls old new r → Listing over (after (first g s.rack) calls) old new (Ok k)
listed_last g over places s calls old new (Err e) k q h = let z : ◌≡◌ {A = ℕ} 0 1 = cc in absurd (omega arith)
listed_last g over places s calls old new (Ok x) k q h = go x.1 q h.1
  where
    go : (r : Result ℕ EvaluatorFault) → counted r ≡ Some k → Listing over (after (first g s.rack) calls) old new r → Listing over (after (first g s.rack) calls) old new (Ok k)
    go (Err e) q l = let z : ◌≡◌ {A = ℕ} 0 1 = cc in absurd (omega arith)
    go (Ok n) q l = let e : n ≡ k = cc in subst (λ (i : ℕ). Listing over (after (first g s.rack) calls) old new (Ok i)) e l

pub same_ends : {R S : Type 0} (g : R → Ground) (h : S → Ground) (over : Overruling) (places : ℕ) (s : Start R) (s' : Start S) (calls calls' : List Call) (old new old' new' : List ℕ) (r : Result (Run R × Result ℕ EvaluatorFault) (Unstarted R)) (r' : Result (Run S × Result ℕ EvaluatorFault) (Unstarted S))
    → Total over → Replays g over places s calls old new r → Replays h over places s' calls' old' new' r'
    → (k j : ℕ) → listed_count r ≡ Some k → listed_count r' ≡ Some j → SameButTautologies (after (first g s.rack) calls) (after (first h s'.rack) calls') → take k new ≡ take j new'
same_ends g h over places s s' calls calls' old new old' new' r r' total one other k j q q' e =
    same_fronts over (after (first g s.rack) calls) (after (first h s'.rack) calls') old new old' new' k j total e
    (listed_last g over places s calls old new r k q one)
    (listed_last h over places s' calls' old' new' r' j q' other)
