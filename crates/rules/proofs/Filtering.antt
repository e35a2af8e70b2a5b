-- For the loop that filters the first i rules of a list into a table.
use Rattle.std.proofs.Common.{◌≡◌, ℕ, ◌+◌, ◌<◌, ◌≤◌, Bool, true, false, cond, not, ltb, List, [], ◌∷◌, ◌++◌, length, take, filter, get_or, refl, sym, ap, ◌∙◌, ⊎_elim, arith, length-append}
use Rattle.std.proofs.lemmas.List.{append-nil, take_all, take-append-le, length-take}
use Rattle.std.proofs.lemmas.List.Elements.{filter_more}
use Rattle.std.proofs.lemmas.List.Filters.{length-filter_both}
use Rattle.std.proofs.lemmas.Bool.{lt-ltb, le-ltb, cases_lt}
use Rattle.rules.specs.declared.rule.Rule.{Rule}
use Rattle.rules.specs.Parts.{no_rule}

-- one more at the end of a list of which a table holds the first
take_push : (P : List Rule) (r : Rule) → cond (ltb (length (take 256 P)) 256) (take 256 P ++ (r ∷ [])) (take 256 P) ≡ take 256 (P ++ (r ∷ []))
take_push P r =
    let n = length-take 256 P in
    ⊎_elim
    (λ l. let e = take_all 256 P (omega arith) in
    rw (lt-ltb (length (take 256 P)) 256 (omega arith), e) (sym (take_all 256 (P ++ (r ∷ [])) (let k = length-append P (r ∷ []) in omega arith))))
    (λ l. rw (le-ltb (length (take 256 P)) 256 (omega arith)) (sym (take-append-le 256 P (r ∷ []) l)))
    (cases_lt (length P) 256)

pub filtered_push : (test : Rule → Bool) (P Q R : List Rule) (i : ℕ) (b : Bool) → i < length P → true ≡ test (get_or P i no_rule) → Q ≡ take 256 (filter test (take i P))
    → b ≡ ltb (length Q) 256 → R ≡ cond b (Q ++ (get_or P i no_rule ∷ [])) Q → R ≡ take 256 (filter test (take (i + 1) P))
filtered_push test P Q R i b l t e room s =
    let r = get_or P i no_rule in
    let more = filter_more test P i no_rule l in
    s
    ∙ ap (λ (u : Bool). cond u (Q ++ (r ∷ [])) Q) room
    ∙ ap (λ (S : List Rule). cond (ltb (length S) 256) (S ++ (r ∷ [])) S) e
    ∙ take_push (filter test (take i P)) r
    ∙ ap (take 256) (sym (rw (sym t) at more))

pub filtered_skip : (test : Rule → Bool) (P Q : List Rule) (i : ℕ) → i < length P → false ≡ test (get_or P i no_rule) → Q ≡ take 256 (filter test (take i P)) → Q ≡ take 256 (filter test (take (i + 1) P))
filtered_skip test P Q i l t e =
    let more = filter_more test P i no_rule l in
    e ∙ ap (take 256) (sym ((rw (sym t) at more) ∙ append-nil (filter test (take i P))))

-- of a list that fits a table, all that the test keeps
pub filtered_whole : (test : Rule → Bool) (P S Q : List Rule) → length P ≤ 256 → S ≡ P → Q ≡ take 256 (filter test S) → Q ≡ filter test P
filtered_whole test P S Q l s q =
    let few = length-filter_both test (λ r. not (test r)) (λ _. refl) P in
    q ∙ ap (λ (R : List Rule). take 256 (filter test R)) s ∙ take_all 256 (filter test P) (omega arith)
