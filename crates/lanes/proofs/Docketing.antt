-- Rules by their matters: how a docket is made, and that it has room.
use Rattle.std.proofs.Common.{◌≡◌, ℕ, ◌+◌, ◌-◌, ◌<◌, ◌≤◌, Bool, true, false, cond, not, ◌&&◌, ltb, List, [], ◌∷◌, ◌++◌, length, get_or, take, drop, set, replicate, filter, sym, refl, ap, ◌∙◌, subst, ⊎_elim, append_assoc, arith, length-append, length-drop, take-append-drop, take_all, get_or-set_other, get_or-set_same}
use lib.Seq.{take-append-le, drop-append-le, drop-append_seam}
use Rattle.std.proofs.lemmas.List.{append-nil}
use Rattle.std.proofs.lemmas.List.Elements.{filter_more, filter-append}
use Rattle.std.proofs.lemmas.List.Filters.{length-filter_both}
use Rattle.std.proofs.lemmas.Bool.{cases_Bool, cases_lt, cases_order, cond-true, lt-ltb, le-ltb, eq-eqb, ne_eqb}
use Rattle.rules.specs.declared.rule.Rule.{Rule}
use Rattle.rules.specs.Held.{held}
use Rattle.rules.specs.Parts.{no_rule}
use Rattle.rules.specs.Semantics.{body, holds}
use Rattle.steps.proofs.SetOfs.{zero_at}
use Rattle.lanes.specs.declared.docket.Docket.{Docket}
use Rattle.lanes.specs.Docketing.{about, group, Docketed}

-- One rule more, or none

pub kept_push : (p : Rule → Bool) (P base Q S : List Rule) (i : ℕ) (b : Bool) → i < length P → length base + length (filter p P) ≤ 256 → true ≡ p (get_or P i no_rule)
    → Q ≡ base ++ filter p (take i P) → b ≡ ltb (length Q) 256 → S ≡ cond b (Q ++ (get_or P i no_rule ∷ [])) Q → S ≡ base ++ filter p (take (i + 1) P)
kept_push p P base Q S i b l room t e v s =
    let x = get_or P i no_rule in
    let before = filter p (take i P) in
    let more = rw (sym t) at (filter_more p P i no_rule l) in
    let whole : filter p P ≡ filter p (take (i + 1) P) ++ filter p (drop (i + 1) P) = ap (filter p) (sym (take-append-drop (i + 1) P)) ∙ filter-append p (take (i + 1) P) (drop (i + 1) P) in
    let n = ap length whole ∙ length-append (filter p (take (i + 1) P)) (filter p (drop (i + 1) P)) in
    let m = ap length more ∙ length-append before (x ∷ []) in
    let q = ap length e ∙ length-append base before in
    let one : length (x ∷ []) ≡ 1 = refl in
    let r : b ≡ true = v ∙ lt-ltb (length Q) 256 (omega arith) in
    s ∙ cond-true b (Q ++ (x ∷ [])) Q r ∙ ap (λ (R : List Rule). R ++ (x ∷ [])) e ∙ append_assoc base before (x ∷ []) ∙ ap (λ (R : List Rule). base ++ R) (sym more)

pub kept_skip : (p : Rule → Bool) (P base Q : List Rule) (i : ℕ) → i < length P → false ≡ p (get_or P i no_rule) → Q ≡ base ++ filter p (take i P) → Q ≡ base ++ filter p (take (i + 1) P)
kept_skip p P base Q i l t e =
    let more = rw (sym t) at (filter_more p P i no_rule l) in
    e ∙ ap (λ (R : List Rule). base ++ R) (sym (more ∙ append-nil (filter p (take i P))))

-- Room

-- about a matter below m, and no tautology
abbrev pub earlier : ℕ → Rule → Bool
earlier m r = ltb r.head m && not (holds (body r) r.sign r.head)

kept_length : (p : Rule → Bool) (x : Rule) (xs : List Rule) → length (filter p (x ∷ xs)) ≡ cond (p x) 1 0 + length (filter p xs)
kept_length p x xs = ⊎_elim (λ t. rw t (omega arith)) (λ t. rw t (omega arith)) (cases_Bool (p x))

one_more : (m : ℕ) (r : Rule) → cond (earlier (m + 1) r) 1 0 ≡ cond (earlier m r) 1 0 + cond (about m r) 1 0
one_more m r = ⊎_elim
    (λ e. rw (lt-ltb r.head (m + 1) (omega arith), le-ltb r.head m (omega arith), eq-eqb r.head m e) (omega arith))
    (⊎_elim
    (λ l. rw (lt-ltb r.head (m + 1) (omega arith), lt-ltb r.head m l, ne_eqb r.head m (λ e. omega arith)) (omega arith))
    (λ l. rw (le-ltb r.head (m + 1) (omega arith), le-ltb r.head m (omega arith), ne_eqb r.head m (λ e. omega arith)) (omega arith)))
    (cases_order r.head m)

counted : (m : ℕ) (P : List Rule) → length (filter (earlier (m + 1)) P) ≡ length (filter (earlier m) P) + length (filter (about m) P)
counted m [] = refl
counted m (r ∷ P) =
    let i = counted m P in
    let o = one_more m r in
    let a = kept_length (earlier (m + 1)) r P in
    let b = kept_length (earlier m) r P in
    let c = kept_length (about m) r P in
    omega arith

none_earlier : (P : List Rule) → length (filter (earlier 0) P) ≡ 0
none_earlier [] = refl
none_earlier (r ∷ P) = rw (le-ltb r.head 0 (omega arith)) (none_earlier P)

pub room_for : (P : List Rule) (m held-now : ℕ) → length P ≤ 256 → held-now ≡ length (filter (earlier m) P) → held-now + length (filter (about m) P) ≤ 256
room_for P m h few e =
    let c = counted m P in
    let b = length-filter_both (earlier (m + 1)) (λ r. not (earlier (m + 1) r)) (λ _. refl) P in
    omega arith

-- Matter by matter

pub docketed_start : (P : List Rule) (d : Docket) → held d.rules ≡ [] → d.starts ≡ replicate 17 0 → Docketed P 0 d × (get_or d.starts 0 0 ≡ length (held d.rules)) × (length (held d.rules) ≡ length (filter (earlier 0) P))
docketed_start P d e f = (
  record { rules = λ a l. absurd (omega arith); rising = λ a l. absurd (omega arith) },
  ap (λ (xs : List ℕ). get_or xs 0 0) f ∙ zero_at 17 0 ∙ sym (ap length e),
  ap length e ∙ sym (none_earlier P),
)

pub docketed_more : (P : List Rule) (m : ℕ) (d g : Docket) → m < 16 → Docketed P m d → get_or d.starts m 0 ≡ length (held d.rules) → length (held d.rules) ≡ length (filter (earlier m) P)
    → held g.rules ≡ held d.rules ++ filter (about m) P → g.starts ≡ set d.starts (m + 1) (length (held g.rules))
    → Docketed P (m + 1) g × (get_or g.starts (m + 1) 0 ≡ length (held g.rules)) × (length (held g.rules) ≡ length (filter (earlier (m + 1)) P))
docketed_more P m d g l k here count e f =
    let old = held d.rules in
    let new = filter (about m) P in
    let size = ap length e ∙ length-append old new in
    let long = d.whole in
    let at : get_or g.starts (m + 1) 0 ≡ length (held g.rules) = ap (λ (xs : List ℕ). get_or xs (m + 1) 0) f ∙ get_or-set_same d.starts (m + 1) (length (held g.rules)) 0 (omega arith) in
    let same : (i : ℕ) → i < m + 1 → get_or g.starts i 0 ≡ get_or d.starts i 0 = λ i h. ap (λ (xs : List ℕ). get_or xs i 0) f ∙ get_or-set_other d.starts (m + 1) i (length (held g.rules)) 0 (omega arith) in
    let shown : (a : ℕ) (s t : ℕ) → get_or g.starts a 0 ≡ s → get_or g.starts (a + 1) 0 ≡ t → group g a ≡ take (t - s) (drop s (old ++ new)) =
    λ a s t p q. ap (λ (x : ℕ). take (get_or g.starts (a + 1) 0 - x) (drop x (held g.rules))) p ∙ ap (λ (x : ℕ). take (x - s) (drop s (held g.rules))) q ∙ ap (λ (xs : List Rule). take (t - s) (drop s xs)) e in (
      record {
        rules = λ a h. ⊎_elim
            (λ b.
            let r = k.rising a b in
            let s = get_or d.starts a 0 in
            let t = get_or d.starts (a + 1) 0 in
            let n = length-drop s old in
            shown a s t (same a (omega arith)) (same (a + 1) (omega arith))
            ∙ ap (take (t - s)) (drop-append-le s old new (let x = r.0 in let y = r.1 in omega arith))
            ∙ take-append-le (t - s) (drop s old) new (let x = r.0 in let y = r.1 in omega arith)
            ∙ k.rules a b)
            (λ b.
            let q : a ≡ m = omega arith in
            subst (λ (i : ℕ). group g i ≡ filter (about i) P) (sym q)
            (shown m (length old) (length (held g.rules)) (same m (omega arith) ∙ here) at
            ∙ ap (take (length (held g.rules) - length old)) (drop-append_seam old new)
            ∙ take_all (length (held g.rules) - length old) new (omega arith)))
            (cases_lt a m);
        rising = λ a h. ⊎_elim
            (λ b. let r = k.rising a b in let x = r.0 in let y = r.1 in let u = same a (omega arith) in let v = same (a + 1) (omega arith) in (omega arith, omega arith))
            (λ b. let q : a ≡ m = omega arith in subst (λ (i : ℕ). (get_or g.starts i 0 ≤ get_or g.starts (i + 1) 0) × (get_or g.starts (i + 1) 0 ≤ length (held g.rules))) (sym q)
            (let u = same m (omega arith) in (omega arith, omega arith)))
            (cases_lt a m);
      },
      at,
      (let c = counted m P in omega arith),
    )
