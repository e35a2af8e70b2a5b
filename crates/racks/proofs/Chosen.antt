-- What a filter keeps of a list of rules.
use Rattle.std.specs.Prelude.{◌≡◌, ℕ, zero, suc, ◌+◌, ◌<◌, ◌≤◌, Bool, true, false, cond, not, List, [], ◌∷◌, ◌++◌, length, take, filter, nat_lt, slice_index_or, refl}
use Rattle.std.proofs.Common.{sym, ap, ◌∙◌, ⊎_elim, arith}
use Rattle.std.specs.List.{AllByRecursion}
use Rattle.std.proofs.lemmas.List.{append-nil, length-take-le}
use Rattle.std.proofs.lemmas.List.Elements.{filter_more}
use Rattle.std.proofs.ByRecursion.{All-get_or, All-from_get_or, all_kept_by}
use Rattle.std.proofs.lemmas.List.Filters.{length-filter_both}
use Rattle.std.proofs.lemmas.Bool.{cases_Bool}
use Rattle.rules.specs.declared.rule.Rule.{Rule}
use Rattle.rules.specs.Parts.{no_rule}
use Rattle.racks.specs.Meaning.{Rising}
use Rattle.racks.specs.Tables.{push_room}

pub kept_fewer : (p : Rule → Bool) (P : List Rule) → length (filter p P) ≤ length P
kept_fewer p P = let e = length-filter_both p (λ r. not (p r)) (λ _. refl) P in omega arith

-- one rule more that is chosen, or that is not
pub chosen_push : (p : Rule → Bool) (P Q S : List Rule) (i : ℕ) (b : Bool) → i < length P → length P ≤ 256 → true ≡ p (slice_index_or P i no_rule) → Q ≡ filter p (take i P) → b ≡ nat_lt (length Q) 256 → S ≡ cond b (Q ++ (slice_index_or P i no_rule ∷ [])) Q → S ≡ filter p (take (i + 1) P)
chosen_push p P Q S i b l few t e room s =
    let n = kept_fewer p (take i P) in
    let k = length-take-le i P (omega arith) in
    let q = ap length e in
    let more = filter_more p P i no_rule l in
    push_room b Q S (slice_index_or P i no_rule) (omega arith) room s ∙ ap (λ (R : List Rule). R ++ (slice_index_or P i no_rule ∷ [])) e ∙ sym (rw (sym t) at more)

pub chosen_skip : (p : Rule → Bool) (P Q : List Rule) (i : ℕ) → i < length P → false ≡ p (slice_index_or P i no_rule) → Q ≡ filter p (take i P) → Q ≡ filter p (take (i + 1) P)
chosen_skip p P Q i l t e =
    let more = filter_more p P i no_rule l in
    e ∙ sym ((rw (sym t) at more) ∙ append-nil (filter p (take i P)))

pub kept_all : (p : Rule → Bool) (P : List Rule) → AllByRecursion (λ r. p r ≡ true) P → filter p P ≡ P
kept_all p [] a = refl
kept_all p (x ∷ P) a = rw a.0 (ap (λ (Q : List Rule). x ∷ Q) (kept_all p P a.1))

pub kept_none : (p : Rule → Bool) (P : List Rule) → AllByRecursion (λ r. p r ≡ false) P → filter p P ≡ []
kept_none p [] a = refl
kept_none p (x ∷ P) a = rw a.0 (kept_none p P a.1)

-- what rises goes on rising

rising_cons : (x : Rule) (P : List Rule) → AllByRecursion (λ r. x.sheet ≤ r.sheet) P → Rising P → Rising (x ∷ P)
rising_cons x P a r i zero ij jl = absurd (omega arith)
rising_cons x P a r zero (suc j) ij jl = All-get_or (λ y. x.sheet ≤ y.sheet) P j no_rule (omega arith) a
rising_cons x P a r (suc i) (suc j) ij jl = r i j (omega arith) (omega arith)

rising_first : (x : Rule) (P : List Rule) → Rising (x ∷ P) → AllByRecursion (λ r. x.sheet ≤ r.sheet) P
rising_first x P r = All-from_get_or (λ y. x.sheet ≤ y.sheet) P no_rule (λ i l. r 0 (suc i) (omega arith) (omega arith))

rising_rest : (x : Rule) (P : List Rule) → Rising (x ∷ P) → Rising P
rising_rest x P r i j ij jl = r (suc i) (suc j) (omega arith) (omega arith)

pub rising_kept : (p : Rule → Bool) (P : List Rule) → Rising P → Rising (filter p P)
rising_kept p [] r = r
rising_kept p (x ∷ P) r =
    let rest = rising_kept p P (rising_rest x P r) in
    ⊎_elim
    (λ t. rw t (rising_cons x (filter p P) (all_kept_by p (λ y. x.sheet ≤ y.sheet) P (rising_first x P r)) rest))
    (λ t. rw t rest)
    (cases_Bool (p x))
