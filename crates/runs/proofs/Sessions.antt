-- Which calls keep a session as it is, and one step of a string of calls.
use Rattle.std.proofs.Common.{◌≡◌, ℕ, ◌+◌, ◌-◌, ◌<◌, ◌≤◌, Bool, true, false, cond, List, [], ◌∷◌, ◌++◌, length, get_or, drop, replicate, Some, None, Err, vec_items, vec_len, Option, Result, Vec, sym, refl, ap, ◌∙◌, subst, arith}
use Rattle.std.specs.List.{AllByRecursion}
use Rattle.std.proofs.lemmas.List.{at_drop_more, append_assoc, append-nil, drop_all}
use Rattle.rules.specs.declared.record.Record.{Record}
use Rattle.rules.specs.Semantics.{Overruling}
use Rattle.kiosk.specs.declared.call.Call.{Call}
use Rattle.kiosk.specs.declared.call.Call.TheVariants.{Begin, Lay, Withdraw, Fact as Stating}
use Rattle.kiosk.specs.declared.fault.KioskFault.{KioskFault}
use Rattle.kiosk.specs.declared.slip.Fact.{Fact}
use Rattle.kiosk.specs.Book.{Book, Table, table, written, judged, step, Does, with_slip, in_session}
use Rattle.runs.specs.declared.run.Purse.{Purse}
use Rattle.runs.specs.declared.run.Answer.{Answer}
use Rattle.runs.specs.declared.run.Answer.TheVariants.{Done}
use Rattle.runs.specs.Purse.{Pursed, Stocked}
use Rattle.runs.specs.Running.{Answers, Runs, after, asks}

judged_keeps : (t : Table) (old new : Book) (b : Bool) → in_session old.slip ≡ b → in_session new.slip ≡ b → in_session (judged t old new).book.slip ≡ b
judged_keeps [] old new b p q = q
judged_keeps (c ∷ cs) old new b p q =
    elim c.1 as (λ t. in_session (cond t (record { book = old; answer = Err c.0 }) (judged cs old new)).book.slip ≡ b) [ true ↦ p | false ↦ judged_keeps cs old new b p q ]

pub begin_keeps : (b : Book) → in_session (step b Begin).book.slip ≡ in_session b.slip
begin_keeps b = judged_keeps (table b Begin) b (written b Begin) _ refl refl

pub lay_keeps : (b : Book) (x : Record) → in_session (step b (Lay x)).book.slip ≡ in_session b.slip
lay_keeps b x = judged_keeps (table b (Lay x)) b (written b (Lay x)) _ refl refl

pub withdraw_keeps : (b : Book) → in_session (step b Withdraw).book.slip ≡ in_session b.slip
withdraw_keeps b = judged_keeps (table b Withdraw) b (written b Withdraw) _ refl refl

fact_by : (b : Book) (o : Option (List Fact)) (a s : ℕ) → in_session (step (with_slip b o) (Stating a s)).book.slip ≡ in_session o
fact_by b None a s = refl
fact_by b (Some fs) a s = judged_keeps (table (with_slip b (Some fs)) (Stating a s)) (with_slip b (Some fs)) (written (with_slip b (Some fs)) (Stating a s)) true refl refl

pub fact_keeps : (b : Book) (a s : ℕ) → in_session (step b (Stating a s)).book.slip ≡ in_session b.slip
fact_keeps b a s = fact_by b b.slip a s

-- a call that is made as the book's step says
pub done_answers : (over : Overruling) (places : ℕ) (b : Book) {k : Book} {c d : Call} {r : Result (Unit {0}) KioskFault} → c ≡ d → asks d ≡ false → Does (step b d) r k → Answers over places b c (Done r)
done_answers over places b e q h = (ap asks e ∙ q, h.0 ∙ ap (λ (x : Call). (step b x).answer) (sym e))

-- a call that keeps the session keeps the tickets in hand
pub purse_kept : (p : Purse) (b : Book) {k : Book} (c : Call) → in_session (step b c).book.slip ≡ in_session b.slip → k ≡ (step b c).book → Pursed b p → Pursed k p
purse_kept p b c s h q = q ∙ sym (ap (λ (x : Book). in_session x.slip) h ∙ s)

-- Blank lists

pub stock_kept : {Y Z : Type 0} (places k n : ℕ) (v : Vec (Vec ℕ Y) Z) → Stocked places k v → Stocked places (vec_len v - n) v
stock_kept places k n v s = (omega arith, s.1)

all_last : {X : Type 0} (Q : X → Type 0) (xs : List X) (x : X) → AllByRecursion Q (xs ++ (x ∷ [])) → Q x × AllByRecursion Q xs
all_last Q [] x a = (a.0, tt)
all_last Q (y ∷ ys) x a = let r = all_last Q ys x a.1 in (r.0, (a.0, r.1))

-- the last one is taken
pub stock_taken : {Y Z : Type 0} (places n : ℕ) (v w : Vec (Vec ℕ Y) Z) (x : Vec ℕ Y) → vec_items v ≡ vec_items w ++ (x ∷ []) → vec_len w + 1 ≡ vec_len v → n ≡ 1 → Stocked places n v → (vec_items x ≡ replicate places 0) × Stocked places (vec_len v - n) w
stock_taken {Y} {Z} places n v w x e l o s =
    let blank : Vec ℕ Y → Type 0 = λ y. vec_items y ≡ replicate places 0 in
    let a = all_last blank (vec_items w) x (subst (λ (ys : List (Vec ℕ Y)). AllByRecursion blank ys) e s.1) in
    (a.0, (omega arith, a.1))

-- A string of calls, under way

-- the calls before the place i led from b₀ to b with these answers: what is left gives the rest
pub record Going (over : Overruling) (places : ℕ) (b₀ b : Book) (calls : List Call) (i : ℕ) (told : List Answer) : Type 0 where
  pub so_far : (rs : List Answer) (e : Book) → Runs over places b (drop i calls) rs e → Runs over places b₀ calls (told ++ rs) e
  pub ahead : after b (drop i calls) ≡ after b₀ calls

pub going_start : (over : Overruling) (places : ℕ) (b : Book) (calls : List Call) (told : List Answer) → told ≡ [] → Going over places b b calls 0 told
going_start over places b calls told e = record {
  so_far = λ rs k r. subst (λ (xs : List Answer). Runs over places b calls (xs ++ rs) k) (sym e) r;
  ahead = refl;
}

pub going_more : (over : Overruling) (places : ℕ) (b₀ b k : Book) (calls : List Call) (i : ℕ) (d : Call) (a : Answer) (told more : List Answer) → Going over places b₀ b calls i told → i < length calls → Answers over places b (get_or calls i d) a → k ≡ (step b (get_or calls i d)).book → more ≡ told ++ (a ∷ []) → Going over places b₀ k calls (i + 1) more
going_more over places b₀ b k calls i d a told more g l h q m = record {
  so_far = λ rs e r.
      let n : Runs over places b (drop i calls) (a ∷ rs) e =
      subst (λ (xs : List Call). Runs over places b xs (a ∷ rs) e) (sym (at_drop_more (λ (xs : List Call). xs) calls i d l))
      (Runs.next h (subst (λ (x : Book). Runs over places x (drop (i + 1) calls) rs e) q r)) in
      subst (λ (xs : List Answer). Runs over places b₀ calls xs e) (sym (append_assoc told (a ∷ []) rs) ∙ ap (λ (xs : List Answer). xs ++ rs) (sym m)) (g.so_far (a ∷ rs) e n);
  ahead = ap (λ (x : Book). after x (drop (i + 1) calls)) q ∙ sym (at_drop_more (after b) calls i d l) ∙ g.ahead;
}

pub going_end : (over : Overruling) (places : ℕ) (b₀ b : Book) (calls : List Call) (i : ℕ) (told : List Answer) → Going over places b₀ b calls i told → length calls ≤ i → (b ≡ after b₀ calls) × Runs over places b₀ calls told (after b₀ calls)
going_end over places b₀ b calls i told g l =
    let z = drop_all i calls l in
    let q : b ≡ after b₀ calls = sym (ap (after b) z) ∙ g.ahead in
    let n : Runs over places b (drop i calls) [] b = subst (λ (xs : List Call). Runs over places b xs [] b) (sym z) Runs.none in
    let r = subst (λ (xs : List Answer). Runs over places b₀ calls xs b) (append-nil told) (g.so_far [] b n) in
    (q, subst (λ (x : Book). Runs over places b₀ calls told x) q r)
