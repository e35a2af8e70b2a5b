-- A rule more on the top sheet, or the top sheet less: what every rack keeps to still holds.
use Rattle.std.proofs.Common.{◌≡◌, ℕ, ◌-◌, ◌<◌, ◌≤◌, Bool, true, false, List, [], ◌∷◌, ◌++◌, length, filter, Some, None, IsSome, Err, Option, Result, cond, nat_lt, sym, subst, ap, refl, ◌∙◌, ⊎_elim, arith}
use Rattle.std.specs.List.{AllByRecursion}
use Rattle.std.proofs.ByRecursion.{All-get_or, All-from_get_or, All-push, All-weaker}
use Rattle.std.proofs.lemmas.Bool.{cases_Bool, ltb-true}
use Rattle.std.proofs.lemmas.List.{length_push}
use Rattle.std.specs.Option.{ok_or}
use Rattle.rules.specs.declared.record.Record.{Record}
use Rattle.rules.specs.declared.rule.Rule.{Rule}
use Rattle.rules.specs.Parts.{no_rule}
use Rattle.rules.specs.Records.{good, ruled}
use Rattle.racks.specs.Meaning.{Meaning, Sound, Throughout, Rising, Kept}
use Rattle.racks.specs.Changing.{under, laid, withdrawn, Changes}
use Rattle.racks.specs.Tables.{push_room}
use Rattle.racks.proofs.Listed.{good_sound, rising_append}
use Rattle.racks.proofs.Chosen.{kept_fewer, rising_kept}

pub all_of : (Q : Rule → Type 0) (P : List Rule) → Throughout Q P → AllByRecursion Q P
all_of Q P t = All-from_get_or Q P no_rule t

pub throughout : (Q : Rule → Type 0) (P : List Rule) → AllByRecursion Q P → Throughout Q P
throughout Q P a k l = All-get_or Q P k no_rule l a

-- one rule more on the top sheet

pub laid_push : (b : Bool) (P Q : List Rule) (x y : Rule) → length P < 64 → b ≡ nat_lt (length P) 256 → Q ≡ cond b (P ++ (x ∷ [])) P → x ≡ y → Q ≡ P ++ (y ∷ [])
laid_push b P Q x y l v e q = push_room b P Q x (omega arith) v e ∙ ap (λ (r : Rule). P ++ (r ∷ [])) q

pub sound_push : (n s : ℕ) (P : List Rule) (x : Record) → 0 < s → good n x ≡ true → Throughout (Sound n s) P → Throughout (Sound n s) (P ++ (ruled (s - 1) x ∷ []))
sound_push n s P x l e t = throughout (Sound n s) _ (All-push (Sound n s) P (ruled (s - 1) x) (all_of (Sound n s) P t) (good_sound n s (s - 1) x (omega arith) e))

pub rising_push : (n s : ℕ) (P : List Rule) (x : Record) → 0 < s → Throughout (Sound n s) P → Rising P → Rising (P ++ (ruled (s - 1) x ∷ []))
rising_push n s P x l t r =
    rising_append (s - 1) P (ruled (s - 1) x ∷ []) r
    (All-weaker (Sound n s) (λ y. y.sheet ≤ s - 1) (λ y h. omega (arith, h.0)) P (all_of (Sound n s) P t))
    (omega arith, tt)
    (λ i j ij jl. absurd (omega arith))

pub laid_kept : (m : Meaning) (x : Record) → 0 < m.sheets → good m.matters x ≡ true → length m.rules < 256 → Kept m → Kept (laid m x)
laid_kept m x l e room k =
    let few = length_push m.rules (ruled (m.sheets - 1) x) in
    record {
      some_matters = k.some_matters;
      few_matters = k.few_matters;
      few_sheets = k.few_sheets;
      few_rules = omega arith;
      sound = sound_push m.matters m.sheets m.rules x l e k.sound;
      rising = rising_push m.matters m.sheets m.rules x l k.sound k.rising;
    }

-- without the top sheet
sound_lower : (n s t : ℕ) (P : List Rule) → AllByRecursion (Sound n s) P → AllByRecursion (Sound n t) (filter (under t) P)
sound_lower n s t [] a = tt
sound_lower n s t (x ∷ P) a =
    let rest = sound_lower n s t P a.1 in
    ⊎_elim
    (λ e. rw e ((ltb-true x.sheet t e, a.0.1, a.0.2, a.0.3), rest))
    (λ e. rw e rest)
    (cases_Bool (under t x))

pub sound_under : (n s t : ℕ) (P : List Rule) → Throughout (Sound n s) P → Throughout (Sound n t) (filter (under t) P)
sound_under n s t P h = throughout (Sound n t) _ (sound_lower n s t P (all_of (Sound n s) P h))

pub withdrawn_kept : (m : Meaning) → Kept m → Kept (withdrawn m)
withdrawn_kept m k =
    let t = m.sheets - 1 in
    let P = m.rules in
    let few = kept_fewer (under t) P in
    let n = k.few_rules in
    let s = k.few_sheets in
    record {
      some_matters = k.some_matters;
      few_matters = k.few_matters;
      few_sheets = omega arith;
      few_rules = omega arith;
      sound = sound_under m.matters m.sheets t P k.sound;
      rising = rising_kept (under t) P k.rising;
    }

-- what the rules below the top sheet are the rules of
pub without_top : (m : Meaning) (t : ℕ) (Q : List Rule) → Q ≡ filter (under t) m.rules → t ≡ m.sheets - 1 → ◌≡◌ {A = Meaning} (record { matters = m.matters; sheets = t; rules = Q }) (withdrawn m)
without_top m t Q e f =
    ap (λ (P : List Rule). record { matters = m.matters; sheets = t; rules = P }) e
    ∙ ap (λ (s : ℕ). record { matters = m.matters; sheets = s; rules = filter (under s) m.rules }) f

-- what a call's answer says of the test and of what is left
module _ {U : Type 0} (test : Meaning → Bool) (change : Meaning → Meaning) (old new : Meaning) where
  pub changed : {u : U} (r : Option U) → r ≡ Some u → Changes test change old r new → (test old ≡ true) × (new ≡ change old)
  changed (Some v) e h = h
  changed None e h = cc

  pub unchanged : (r : Option U) → r ≡ None → Changes test change old r new → (test old ≡ false) × (new ≡ old)
  unchanged (Some v) e h = cc
  unchanged None e h = h

  pub passes : (r : Option U) → test old ≡ true → Changes test change old r new → IsSome r
  passes (Some v) e h = refl
  passes None e h = cc

-- the fault that stands for none
pub fault_is : {A E : Type 0} {x e : E} (r : Option A) → r ≡ None → ◌≡◌ {A = Result A E} (Err x) (ok_or r e) → x ≡ e
fault_is (Some v) n h = cc
fault_is None n h = cc

-- what a push leaves, whether or not there was room
pub pushed_kept : (m : Meaning) (x : Record) (y : Rule) (b : Bool) (Q : List Rule) → 0 < m.sheets → good m.matters x ≡ true → y ≡ ruled (m.sheets - 1) x → b ≡ nat_lt (length m.rules) 256 → Q ≡ cond b (m.rules ++ (y ∷ [])) m.rules → Kept m → Kept (record { matters = m.matters; sheets = m.sheets; rules = Q })
pushed_kept m x y true Q on g e room q k =
    subst (λ (R : List Rule). Kept (record { matters = m.matters; sheets = m.sheets; rules = R })) (sym (q ∙ ap (λ (r : Rule). m.rules ++ (r ∷ [])) e)) (laid_kept m x on g (ltb-true _ _ (sym room)) k)
pushed_kept m x y false Q on g e room q k = subst (λ (R : List Rule). Kept (record { matters = m.matters; sheets = m.sheets; rules = R })) (sym q) k
