-- Entering firings, and what is reached by them.
use Rattle.std.proofs.Common.{◌≡◌, ℕ, ◌+◌, ◌-◌, ◌/◌, ◌%◌, ◌^◌, ◌<◌, ◌≤◌, eqb, ◌⊎◌, List, [], ◌∷◌, ◌++◌, length, get_or, sym, refl, ap, ◌∙◌, subst, inl, inr, ⊎_elim, arith, pow_pos}
use lib.Bits.{bit_and, bit_or}
use Rattle.std.proofs.lemmas.Bool.{cases_lt, eqb-true, eq-eqb}
use Rattle.std.proofs.lemmas.List.{get_or_append_left, get_or_push, length_push}
use Rattle.rules.specs.declared.rule.Rule.{Rule}
use Rattle.rules.specs.declared.rule.Sign.{Sign}
use Rattle.rules.specs.declared.rule.Sign.TheVariants.{Yes, No}
use Rattle.rules.specs.Parts.{no_rule}
use Rattle.rules.specs.Semantics.{Mem, LiteralSet, Holds, ◌⊆◌, body, Overruling, Total, Formed, Survives, Default, Closed, Step, settled}
use Rattle.rules.proofs.Bitwise.{mem_cases, mem_or_left, mem_or_right, mem_or_cases, mem_below, rest_mem, not_in_zero}
use Rattle.rules.proofs.Computed.{placed, place_of, gathered, gathered_has, gathered_only}
use Rattle.rules.proofs.Literals.{settled_one, settled_other, ⊆_trans, meet, meet_both, meet_left, meet_right}
use Rattle.steps.specs.Parts.{SetOf, Members}
use Rattle.steps.proofs.SetOfs.{set_same}
use Rattle.lanes.specs.declared.firing.Firing.{Firing}
use Rattle.lanes.specs.declared.firing.Firings.{Firings}
use Rattle.lanes.specs.Contesting.{About}
use Rattle.lanes.specs.Firing.{no_firing, at, Follows, Lanes, Reached}
use Rattle.lanes.specs.Firing.Follows.{by}
use Rattle.lanes.specs.Founding.{OfDefault, OfRule, Live, Reason, Entry, Holding, HoldingTo, FoundedIn}
use Rattle.lanes.specs.Settling.{Stands}
use Rattle.lanes.proofs.LaneSets.{set_own, set_and}
use Rattle.lanes.proofs.Settling.{stands_closed}

-- a push adds one
pub pushed : (f g : List Firing) (x : Firing) → g ≡ f ++ x ∷ [] → length g ≡ length f + 1
pushed f g x e = ap length e ∙ length_push f x

-- about an earlier matter than m, or one of the first i rules
abbrev pub Partly : List Rule → ℕ → ℕ → Rule → Type 0
Partly rs m i q = (q.head < m) ⊎ ((k : ℕ) × (k < i) × (get_or rs k no_rule ≡ q))

module _ (Q : List Rule) (over : Overruling) (n : ℕ) (X : ℕ → LiteralSet) (w : ℕ) where
  -- less is asked
  pub holding_less : {D D' : ℕ → Type 0} {R R' : Rule → Type 0} (f : List Firing) → ((b l : ℕ) → Mem l w → D' b → Default Q n (X l) b → D b) → ((r : Rule) (l : ℕ) → Mem l w → R' r → Live Q over (X l) r → R r) → Holding Q over n X w D R f → Holding Q over n X w D' R' f
  holding_less f p q h = record {
    only = h.only;
    heads = h.heads;
    defaults = λ b l m d x. h.defaults b l m (p b l m d x) x;
    rules = λ r l m d x. h.rules r l m (q r l m d x) x;
  }

  -- one firing more
  pub holding_push : {D D' : ℕ → Type 0} {R R' : Rule → Type 0} (f g : List Firing) (x : Firing) → g ≡ f ++ x ∷ []
      → x.head < 16 → ((l : ℕ) → Mem l x.lanes → Mem l w × Reason Q over n (X l) x)
      → ((b l : ℕ) → Mem l w → D' b → Default Q n (X l) b → (D b) ⊎ (Mem l x.lanes × OfDefault b x))
      → ((r : Rule) (l : ℕ) → Mem l w → R' r → Live Q over (X l) r → (R r) ⊎ (Mem l x.lanes × OfRule r x))
      → Holding Q over n X w D R f → Holding Q over n X w D' R' g
  holding_push f g x items low why p q h = let len = pushed_len in record {
    only = λ k l b m. ⊎_elim
        (λ c. subst (λ (y : Firing). Mem l w × Reason Q over n (X l) y) (sym (older k c)) (h.only k l c (subst (λ (y : Firing). Mem l y.lanes) (older k c) m)))
        (λ c. let e : k ≡ length f = omega arith in let z = ap (at g) e ∙ newest in subst (λ (y : Firing). Mem l w × Reason Q over n (X l) y) (sym z) (why l (subst (λ (y : Firing). Mem l y.lanes) z m)))
        (cases_lt k (length f));
    heads = λ k b. ⊎_elim
        (λ c. subst (λ (y : Firing). y.head < 16) (sym (older k c)) (h.heads k c))
        (λ c. let e : k ≡ length f = omega arith in subst (λ (y : Firing). y.head < 16) (sym (ap (at g) e ∙ newest)) low)
        (cases_lt k (length f));
    defaults = λ b l m d y. ⊎_elim (λ o. keep l (OfDefault b) (h.defaults b l m o y)) (λ o. new l (OfDefault b) o.0 o.1) (p b l m d y);
    rules = λ r l m d y. ⊎_elim (λ o. keep l (OfRule r) (h.rules r l m o y)) (λ o. new l (OfRule r) o.0 o.1) (q r l m d y);
  }
    where
      pushed_len : length g ≡ length f + 1
      pushed_len = pushed f g x items

      newest : at g (length f) ≡ x
      newest = ap (λ (xs : List Firing). get_or xs (length f) no_firing) items ∙ get_or_push f x no_firing (length f) refl

      older : (k : ℕ) → k < length f → at g k ≡ at f k
      older k c = ap (λ (xs : List Firing). get_or xs k no_firing) items ∙ get_or_append_left f (x ∷ []) no_firing k c

      keep : (l : ℕ) (of : Firing → Type 0) → Entry f l of → Entry g l of
      keep l of e = (e.0, (let c = e.1 in let len = pushed_len in omega arith), subst (λ (y : Firing). Mem l y.lanes) (sym (older e.0 e.1)) e.2, subst of (sym (older e.0 e.1)) e.3)

      new : (l : ℕ) (of : Firing → Type 0) → Mem l x.lanes → of x → Entry g l of
      new l of m o = (length f, (let len = pushed_len in omega arith), subst (λ (y : Firing). Mem l y.lanes) (sym newest) m, subst of (sym newest) o)

  -- The rules about one matter

  module _ (rs : List Rule) (m : ℕ) (low : m < 16) (about : Members rs (About Q m)) where
    pub enter_default : (f g : List Firing) (v : ℕ) → g ≡ f ++ (record { head = m; needs = 0; lanes = v }) ∷ []
        → SetOf v (λ l. Mem l w × Default Q n (X l) m) → HoldingTo Q over n X w m f → Holding Q over n X w (λ b. b < m + 1) (Partly rs m 0) g
    enter_default f g v items s h = holding_push f g (record { head = m; needs = 0; lanes = v }) items low
        (λ l k. let d = s.only l k in (d.0, inl (m, d.1, (refl, refl))))
        (λ b l k c d. ⊎_elim (λ e. inl e) (λ e. let q : b ≡ m = omega arith in inr (s.all l (k, subst (Default Q n (X l)) q d), (q, refl))) (cases_lt b m))
        (λ r l k c d. ⊎_elim (λ e. inl e) (λ e. let z = e.1 in absurd (omega arith)) c)
        h

    pub enter_rule : (i : ℕ) (f g : List Firing) (v : ℕ) → i < length rs → g ≡ f ++ (record { head = m; needs = bit_or (get_or rs i no_rule).yes (get_or rs i no_rule).no; lanes = v }) ∷ []
        → SetOf v (λ l. Mem l w × Live Q over (X l) (get_or rs i no_rule)) → Holding Q over n X w (λ b. b < m + 1) (Partly rs m i) f → Holding Q over n X w (λ b. b < m + 1) (Partly rs m (i + 1)) g
    enter_rule i f g v inside items s h =
        let r = get_or rs i no_rule in
        let head_is = (about.only r (placed rs i no_rule inside)).1 in
        holding_push f g (record { head = m; needs = bit_or r.yes r.no; lanes = v }) items low
        (λ l k. let d = s.only l k in (d.0, inr (r, d.1, (head_is, refl))))
        (λ b l k c d. inl c)
        (λ q l k c d. ⊎_elim (λ e. inl (inl e)) (λ e. ⊎_elim
        (λ z. inl (inr (e.0, z, e.2)))
        (λ z. let y = e.1 in let j : e.0 ≡ i = omega arith in let same : r ≡ q = ap (λ (t : ℕ). get_or rs t no_rule) (sym j) ∙ e.2 in
        inr (subst (λ (t : Rule). Mem l v × OfRule t (record { head = m; needs = bit_or r.yes r.no; lanes = v })) same (s.all l (k, subst (Live Q over (X l)) (sym same) d), (head_is, refl))))
        (cases_lt e.0 i)) c)
        h

    pub skip_rule : (i : ℕ) (f : List Firing) (v : ℕ) → v ≡ 0 → SetOf v (λ l. Mem l w × Live Q over (X l) (get_or rs i no_rule)) → Holding Q over n X w (λ b. b < m + 1) (Partly rs m i) f → Holding Q over n X w (λ b. b < m + 1) (Partly rs m (i + 1)) f
    skip_rule i f v zero s h = holding_less f
        (λ b l k c d. c)
        (λ q l k c d. ⊎_elim (λ e. inl e) (λ e. ⊎_elim
        (λ z. inr (e.0, z, e.2))
        (λ z. let y = e.1 in let j : e.0 ≡ i = omega arith in let same : get_or rs i no_rule ≡ q = ap (λ (t : ℕ). get_or rs t no_rule) (sym j) ∙ e.2 in
        absurd (not_in_zero l (subst (Mem l) zero (s.all l (k, subst (Live Q over (X l)) (sym same) d)))))
        (cases_lt e.0 i)) c)
        h

    pub enter_end : (i : ℕ) (f : List Firing) → length rs ≤ i → Holding Q over n X w (λ b. b < m + 1) (Partly rs m i) f → HoldingTo Q over n X w (m + 1) f
    enter_end i f done h = holding_less f
        (λ b l k c d. c)
        (λ q l k c d. ⊎_elim
        (λ e. inl e)
        (λ e. let j : q.head ≡ m = omega arith in let p = place_of rs q no_rule (about.all q (d.0.of_the_list, j)) in let y = p.1 in inr (p.0, omega arith, p.2))
        (cases_lt q.head m))
        h

pub all_below : (n a : ℕ) → Mem a (2 ^ n - 1) → a < n
all_below n a h = mem_below n (2 ^ n - 1) a (let p = pow_pos n in omega arith) h

pub below_all : (n a : ℕ) → a < n → Mem a (2 ^ n - 1)
below_all n a h = let e : 2 ^ n - 1 - 0 ≡ 2 ^ n - 1 = omega arith in subst (Mem a) e (rest_mem n 0 a (pow_pos n) h (λ z. not_in_zero a z))

pub founded_lanes : (Q : List Rule) (over : Overruling) (n : ℕ) (X : ℕ → LiteralSet) (w v : ℕ) (f : Firings) (words : List ℕ) → w < 2 ^ 64 → HoldingTo Q over n X w n f.items.items → Reached f.items.items words
    → SetOf v (λ l. (l < 64) × ((j : ℕ) → Mem j (2 ^ n - 1) → Mem l (get_or words j 0))) → FoundedIn Q over n X w (bit_and w v)
founded_lanes Q over n X w v f words small h r s = record {
  firings = f;
  holding = h;
  words = words;
  reached = r;
  lanes = set_same
      (λ l x. (x.0, λ a b. x.1.1 a (below_all n a b)))
      (λ l x. (x.0, (mem_below 64 w l small x.0, λ a m. x.1 a (all_below n a m))))
      (set_and (set_own w) s);
}

-- Where each matter stands, a set is the step from itself exactly if all its literals are reached

module _ (Q : List Rule) (over : Overruling) (n : ℕ) (M : ℕ → ℕ) (w r : ℕ) (total : Total over) (formed : Formed n Q) (small : (l : ℕ) → M l < 2 ^ n) (founded : FoundedIn Q over n (λ l. settled n (M l)) w r) where
  module _ (l : ℕ) (in-w : Mem l w) (stands : (a : ℕ) → a < n → Stands Q over n (settled n (M l)) a) where
    closed : Closed (Survives Q over (settled n (M l))) (Default Q n (settled n (M l))) (settled n (M l))
    closed = stands_closed Q over n (M l) total formed (small l) stands

    one_sign : (s t : Sign) (a : ℕ) → Holds (settled n (M l)) s a → Holds (settled n (M l)) t a → s ≡ t
    one_sign Yes Yes a h k = refl
    one_sign No No a h k = refl
    one_sign Yes No a h k = absurd (settled_one n (M l) a (small l) h k)
    one_sign No Yes a h k = absurd (settled_one n (M l) a (small l) k h)

    -- what follows is in every closed set
    agrees : (Z : LiteralSet) → Closed (Survives Q over (settled n (M l))) (Default Q n (settled n (M l))) Z → (a : ℕ) → Follows founded.firings.items.items a l → (s : Sign) → Holds (settled n (M l)) s a → Holds Z s a
    agrees Z c a (by k b e m follows) s h = ⊎_elim
        (λ d.
        let q : d.0 ≡ a = d.2.0 ∙ sym e in
        let x = subst (λ (i : ℕ). Holds (settled n (M l)) No i) q (closed.defaults d.0 d.1) in
        subst (λ (t : Sign). Holds Z t a) (one_sign No s a x h) (subst (λ (i : ℕ). Holds Z No i) q (c.defaults d.0 d.1)))
        (λ d.
        let p = d.0 in
        let q : p.head ≡ a = d.2.0 ∙ sym e in
        let x = subst (λ (i : ℕ). Holds (settled n (M l)) p.sign i) q (closed.heads p d.1.0 d.1.1) in
        let body-in : body p ⊆ Z = record { each = λ t i u. agrees Z c i (follows i (subst (Mem i) (sym d.2.1) (named p t i u))) t (d.1.1.each t i u) } in
        subst (λ (t : Sign). Holds Z t a) (one_sign p.sign s a x h) (subst (λ (i : ℕ). Holds Z p.sign i) q (c.heads p d.1.0 body-in)))
        (founded.holding.only k l b m).1
      where
        named : (p : Rule) (t : Sign) (i : ℕ) → Holds (body p) t i → Mem i (bit_or p.yes p.no)
        named p Yes i u = mem_or_left i p.yes p.no u
        named p No i u = mem_or_right i p.yes p.no u

    pub founded_step : ((a : ℕ) → a < n → Lanes founded.words a l) → Step Q over n (settled n (M l)) (settled n (M l))
    founded_step f = record {
      closed = closed;
      least = λ Z c. record { each = λ s a h. agrees Z c a (founded.reached.only a l (f a (settled_below s a h))) s h };
    }
      where
        settled_below : (s : Sign) (a : ℕ) → Holds (settled n (M l)) s a → a < n
        settled_below Yes a h = mem_below n (M l) a (small l) h
        settled_below No a h = mem_below n (2 ^ n - 1 - M l) a (let p = pow_pos n in omega arith) h

    -- the literals that are reached
    abbrev reached_in : ℕ
    reached_in = gathered (λ a. eqb (get_or founded.words a 0 / 2 ^ l % 2) 1) n

    reach_has : (a : ℕ) → a < n → Lanes founded.words a l → Mem a reached_in
    reach_has a b h = gathered_has (λ i. eqb (get_or founded.words i 0 / 2 ^ l % 2) 1) n a b (eq-eqb (get_or founded.words a 0 / 2 ^ l % 2) 1 h)

    reach_only : (a : ℕ) → Mem a reached_in → Lanes founded.words a l
    reach_only a h = eqb-true (get_or founded.words a 0 / 2 ^ l % 2) 1 (gathered_only (λ i. eqb (get_or founded.words i 0 / 2 ^ l % 2) 1) n a h).1

    -- they are closed
    reach_closed : Closed (Survives Q over (settled n (M l))) (Default Q n (settled n (M l))) (meet (settled n (M l)) (reached_in, reached_in))
    reach_closed = record {
      heads = λ p v b.
          let x = ⊆_trans b (meet_left (settled n (M l)) (reached_in, reached_in)) in
          let y = ⊆_trans b (meet_right (settled n (M l)) (reached_in, reached_in)) in
          let e = founded.holding.rules p l in-w (formed p v.of_the_list) (v, x) in
          meet_both (settled n (M l)) (reached_in, reached_in) p.sign p.head (closed.heads p v x)
          (either p.sign p.head (reach_has p.head (formed p v.of_the_list)
          (founded.reached.all e.0 e.1 p.head l (e.3.0, e.2, λ i u. reach_only i (⊎_elim (λ m. y.each Yes i m) (λ m. y.each No i m) (mem_or_cases i p.yes p.no (subst (Mem i) e.3.1 u)))))));
      defaults = λ a d.
          let e = founded.holding.defaults a l in-w d.a_matter d in
          meet_both (settled n (M l)) (reached_in, reached_in) No a (closed.defaults a d)
          (reach_has a d.a_matter (founded.reached.all e.0 e.1 a l (e.3.0, e.2, λ i u. absurd (not_in_zero i (subst (Mem i) e.3.1 u)))));
    }
      where
        either : (s : Sign) (a : ℕ) → Mem a reached_in → Holds (reached_in, reached_in) s a
        either Yes a h = h
        either No a h = h

    pub step_founded : Step Q over n (settled n (M l)) (settled n (M l)) → (a : ℕ) → a < n → Lanes founded.words a l
    step_founded st a b =
        let all = ⊆_trans (st.least _ reach_closed) (meet_right (settled n (M l)) (reached_in, reached_in)) in
        reach_only a (⊎_elim (λ h. all.each Yes a h) (λ h. all.each No a (settled_other n (M l) Yes a (small l) b h)) (mem_cases a (M l)))
