-- The rules that a trial has about a matter, and sweeps over the matters.
use Rattle.std.proofs.Common.{◌≡◌, ℕ, ◌+◌, ◌-◌, ◌^◌, ◌<◌, ◌≤◌, true, not, eqb, List, length, get_or, Ok, Err, Result, drop, filter, sym, ap, ◌∙◌, subst, ⊎_elim, arith, length-drop}
use lib.Bits.{bit_and}
use Rattle.std.specs.Result.{MatchResult}
use Rattle.std.proofs.lemmas.List.{length-take-le}
use Rattle.std.proofs.lemmas.Bool.{cases_lt, and_from, and_parts, eqb-true, eq-eqb}
use Rattle.rules.specs.declared.rule.Rule.{Rule}
use Rattle.rules.specs.declared.table.Table.{Table}
use Rattle.rules.specs.Held.{held}
use Rattle.rules.specs.Semantics.{Mem, LiteralSet, ◌∈◌, Overruling, body, holds, struck, Formed}
use Rattle.rules.proofs.Bitwise.{mem_and, mem_and_left, mem_and_right, mem_below, not_in_zero}
use Rattle.rules.proofs.Computed.{kept_mem, mem_kept}
use Rattle.steps.specs.Parts.{SetOf, Members}
use Rattle.lanes.specs.declared.trial.Trial.{Trial}
use Rattle.lanes.specs.Contesting.{About}
use Rattle.lanes.specs.Docketing.{about, group}
use Rattle.lanes.specs.Settling.{Stands}
use Rattle.lanes.specs.Trying.{Sound, StandFrom, Sweeps}

pub struck_in : {P : List Rule} (r : Rule) → r ∈ struck P → (r ∈ P) × (not (holds (body r) r.sign r.head) ≡ true)
unfolding struck
struck_in {P} r m = mem_kept (λ q. not (holds (body q) q.sign q.head)) r P m

pub in_struck : {P : List Rule} (r : Rule) → r ∈ P → not (holds (body r) r.sign r.head) ≡ true → r ∈ struck P
unfolding struck
in_struck {P} r m t = kept_mem (λ q. not (holds (body q) q.sign q.head)) r P m t

-- a table holds few rules
held_few : (t : Table) → length (held t) ≤ 256
unfolding held
held_few t = let w = t.within in let l = lib.ListN.length-take t.len t.rules in omega arith

-- the rules about a matter are those of the list without its tautologies
pub about_members : (P rs : List Rule) (a : ℕ) → rs ≡ filter (about a) P → Members rs (About (struck P) a)
about_members P rs a e = subst (λ (Q : List Rule). Members Q (About (struck P) a)) (sym e) (record {
  all = λ r w. let s = struck_in r w.0 in kept_mem (about a) r P s.0 (and_from (eqb r.head a) (not (holds (body r) r.sign r.head)) (eq-eqb r.head a w.1) s.1);
  only = λ r m. let k = mem_kept (about a) r P m in let p = and_parts (eqb r.head a) (not (holds (body r) r.sign r.head)) k.1 in (in_struck r k.0 p.1, eqb-true r.head a p.0);
})

module _ (P : List Rule) (t : Trial) (sound : Sound P t) where
  pub group_about : (a : ℕ) (rs : List Rule) → a < 16 → rs ≡ group t.docket a → Members rs (About (struck P) a)
  group_about a rs l e = about_members P rs a (e ∙ sound.docketed.rules a l)

  pub group_low : (a : ℕ) (rs : List Rule) → a < 16 → rs ≡ group t.docket a → (r : Rule) → r ∈ rs → r.sheet < 32
  group_low a rs l e r m = sound.ready.low_sheets r (struck_in r ((group_about a rs l e).only r m).0).0

  pub struck_formed : Formed t.matters (struck P)
  struck_formed r m = sound.ready.formed r (struck_in r m).0

  pub most_matters : t.matters ≤ 16
  most_matters = sound.ready.few_matters

  -- how many rules a matter has, and where they end
  pub group_room : (a : ℕ) (rs : List Rule) → a < 16 → rs ≡ group t.docket a → (get_or t.docket.starts a 0 + length rs ≡ get_or t.docket.starts (a + 1) 0) × (get_or t.docket.starts (a + 1) 0 ≤ 256)
  group_room a rs l e =
      let r = sound.docketed.rising a l in
      let p = r.0 in
      let q = r.1 in
      let s = get_or t.docket.starts a 0 in
      let u = get_or t.docket.starts (a + 1) 0 in
      let few = held_few t.docket.rules in
      let d = length-drop s (held t.docket.rules) in
      let n = ap length e ∙ length-take-le (u - s) (drop s (held t.docket.rules)) (omega arith) in
      (omega arith, omega arith)

-- Sweeps

module _ (P : List Rule) (over : Overruling) (n : ℕ) (X : ℕ → LiteralSet) (i : ℕ) (w : ℕ) where
  pub sweep_start : SetOf w (StandFrom P over n X i i w)
  sweep_start = record { all = λ l h. h.0; only = λ l h. (h, λ a p q. absurd (omega arith)) }

  pub sweep_more : (j v s : ℕ) → SetOf v (StandFrom P over n X i j w) → SetOf s (λ l. (l < 64) × Stands (struck P) over n (X l) j) → i ≤ j → w < 2 ^ 64 → SetOf (bit_and v s) (StandFrom P over n X i (j + 1) w)
  sweep_more j v s a b ij small = record {
    all = λ l h. mem_and l v s (a.all l (h.0, λ c p q. h.1 c p (omega arith))) (b.all l (mem_below 64 w l small h.0, h.1 j ij (omega arith)));
    only = λ l h. let x = a.only l (mem_and_left l v s h) in let y = b.only l (mem_and_right l v s h) in
        (x.0, λ c p q. ⊎_elim (λ k. x.1 c p k) (λ k. let e : c ≡ j = omega arith in subst (Stands (struck P) over n (X l)) (sym e) y.1) (cases_lt c j));
  }

  -- where no lane is left, none stands to the end either
  pub sweep_none : (j k v : ℕ) → v ≡ 0 → j ≤ k → SetOf v (StandFrom P over n X i j w) → SetOf 0 (StandFrom P over n X i k w)
  sweep_none j k v z jk a = record {
    all = λ l h. subst (Mem l) z (a.all l (h.0, λ c p q. h.1 c p (omega arith)));
    only = λ l h. absurd (not_in_zero l h);
  }

  pub sweep_end : (j k v : ℕ) → j ≡ k → SetOf v (StandFrom P over n X i j w) → SetOf v (StandFrom P over n X i k w)
  sweep_end j k v e a = subst (λ (x : ℕ). SetOf v (StandFrom P over n X i x w)) e a

-- Two sweeps: from a matter on, and up to it

module _ (P : List Rule) (over : Overruling) (n : ℕ) (X : ℕ → LiteralSet) (w : ℕ) where
  -- the lanes in which all matters stand, or none
  abbrev pub AllStand : Result ℕ ℕ → Type 0
  AllStand (Ok v) = SetOf v (StandFrom P over n X 0 n w)
  AllStand (Err a) = SetOf 0 (StandFrom P over n X 0 n w)

  pub both_swept : (first : ℕ) (next : ℕ → Type 0) (r q : Result ℕ ℕ) → first ≤ n → Sweeps P over n X first n w r → MatchResult r next (λ e. q ≡ Err e) → ((a : ℕ) → next a → Sweeps P over n X 0 first a q) → AllStand q
  both_swept first next (Ok a) (Ok v) inside s m f =
      let t = f a m in record {
        all = λ l h. t.0.all l (s.0.all l (h.0, λ b _ k. h.1 b (omega arith) k), λ b p k. h.1 b p (omega arith));
        only = λ l h. let x = t.0.only l h in let y = s.0.only l x.0 in (y.0, λ b p k. ⊎_elim (λ c. x.1 b p c) (λ c. y.1 b c k) (cases_lt b first));
      }
  both_swept first next (Ok a) (Err e) inside s m f =
      let t = f a m in record {
        all = λ l h. t.none.all l (s.0.all l (h.0, λ b _ k. h.1 b (omega arith) k), λ b p k. h.1 b p (let c = t.below in omega arith));
        only = λ l h. absurd (not_in_zero l h);
      }
  both_swept first next (Err e) q inside s m f = subst AllStand (sym m) (record {
    all = λ l h. s.none.all l (h.0, λ b _ k. h.1 b (omega arith) (let c = s.below in omega arith));
    only = λ l h. absurd (not_in_zero l h);
  })
