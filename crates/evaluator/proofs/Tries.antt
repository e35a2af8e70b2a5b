-- A finder tries its candidates in turn until one is an outcome.
use Rattle.std.proofs.Common.{◌≡◌, ℕ, ◌+◌, ◌-◌, ◌<◌, ◌≤◌, List, [], ◌∷◌, Option, Some, None, MatchOption, IfSome, IsTrue, sym, ap, ◌∙◌, subst, ⊎_elim, arith}
use denote.Param.Members.{Mut, Called}
use Rattle.std.proofs.lemmas.Bool.{cases_lt}
use Rattle.std.proofs.iter.Yields.{nat_range_steps}
use Rattle.std.proofs.iter.runs.Sources.{range_runs}
use Rattle.std.specs.Iterator.{Yields, FindsMapped}
use Rattle.std.specs.Iterator.Runs.{SomeRun, AllItemsGive, IsFirstToGive}
use Rattle.std.specs.List.{FoldsTo}
use Rattle.std.specs.Option.{option_map}
use Rattle.std.specs.declared.ops.Range.{Range}
use Rattle.rules.specs.declared.rule.Rule.{Rule}
use Rattle.rules.specs.Held.{held}
use Rattle.rules.specs.Semantics.{Outcome}
use Rattle.evaluator.specs.declared.finder.candidates.Candidates.{Candidates}
use Rattle.evaluator.specs.Finding.{candidate, Tried, Hands}

-- y is the answer at the first number of the range s at which there is one, and u is what is left of the range then
pub record FirstAt (gives : ℕ → Option ℕ → Type 0) (s u : Range ℕ) (y : ℕ) : Type 0 where
  pub at : ℕ
  pub not_before : s.start ≤ at
  pub within : at < s.end
  pub given : gives at (Some y)
  pub none_before : (k : ℕ) → s.start ≤ k → k < at → gives k None
  pub begins : u.start ≡ at + 1
  pub ends : u.end ≡ s.end

abbrev pub First : (ℕ → Option ℕ → Type 0) → Range ℕ → Range ℕ → Option ℕ → Type 0
First gives s u (Some y) = FirstAt gives s u y
First gives s u None = (k : ℕ) → s.start ≤ k → k < s.end → gives k None

same_end : (xs : List ℕ) (s t : Range ℕ) → Yields nat_range_steps s xs t → t.end ≡ s.end
same_end [] s t y = sym (ap (λ (r : Range ℕ). r.end) y)
same_end (x ∷ xs) s t y = same_end xs y.0 t y.2 ∙ y.1.0

pub end_kept : {F : Type 0} {g : Mut F (ℕ × Unit {0}) (Option ℕ)} {f : F} (s u : Range ℕ) (r : Option ℕ) → FindsMapped nat_range_steps g s f r u → u.end ≡ s.end
end_kept s u r found = found.3.2.0 ∙ same_end found.0 s found.3.0 found.3.1

module _ {F : Type 0} {g : Mut F (ℕ × Unit {0}) (Option ℕ)} {f : F} (gives : ℕ → Option ℕ → Type 0) (calls : (x : ℕ) (r : Option ℕ) (q : F) → Called g f (x, tt) r q → (q ≡ f) × gives x r) where
  walked : (xs : List ℕ) (s t u : Range ℕ) (x y : ℕ) (h q : F) → Yields nat_range_steps s xs t → nat_range_steps t (Some x) u → FoldsTo (λ p z j. Called g p (z, tt) None j) f xs h → Called g h (x, tt) (Some y) q → FirstAt gives s u y
  walked [] s t u x y h q e n c k =
      let i = ap (λ (r : Range ℕ). r.start) e in
      let j = ap (λ (r : Range ℕ). r.end) e in
      record {
        at = x;
        not_before = omega (arith, n.1.1);
        within = omega (arith, n.1.0, n.1.1);
        given = (calls x (Some y) q (subst (λ (z : F). Called g z (x, tt) (Some y) q) (sym c) k)).1;
        none_before = λ z a b. absurd (omega (arith, n.1.1));
        begins = omega (arith, n.1.1, n.1.2);
        ends = n.0 ∙ sym j;
      }
  walked (z ∷ zs) s t u x y h q e n c k =
      let first = e.1 in
      let call = calls z None c.0 c.1 in
      let w = walked zs e.0 t u x y h q e.2 n (subst (λ (p : F). FoldsTo (λ p z j. Called g p (z, tt) None j) p zs h) call.0 c.2) k in
      record {
        at = w.at;
        not_before = let l = w.not_before in omega (arith, first.1.2);
        within = let l = w.within in omega (arith, first.0);
        given = w.given;
        none_before = λ k a b. ⊎_elim
            (λ l. w.none_before k (omega (arith, first.1.2)) b)
            (λ l. let i : z ≡ k = omega (arith, first.1.1) in subst (λ (v : ℕ). gives v None) i call.1)
            (cases_lt s.start k);
        begins = w.begins;
        ends = w.ends ∙ first.0;
      }

  at_item : (o : Option ℕ) (n : ℕ) → option_map (λ y. y) o ≡ Some n → IfSome o (λ x. Called g f (x, tt) None f) → gives n None
  at_item None n e h = absurd (let bad : ⊥ = cc in bad)
  at_item (Some x) n e h = let i : x ≡ n = cc in subst (λ (v : ℕ). gives v None) i (calls x None f h).1

  pub first : (s u : Range ℕ) (r : Option ℕ) → FindsMapped nat_range_steps g s f r u
      → SomeRun nat_range_steps s (λ p. MatchOption r (IsTrue p.whole × AllItemsGive p g f None) (λ y. (i : ℕ) × (i < p.len) × (p.len ≡ i + 1) × IsFirstToGive p g f (Some y) None i))
      → First gives s u r
  first s u None found run = λ k a b.
      let p = run.0 in
      let up = range_runs p p.seen in
      let i = ap (λ (r : Range ℕ). r.start) run.1 in
      let j = ap (λ (r : Range ℕ). r.end) run.1 in
      let len = up.1 run.2.0 in
      let e : p.from.start + (k - s.start) ≡ k = omega arith in
      at_item (p.at (k - s.start)) k (up.3 (k - s.start) (omega arith) ∙ ap Some e) (run.2.1 (λ x r q c. (calls x.0 r q c).0) (k - s.start))
  first s u (Some y) found run = stopped found.0 found.1 found.2 found.3 found.4 found.5
    where
      stopped : (xs : List ℕ) (o : Option ℕ) (h : F) → ((t : Range ℕ) × Yields nat_range_steps s xs t × nat_range_steps t o u) → FoldsTo (λ p z j. Called g p (z, tt) None j) f xs h → MatchOption o (Some y ≡ None) (λ x. (q : F) × Called g h (x, tt) (Some y) q) → FirstAt gives s u y
      stopped xs None h y' c k = absurd (let bad : ⊥ = cc in bad)
      stopped xs (Some x) h w c k = walked xs s w.0 u x y h k.0 w.1 w.2 c k.1

-- what it finds there it gives, and it has to give what is left
pub hands : (c : Candidates) (s u : Range ℕ) (r : Option ℕ) (few : s.end ≤ 65536) (few' : u.end ≤ 65536) → First (Tried c) s u r → Hands (record { candidates = c; untried = s; few = few }) r (record { candidates = c; untried = u; few = few' })
hands c s u None few few' none P over n p from = λ M a o.
    let w = from.all M o a in
    none w.0 w.1 w.2 over from.tabled (subst (λ (Q : List Rule). Outcome Q over c.matters (candidate c w.0)) (sym from.rules_are) (subst (λ (k : ℕ). Outcome P over k (candidate c w.0)) (sym from.matters_are) (subst (Outcome P over n) w.3 o)))
hands c s u (Some m) few few' found P over n p from =
    let e = found.given.0 in
    let i = found.begins in
    let j = found.ends in
    let a = found.not_before in
    let b = found.within in
    record {
      not_below = let h = from.low found.at a b in omega arith;
      outcome = subst (λ (Q : List Rule). Outcome Q over n m) from.rules_are (subst (λ (k : ℕ). Outcome (held c.table) over k m) from.matters_are (found.given.1 over from.tabled));
      least = λ M h l o. let w = from.all M o h in ⊎_elim
          (λ k. found.none_before w.0 w.1 k over from.tabled (subst (λ (Q : List Rule). Outcome Q over c.matters (candidate c w.0)) (sym from.rules_are) (subst (λ (k : ℕ). Outcome P over k (candidate c w.0)) (sym from.matters_are) (subst (Outcome P over n) w.3 o))))
          (λ k. let v = w.3 in ⊎_elim
          (λ q. let r = from.rising found.at w.0 q w.2 in omega arith)
          (λ q. let same : w.0 ≡ found.at = omega arith in let r = ap (candidate c) same in omega arith)
          (cases_lt found.at w.0))
          (cases_lt w.0 found.at);
      further = record {
        rules_are = from.rules_are;
        matters_are = from.matters_are;
        tabled = from.tabled;
        rising = λ t v l h. from.rising t v l (omega arith);
        low = λ t h l. let r = from.rising found.at t (omega arith) (omega arith) in omega arith;
        all = λ M o h. let w = from.all M o (let r = from.low found.at a b in omega arith) in (
          w.0,
          ⊎_elim (λ k. omega arith) (λ k. let v = w.3 in ⊎_elim
              (λ q. let r = from.rising w.0 found.at q b in absurd (omega arith))
              (λ q. let same : w.0 ≡ found.at = omega arith in let r = ap (candidate c) same in absurd (omega arith))
              (cases_lt w.0 found.at)) (cases_lt found.at w.0),
          (let h = w.2 in omega arith),
          w.3,
        );
      };
    }
