-- The fold that surveys the outcomes for a ruling: what was seen of those below `from`.
use Rattle.std.proofs.Common.{◌≡◌, ℕ, ◌+◌, ◌<◌, ◌≤◌, Bool, true, false, ◌||◌, not, List, [], ◌∷◌, None, Decides, sym, refl, ap, ◌∙◌, subst, ⊎_elim, true≢false, arith}
use denote.Param.Members.{Mut, Called}
use mathlib.Core.Bool.{false≢true}
use Rattle.std.specs.Iterator.{YieldsThen}
use Rattle.std.specs.List.{FoldsTo}
use Rattle.std.proofs.lemmas.Bool.{cases_lt, or_cases}
use Rattle.std.proofs.lemmas.Bool.Decides.{Decides-not}
use Rattle.rules.specs.declared.rule.Rule.{Rule}
use Rattle.rules.specs.Semantics.{Mem, Overruling, Outcome}
use Rattle.evaluator.specs.declared.answer.Ruling.{Ruling}
use Rattle.evaluator.specs.declared.finder.Finder.{Finder}
use Rattle.evaluator.specs.Finding.{From, Hands}
use Rattle.evaluator.specs.Matters.{SomeWith, SomeWithout, RulingOf, sum}

-- an outcome below `from` of which Q holds was seen exactly if the flag is set
pub record Noted (P : List Rule) (over : Overruling) (n : ℕ) (Q : ℕ → Type 0) (from : ℕ) (flag : Bool) : Type 0 where
  pub seen : flag ≡ true → (M : ℕ) × Outcome P over n M × Q M
  pub unseen : flag ≡ false → (M : ℕ) → M < from → Outcome P over n M → Q M → ⊥

module _ {P : List Rule} {over : Overruling} {n : ℕ} {Q : ℕ → Type 0} where
  pub noted_start : Noted P over n Q 0 false
  noted_start = record { seen = λ e. absurd (false≢true e); unseen = λ _ M l. absurd (omega arith) }

  pub noted_more : {from m : ℕ} {flag : Bool} (b : Bool) → Decides b (Q m) → Outcome P over n m → ((M : ℕ) → from ≤ M → M < m → Outcome P over n M → ⊥) → Noted P over n Q from flag → Noted P over n Q (m + 1) (flag || b)
  noted_more {from} {m} {flag} b d outcome least s = record {
    seen = λ e. ⊎_elim (λ t. s.seen t) (λ t. (m, outcome, d.0 t)) (or_cases flag b e);
    unseen = λ e M l o q. let parts = or_false flag b e in
        ⊎_elim (λ h. ⊎_elim (λ k. s.unseen parts.0 M k o q) (λ k. least M k h o) (cases_lt M from))
        (λ h. let same : M ≡ m = omega arith in true≢false (sym (d.1 (subst Q same q)) ∙ parts.1)) (cases_lt M m);
  }
    where
      or_false : (x y : Bool) → (x || y) ≡ false → (x ≡ false) × (y ≡ false)
      or_false true y e = absurd (true≢false e)
      or_false false y e = (refl, e)

  -- at the end, where there is no outcome from `from` on
  pub noted_none : {from : ℕ} {flag : Bool} → ((M : ℕ) → from ≤ M → Outcome P over n M → ⊥) → Noted P over n Q from flag → flag ≡ false → (M : ℕ) → Outcome P over n M → Q M → ⊥
  noted_none {from} none s e M o q = ⊎_elim (λ l. s.unseen e M l o q) (λ l. none M l o) (cases_lt M from)

module _ {P : List Rule} {over : Overruling} {n a from : ℕ} where
  pub some_with : {flag : Bool} → Noted P over n (λ M. Mem a M) from flag → flag ≡ true → SomeWith P over n a
  some_with s e = let w = s.seen e in record { outcome = w.0; is_one = w.1; has = w.2 }

  pub some_without : {flag : Bool} → Noted P over n (λ M. Mem a M → ⊥) from flag → flag ≡ true → SomeWithout P over n a
  some_without s e = let w = s.seen e in record { outcome = w.0; is_one = w.1; lacks = w.2 }

  pub none_with : {flag : Bool} → ((M : ℕ) → from ≤ M → Outcome P over n M → ⊥) → Noted P over n (λ M. Mem a M) from flag → flag ≡ false → SomeWith P over n a → ⊥
  none_with none s e w = noted_none none s e w.outcome w.is_one w.has

  pub none_without : {flag : Bool} → ((M : ℕ) → from ≤ M → Outcome P over n M → ⊥) → Noted P over n (λ M. Mem a M → ⊥) from flag → flag ≡ false → SomeWithout P over n a → ⊥
  none_without none s e w = noted_none none s e w.outcome w.is_one w.lacks

-- the sum of what was noted is the ruling
pub ruled : {P : List Rule} {over : Overruling} {n from : ℕ} (a : ℕ) (with without : Bool) → ((M : ℕ) → from ≤ M → Outcome P over n M → ⊥)
    → Noted P over n (λ M. Mem a M) from with → Noted P over n (λ M. Mem a M → ⊥) from without → RulingOf P over n a (sum with without)
ruled a true false none s t = (some_with s refl, none_without none t refl)
ruled a false true none s t = (some_without t refl, none_with none s refl)
ruled a true true none s t = (some_with s refl, some_without t refl)
ruled a false false none s t = (none_with none s refl, none_without none t refl)

-- the ruling s is r, told of one more outcome
abbrev pub Told : ℕ → Ruling → ℕ → Ruling → Type 0
Told a r m s = (with without : Bool) → r ≡ sum with without → (has : Bool) × Decides has (Mem a m) × (s ≡ sum (with || has) (without || not has))

module _ {P : List Rule} {over : Overruling} {n : ℕ} {F : Type 0} {g : Mut F (Ruling × (ℕ × Unit {0})) Ruling} {f : F} (a : ℕ) (calls : (r : Ruling) (m : ℕ) (s : Ruling) (h : F) → Called g f (r, (m, tt)) s h → (h ≡ f) × Told a r m s) where
  -- a fold over what the finder gives tells the ruling of each outcome
  pub surveyed : (xs : List ℕ) (d u : Finder) {p : ℕ} (r s : Ruling) (h : F) (with without : Bool) → From P over n d p → r ≡ sum with without
      → Noted P over n (λ M. Mem a M) p with → Noted P over n (λ M. Mem a M → ⊥) p without
      → YieldsThen Hands d xs None u → FoldsTo {P = F × Ruling} (λ b x c. Called g b.0 (b.1, (x, tt)) c.1 c.0) (f, r) xs (h, s) → RulingOf P over n a s
  surveyed [] d u {p} r s h with without from e w l gave folds =
      let none = subst (λ (z : Finder). Hands z None u) (sym gave.1) gave.2 P over n p from in
      subst (RulingOf P over n a) (sym e ∙ ap (λ (b : F × Ruling). b.1) folds) (ruled a with without none w l)
  surveyed (x ∷ xs) d u {p} r s h with without from e w l gave folds =
      let given = gave.1.1 P over n p from in
      let call = calls r x folds.0.1 folds.0.0 folds.1 in
      let told = call.1 with without e in
      let has = told.0 in
      surveyed xs gave.1.0 u folds.0.1 s h (with || has) (without || not has) given.further told.2
      (noted_more {Q = λ M. Mem a M} has told.1 given.outcome given.least w)
      (noted_more {Q = λ M. Mem a M → ⊥} (not has) (Decides-not has told.1) given.outcome given.least l)
      (gave.0, gave.1.2, gave.2)
      (subst (λ (z : F). FoldsTo {P = F × Ruling} (λ b x c. Called g b.0 (b.1, (x, tt)) c.1 c.0) (z, folds.0.1) xs (h, s)) call.0 folds.2)
