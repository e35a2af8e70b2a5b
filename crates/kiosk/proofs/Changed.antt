-- What a slip still is when a fact on it changes its sign: the matters stay, so they are known and apart as before.
use Rattle.std.specs.Prelude.{◌≡◌, ℕ, zero, suc, List, [], ◌∷◌, slice_index_or, refl}
use Rattle.std.proofs.Common.{sym, ◌∙◌, arith}
use Rattle.rules.specs.declared.rule.Sign.{Sign}
use Rattle.kiosk.specs.declared.slip.Fact.{Fact}
use Rattle.kiosk.specs.Slip.{no_fact, re_signed, Known, Apart}
use Rattle.kiosk.specs.Facts.{length_re_signed}

pub matter_kept : (fs : List Fact) (i k : ℕ) (s : Sign) → (slice_index_or (re_signed fs i s) k no_fact).matter ≡ (slice_index_or fs k no_fact).matter
matter_kept [] zero k s = refl
matter_kept [] (suc i) k s = refl
matter_kept (f ∷ fs) zero zero s = refl
matter_kept (f ∷ fs) zero (suc k) s = refl
matter_kept (f ∷ fs) (suc i) zero s = refl
matter_kept (f ∷ fs) (suc i) (suc k) s = matter_kept fs i k s

pub known_re_signed : (n : ℕ) (fs : List Fact) (i : ℕ) (s : Sign) → Known n fs → Known n (re_signed fs i s)
known_re_signed n fs i s h k l = rw (matter_kept fs i k s) (h k (omega (arith, length_re_signed fs i s)))

pub apart_re_signed : (fs : List Fact) (i : ℕ) (s : Sign) → Apart fs → Apart (re_signed fs i s)
apart_re_signed fs i s h j k jk l q = h j k jk (omega (arith, length_re_signed fs i s)) (sym (matter_kept fs i j s) ∙ q ∙ matter_kept fs i k s)
