-- Pieces that are put on a page one after another.
use Rattle.std.proofs.Common.{◌≡◌, ℕ, ◌≤◌, List, [], ◌++◌, length, Some, refl, ap, ◌∙◌, subst, arith, length-append}
use Rattle.std.specs.Borrow.{MutBor}
use Rattle.report.specs.declared.page.Page.{Page}
use Rattle.report.specs.Pages.{Opens, Fits, Adds}
use Rattle.report.specs.Writing.{Puts, Writes}
use Rattle.report.proofs.Splices.{puts_nothing, puts_then, puts_long, puts_front}

pub adds_nothing : {p : List ℕ} (page : Page) → Fits page p → Adds page [] page
adds_nothing page f = record { same_buffer = refl; puts = puts_nothing page.out.now page.at (omega arith) }

pub adds_then : {a b c : Page} {p q : List ℕ} → Adds a p b → Adds b q c → Adds a (p ++ q) c
adds_then x y = record { same_buffer = y.same_buffer ∙ x.same_buffer; puts = puts_then x.puts y.puts }

-- a piece leaves the length as it was
pub adds_long : {a b : Page} {p : List ℕ} → Adds a p b → length b.out.now ≡ length a.out.now
adds_long x = puts_long x.puts

pub fits_first : {a : Page} {p : List ℕ} (q : List ℕ) → Fits a (p ++ q) → Fits a p
fits_first {a} {p} q f = record { room = omega (arith, length-append p q) }

pub fits_next : {a b : Page} {p q : List ℕ} → Adds a p b → Fits a (p ++ q) → Fits b q
fits_next {a} {b} {p} {q} x f =
    let same = adds_long x in
    record { room = omega (arith, length-append p q) }

pub opens_fits : {buffer : MutBor (List ℕ)} {page : Page} (words : List ℕ) → Opens buffer page → length words ≤ length buffer.now → Fits page words
opens_fits words o h = record { room = omega (arith, ap length o.holds) }

-- what stands on a page that began empty is the front of its buffer
pub written : {buffer : MutBor (List ℕ)} {a b : Page} {words after : List ℕ} {len : ℕ} → Opens buffer a → Adds a words b → len ≡ b.at → after ≡ b.out.now → Writes words buffer.now after (Some len)
written {buffer} {a} {b} {words} o x l e =
    let p : Puts buffer.now 0 words b.out.now b.at =
    subst (λ (at : ℕ). Puts buffer.now at words b.out.now b.at) o.starts (subst (λ (before : List ℕ). Puts before a.at words b.out.now b.at) o.holds x.puts) in
    rw (l, e) (puts_front p)
