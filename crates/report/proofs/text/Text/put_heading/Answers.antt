use Rattle.std.proofs.Common.{◌≡◌, ℕ, ◌∷◌, [], ◌++◌, decimal, append_assoc}
use Rattle.report.specs.declared.page.Page.{Page}
use Rattle.report.specs.Pages.{Adds, Fits}
use Rattle.report.specs.Text.{heading}
use Rattle.report.proofs.Pages.{adds_then, fits_first, fits_next}
use Rattle.report.proofs.text.Text.put_heading.Goals as goal

-- the heading, piece by piece
pieces : (code count : ℕ) → heading code count ≡ decimal code ++ ((32 ∷ []) ++ (decimal count ++ (10 ∷ [])))
unfolding heading
pieces code count = simp append_assoc

-- what is left of the heading fits behind the code
behind_code : {a b : Page} (code count : ℕ) → Fits a (heading code count) → Adds a (decimal code) b → Fits b ((32 ∷ []) ++ (decimal count ++ (10 ∷ [])))
behind_code code count f x = fits_next x (rw pieces at f)

pub put_number-requires : goal.put_number-requires
put_number-requires c = fits_first _ (rw pieces at c.requires)

pub put-requires : goal.put-requires
put-requires c = fits_first _ (behind_code _ _ c.requires c.put_number.ensures)

pub put_number-requires-2 : goal.put_number-requires-2
put_number-requires-2 c = fits_first _ (fits_next c.put.ensures (behind_code _ _ c.requires c.put_number.ensures))

pub put-requires-2 : goal.put-requires-2
put-requires-2 c = fits_next c.put_number-2.ensures (fits_next c.put.ensures (behind_code _ _ c.requires c.put_number.ensures))

pub returns : goal.returns
returns c = rw pieces (adds_then c.put_number.ensures (adds_then c.put.ensures (adds_then c.put_number-2.ensures c.put-2.ensures)))
