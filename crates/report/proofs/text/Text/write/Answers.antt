use Rattle.std.proofs.Common.{rules, ◌≤◌, List, ℕ, ◌++◌, length, arith}
use Rattle.std.specs.Borrow.{MutBor}
use Rattle.report.specs.declared.page.Page.{Page}
use Rattle.report.specs.declared.text.Text.{Text}
use Rattle.report.specs.Pages.{Opens, Fits}
use Rattle.report.specs.Text.{cells, heading, letter, line, listing, text}
use Rattle.report.proofs.Lengths.{take_cells}
use Rattle.report.proofs.Pages.{written, opens_fits, adds_then, fits_first, fits_next}
use Rattle.report.proofs.text.Text.write.Goals as goal

-- the whole text fits on a page over a buffer that is long enough
whole : {buffer : MutBor (List ℕ)} {page : Page} (t : Text) → Opens buffer page → length (text t.code t.matters t.outcomes.now t.model) ≤ length buffer.now
    → Fits page (heading t.code (length t.outcomes.now) ++ (listing t.matters t.outcomes.now ++ line (cells (letter t.model) t.matters)))
unfolding text
whole t o h = opens_fits (text t.code t.matters t.outcomes.now t.model) o h

pub put_heading-requires : goal.put_heading-requires
put_heading-requires c = fits_first _ (whole c.args.self.now c.new-page.ensures (omega arith))

pub put_outcomes-requires : goal.put_outcomes-requires
put_outcomes-requires c = fits_first _ (fits_next c.put_heading.ensures (whole c.args.self.now c.new-page.ensures (omega arith)))

pub put_line-requires : goal.put_line-requires
put_line-requires c =
    let t = c.args.self.now in
    rw (take_cells (letter t.model) c.from.result t.matters c.letters.result c.from.ensures c.letters.ensures t.few)
    (fits_next c.put_outcomes.ensures (fits_next c.put_heading.ensures (whole t c.new-page.ensures (omega arith))))

pub returns : goal.returns
unfolding text
returns c =
    let t = c.args.self.now in
    let row = take_cells (letter t.model) c.from.result t.matters c.letters.result c.from.ensures c.letters.ensures t.few in
    written c.new-page.ensures (adds_then c.put_heading.ensures (adds_then c.put_outcomes.ensures (rw row at c.put_line.ensures))) c.len-2.ensures (search rules)
