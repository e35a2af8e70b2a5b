use Rattle.report.proofs.Pages.{adds_then, fits_next}
use Rattle.report.proofs.page.Page.put_line.Goals as goal

pub put-requires-2 : goal.put-requires-2
put-requires-2 c = fits_next c.put.ensures c.requires

pub returns : goal.returns
returns c = adds_then c.put.ensures c.put-2.ensures
