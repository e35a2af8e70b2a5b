use Rattle.std.proofs.Common.{refl}
use Rattle.std.proofs.lemmas.Result.{err_from_is_err_and}
use Rattle.report.specs.Listings.Says.{no_file}
use Rattle.report.proofs.Answering.{said_report, said_fault}
use Rattle.report.proofs.listing.list.Goals as goal

pub returns-in_err-fill : goal.returns-in_err-fill
returns-in_err-fill c =
    let p = err_from_is_err_and c.from_residual.result c.from_residual.ensures.1 in
    let w = c.in_err-fill.ensures.fills in
    rw (p.1, p.2) (no_file w.no_file w.refused, refl)

pub returns-in_err-write_report : goal.returns-in_err-write_report
returns-in_err-write_report c =
    let p = err_from_is_err_and c.from_residual-in_err-write_report.result c.from_residual-in_err-write_report.ensures.1 in
    let w = c.in_err-write_report.ensures in
    rw (p.1, p.2) (said_fault c.in_ok-fill.ensures.fills _ c.write_report.auto.list c.told-out w, w.1)

pub returns : goal.returns
returns c = said_report c.in_ok-fill.ensures.fills c.write_report.auto.list c.in_ok-write_report.ensures
