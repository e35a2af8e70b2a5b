use Rattle.std.proofs.Common.{refl}
use Rattle.std.proofs.lemmas.Result.{err_from_is_err_and}
use Rattle.racks.proofs.Unique.{no_file, unambiguous}
use Rattle.racks.proofs.file.FileRack.fill.Goals as goal

pub returns-in_err-self : goal.returns-in_err-self
returns-in_err-self c =
    let p = err_from_is_err_and c.from_residual.result c.from_residual.ensures.1 in
    let r = c.in_err-self.ensures in
    record { fills = rw (p.1, p.2) (record { refused = r; no_file = no_file r; same = refl }); unambiguous = unambiguous _ }

pub returns : goal.returns
returns c = record { fills = c.in_ok-self.ensures; unambiguous = unambiguous _ }
