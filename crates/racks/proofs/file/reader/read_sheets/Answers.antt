use Rattle.std.proofs.Common.{◌<◌, length, sym, ap, arith}
use Rattle.std.proofs.lemmas.List.{nil_from_length}
use Rattle.std.proofs.lemmas.Result.{err_from_is_err_and}
use Rattle.std.proofs.lemmas.Bool.{eqb-true, eqb-false, lt-ltb}
use Rattle.racks.specs.Changing.{sheets_meaning, begun, beginnable}
use Rattle.racks.specs.Faults.{file_number}
use Rattle.racks.specs.Meaning.{Meaning}
use Rattle.racks.proofs.Laid.{changed, passes}
use Rattle.racks.proofs.Files.{done_more, sheet_refused, end_refused, is_file}
use Rattle.racks.proofs.file.reader.read_sheets.Goals as goal

-- a sheet can be begun for each that is announced
pub unwrap-requires : goal.unwrap-requires
unwrap-requires c =
    let n = ap (λ (m : Meaning). m.sheets) c.loop.invariant.rack_is in
    let s = c.loop.invariant.so_many in
    passes beginnable begun (sheets_meaning c.loop.sheets) (sheets_meaning c.begin.new.self) c.begin.result (lt-ltb _ 32 (omega arith)) c.begin.ensures

pub returns-in_err-rest : goal.returns-in_err-rest
returns-in_err-rest c =
    let p = err_from_is_err_and c.from_residual.result c.from_residual.ensures.1 in
    let k = c.args.sheets.kept in
    let b = changed beginnable begun (sheets_meaning c.loop.sheets) (sheets_meaning c.begin.new.self) c.begin.result c.unwrap.ensures c.begin.ensures in
    rw (p.1, p.2) (sheet_refused k.some_matters k.few_matters c.requires.low c.loop.invariant (file_number c.in_err-rest.field-0.0) (sheets_meaning c.begin.new.self) b.1 (omega arith) c.in_err-rest.ensures)

pub loop-preserved : goal.loop-preserved
loop-preserved c =
    let b = changed beginnable begun (sheets_meaning c.loop.sheets) (sheets_meaning c.begin.new.self) c.begin.result c.unwrap.ensures c.begin.ensures in
    done_more c.loop.invariant b.1 c.in_ok-rest.ensures

pub returns-then-not-is_empty : goal.returns-then-not-is_empty
returns-then-not-is_empty c =
    let k = c.args.sheets.kept in
    let l : 0 < length c.loop.rest.now = omega (arith, eqb-false _ 0 (sym c.if-not-is_empty.ensures)) in
    end_refused k.some_matters k.few_matters c.requires.low c.loop.invariant (omega arith) l

pub returns : goal.returns
returns c =
    let k = c.args.sheets.kept in
    let l = nil_from_length c.loop.rest.now (eqb-true _ 0 (sym c.if-not-is_empty.ensures)) in
    record {
      matters = c.args.sheets.matters;
      sheets = c.loop.invariant.sheets;
      file = is_file k.some_matters k.few_matters c.requires.low c.loop.invariant (omega arith) l;
      holds = c.loop.invariant.rack_is;
    }
