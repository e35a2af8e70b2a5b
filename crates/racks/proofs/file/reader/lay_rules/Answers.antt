use Rattle.std.proofs.lemmas.Result.{err_from_is_err_and}
use Rattle.racks.specs.Changing.{sheets_meaning, laid, layable}
use Rattle.racks.proofs.Laid.{changed, unchanged, fault_is}
use Rattle.racks.proofs.SheetReading.{one_more, one_bad}
use Rattle.racks.proofs.file.reader.lay_rules.Goals as goal

pub returns-in_err-ok_or : goal.returns-in_err-ok_or
returns-in_err-ok_or c =
    let p = err_from_is_err_and c.from_residual.result c.from_residual.ensures.1 in
    let none = c.in_err-ok_or.ensures.ok_part in
    let e = c.in_err-ok_or.ensures.value in
    let x = c.record_of.result in
    let u = unchanged (λ k. layable k x) (λ k. laid k x) (sheets_meaning c.loop-bytes.sheets) (sheets_meaning c.lay.new.self) c.lay.result none c.lay.ensures in
    rw (p.1, p.2) (fault_is c.lay.result none e, one_bad c.args.rules.now c.loop-bytes.bytes-index (sheets_meaning c.args.sheets.now) (sheets_meaning c.loop-bytes.sheets) c.record_of.result c.loop-bytes.invariant c.loop-bytes-test.true c.record_of.ensures c.requires.on c.requires.room u.0)

pub loop-bytes-preserved : goal.loop-bytes-preserved
loop-bytes-preserved c =
    let some = c.in_ok-ok_or.ensures.ok_part in
    let x = c.record_of.result in
    let u = changed (λ k. layable k x) (λ k. laid k x) (sheets_meaning c.loop-bytes.sheets) (sheets_meaning c.lay.new.self) c.lay.result some c.lay.ensures in
    one_more c.args.rules.now c.loop-bytes.bytes-index (sheets_meaning c.args.sheets.now) (sheets_meaning c.loop-bytes.sheets) c.record_of.result c.loop-bytes.invariant c.loop-bytes-test.true c.record_of.ensures (sheets_meaning c.lay.new.self) u.0 u.1
