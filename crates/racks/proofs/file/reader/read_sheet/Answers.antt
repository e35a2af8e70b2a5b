use Rattle.std.proofs.Common.{◌≡◌, ℕ, ◌+◌, ◌/◌, ◌%◌, ◌≤◌, true, List, length, ap, ◌∙◌, subst, arith}
use Rattle.std.specs.List.{IsSplitAt}
use Rattle.std.proofs.lemmas.List.{take_rest}
use Rattle.std.proofs.lemmas.Option.{MatchOption-at_some}
use Rattle.std.proofs.lemmas.Result.{err_from_is_err_and}
use Rattle.rules.specs.declared.rule.Shape.{Shape}
use Rattle.racks.specs.Packing.{some_bad}
use Rattle.racks.specs.Reading.{Adds, unpacked}
use Rattle.racks.specs.Changing.{sheets_meaning}
use Rattle.racks.proofs.Packings.{AllBytes}
use Rattle.racks.proofs.SheetReading.{sheet_read, sheet_bad}
use Rattle.racks.proofs.file.reader.read_sheet.Goals as goal

pub returns-in_err-lay_rules : goal.returns-in_err-lay_rules
returns-in_err-lay_rules c =
    let p = err_from_is_err_and c.from_residual-in_err-lay_rules.result c.from_residual-in_err-lay_rules.ensures.1 in
    let bytes = c.args.bytes.now in
    let m = sheets_meaning c.args.sheets.now in
    let v = c.from-length.result in
    let h = c.in_err-lay_rules.ensures in
    let s = MatchOption-at_some _ _ _ c.in_ok-rules.ensures.ok_part c.split_at_checked.ensures.cases in
    let d = subst (λ (xs : List _). IsSplitAt xs v c.in_ok-rules.rules.now c.in_ok-rules.rest.now) (take_rest bytes 2) s in
    let w : v % 6 ≡ 0 = omega arith in
    let r = ap (λ (y : Shape). y.rules) c.shape.ensures in
    let few : length m.rules + v / 6 ≤ 256 = omega arith in
    rw (p.1, p.2, h.0) (sheet_bad m.matters (length m.rules) v bytes c.in_ok-rules.rules.now c.in_ok-rules.rest.now (c.from-length.ensures ∙ c.from_be_bytes.ensures) d w few c.in-len2-up.len_at_least (subst (λ (xs : List (List ℕ)). some_bad m.matters (unpacked xs) ≡ true) c.as_chunks.ensures.front h.1))

pub returns : goal.returns
returns c =
    let bytes = c.args.bytes.now in
    let m = sheets_meaning c.args.sheets.now in
    let v = c.from-length.result in
    let b : AllBytes bytes = λ i. let t = c.type_inv.bytes i in omega arith in
    let s = MatchOption-at_some _ _ _ c.in_ok-rules.ensures.ok_part c.split_at_checked.ensures.cases in
    let d = subst (λ (xs : List _). IsSplitAt xs v c.in_ok-rules.rules.now c.in_ok-rules.rest.now) (take_rest bytes 2) s in
    let w : v % 6 ≡ 0 = omega arith in
    let r = ap (λ (y : Shape). y.rules) c.shape.ensures in
    let few : length m.rules + v / 6 ≤ 256 = omega arith in
    sheet_read v bytes c.in_ok-rules.rules.now c.in_ok-rules.rest.now m (sheets_meaning c.lay_rules.new.sheets) b (c.from-length.ensures ∙ c.from_be_bytes.ensures) d w few c.in-len2-up.len_at_least (subst (λ (xs : List (List ℕ)). Adds (unpacked xs) m (sheets_meaning c.lay_rules.new.sheets)) c.as_chunks.ensures.front c.in_ok-lay_rules.ensures)
