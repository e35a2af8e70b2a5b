use Rattle.std.proofs.Common.{ℕ, ◌∷◌, List, length, get_or, take, drop, ◌-◌, subst}
use Rattle.racks.specs.Filing.{Parses}
use Rattle.racks.proofs.Files.{head_back, made_bare}
use Rattle.racks.proofs.file.reader.parse.Goals as goal

pub returns : goal.returns
returns c =
    let bytes = c.args.bytes.now in
    let m = made_bare (get_or bytes 1 0) c.with_matters.result c.in_ok-sheets.ensures.ok_part c.with_matters.ensures in
    subst (λ (b : List ℕ). Parses b c.read_sheets.result) (head_back bytes c.in-len3-up.len_at_least c.if-version-ne1.false)
    (subst (λ (n : ℕ). Parses (1 ∷ (n ∷ (get_or bytes 2 0 ∷ take (length bytes - 3) (drop 3 bytes)))) c.read_sheets.result) m c.read_sheets.ensures)
