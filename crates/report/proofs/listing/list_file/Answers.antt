use Rattle.std.proofs.Common.{◌≡◌, ℕ, List, length, min, take}
use Rattle.std.proofs.lemmas.List.{take_min}
use Rattle.report.proofs.Answering.{said_refusal}
use Rattle.report.proofs.listing.list_file.Goals as goal

looked_at : (m : ℕ) (input : List ℕ) → m ≡ min 2048 (length input) → take m input ≡ take 2048 input
looked_at m input e = rw e (take_min 2048 input)

pub returns-in-Ok : goal.returns-in-Ok
returns-in-Ok c = rw (looked_at c.min.result c.args.input.now c.min.ensures) at c.in-Ok.ensures

pub returns-in-Err : goal.returns-in-Err
returns-in-Err c =
    let says = c.in-Err.ensures in
    rw (← looked_at c.min.result c.args.input.now c.min.ensures) (said_refusal c.in-Err.field-0.0 says.0 (rw says.1 at c.put_refusal.ensures))
