use Rattle.std.proofs.Common.{◌≡◌, ℕ, ◌≤◌, ◌<◌, [], ◌∷◌, ◌++◌, length, codes, decimal, rules, arith, append_assoc, length-append}
use Rattle.std.proofs.lemmas.Fmt.{length-decimal-le}
use Rattle.report.specs.Listings.{refusal}
use Rattle.report.proofs.Pages.{written, opens_fits, adds_then, fits_first, fits_next}
use Rattle.report.proofs.listing.put_refusal.Goals as goal

-- the refusal, piece by piece
pieces : (k : ℕ) → refusal k ≡ codes "refused " ++ (decimal k ++ (10 ∷ []))
unfolding refusal
pieces k = simp append_assoc

-- the number of a refusal has three digits at most
short : (k : ℕ) → k < 256 → length (codes "refused " ++ (decimal k ++ (10 ∷ []))) ≤ 32
short k h =
    let digits = length-decimal-le 3 k (omega arith) (omega arith) (omega arith) in
    omega (arith, length-append (decimal k) (10 ∷ []))

pub put_number-requires : goal.put_number-requires
put_number-requires c =
    let n = c.args.number in
    let long = short n (omega arith) in
    fits_first _ (fits_next c.put.ensures (opens_fits (codes "refused " ++ (decimal n ++ (10 ∷ []))) c.new-page.ensures (omega arith)))

pub put-requires-2 : goal.put-requires-2
put-requires-2 c =
    let n = c.args.number in
    let long = short n (omega arith) in
    fits_next c.put_number.ensures (fits_next c.put.ensures (opens_fits (codes "refused " ++ (decimal n ++ (10 ∷ []))) c.new-page.ensures (omega arith)))

pub returns : goal.returns
returns c = rw pieces (written c.new-page.ensures (adds_then c.put.ensures (adds_then c.put_number.ensures c.put-2.ensures)) c.len.ensures (search rules))
