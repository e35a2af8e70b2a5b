-- What a run has in hand: tickets, one in reserve and one more while a session is open, and blank lists.
use Rattle.std.specs.Prelude.{◌≡◌, ℕ, ◌≤◌, replicate, is_some, vec_items, vec_len, Vec}
use Rattle.std.specs.List.{AllByRecursion}
use Rattle.kiosk.specs.Book.{Book, in_session}
use Rattle.runs.specs.declared.run.Purse.{Purse}

-- the session's ticket is in hand while a session is open, and only then
abbrev pub Pursed : Book → Purse → Type 0
Pursed b p = is_some p.session ≡ in_session b.slip

-- n lists at least, of so many places that hold zero
abbrev pub Stocked : {Y Z : Type 0} → ℕ → ℕ → Vec (Vec ℕ Y) Z → Type 0
Stocked places n v = (n ≤ vec_len v) × AllByRecursion (λ x. vec_items x ≡ replicate places 0) (vec_items v)
