-- What a call that writes a piece of text leaves in the buffer.
use Rattle.std.specs.Prelude.{◌≡◌, ℕ, ◌+◌, ◌<◌, ◌≤◌, List, ◌++◌, length, take, drop, Some, None, Option}

-- a whole text goes to the front, and its length is told; one that is too long is refused, and nothing changes
abbrev pub Writes : List ℕ → List ℕ → List ℕ → Option ℕ → Type 0
Writes text before after (Some len) = (len ≡ length text) × (len ≤ length before) × (after ≡ text ++ drop len before)
Writes text before after None = (length before < length text) × (after ≡ before)

-- the buffer with the piece over what stood from the place `at` on
unfoldable pub spliced : List ℕ → ℕ → List ℕ → List ℕ
spliced before at piece = take at before ++ (piece ++ drop (at + length piece) before)

-- there is room for the piece at `at`, it is all that changed, and next is the place behind it
pub record Puts (before : List ℕ) (at : ℕ) (piece after : List ℕ) (next : ℕ) : Type 0 where
  pub room : at + length piece ≤ length before
  pub leaves : after ≡ spliced before at piece
  pub ends : next ≡ at + length piece
