-- A page and the pieces that are put on it.
use Rattle.std.specs.Prelude.{◌≡◌, ℕ, ◌+◌, ◌≤◌, List, length}
use Rattle.std.specs.Borrow.{MutBor}
use Rattle.report.specs.declared.page.Page.{Page}
use Rattle.report.specs.Writing.{Puts}

-- an empty page over the buffer
pub record Opens (buffer : MutBor (List ℕ)) (page : Page) : Type 0 where
  pub same_buffer : page.out.ghost_name ≡ buffer.ghost_name
  pub holds : page.out.now ≡ buffer.now
  pub starts : page.at ≡ 0

-- there is room for the piece
pub record Fits (page : Page) (piece : List ℕ) : Type 0 where
  pub room : page.at + length piece ≤ length page.out.now

-- the piece stands behind what the page held, on the same buffer
pub record Adds (before : Page) (piece : List ℕ) (after : Page) : Type 0 where
  pub same_buffer : after.out.ghost_name ≡ before.out.ghost_name
  pub puts : Puts before.out.now before.at piece after.out.now after.at
