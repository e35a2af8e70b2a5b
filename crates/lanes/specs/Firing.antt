-- What follows from what, lane by lane; and what is reached in the end.
use Rattle.std.specs.Prelude.{◌≡◌, ℕ, ◌<◌, ◌⊎◌, List, length, slice_index, slice_index_or}
use Rattle.rules.specs.Semantics.{Mem}
use Rattle.lanes.specs.declared.firing.Firing.{Firing}

abbrev pub no_firing : Firing
no_firing = record { head = 0; needs = 0; lanes = 0 }

abbrev pub at : List Firing → ℕ → Firing
at f k = slice_index_or f k no_firing

-- the literal of a follows in lane l: some firing has it as its head, has the lane, and all that it needs follows there
pub data Follows (f : List Firing) : ℕ → ℕ → Type 0 where
  by : {a l : ℕ} (k : ℕ) → k < length f → a ≡ (at f k).head → Mem l (at f k).lanes → ((m : ℕ) → Mem m (at f k).needs → Follows f m l) → Follows f a l

-- the lanes that a list of words has for each matter
abbrev pub Lanes : List ℕ → ℕ → ℕ → Type 0
Lanes words a l = Mem l (slice_index words a)

-- by x the literal of a comes in lane l where the words have all that x needs
abbrev pub Comes : Firing → List ℕ → ℕ → ℕ → Type 0
Comes x words a l = (a ≡ x.head) × Mem l x.lanes × ((m : ℕ) → Mem m x.needs → Lanes words m l)

-- new has old, and what comes by x
pub record Fired (x : Firing) (old new : List ℕ) : Type 0 where
  pub keeps : (a l : ℕ) → Lanes old a l → Lanes new a l
  pub fires : (a l : ℕ) → l < 64 → Comes x old a l → Lanes new a l
  pub only : (a l : ℕ) → Lanes new a l → (Lanes old a l) ⊎ (Comes x old a l)

-- new has old, and what comes from it by one of the first i firings; and all of it follows, if old does
pub record Rounded (f : List Firing) (i : ℕ) (old new : List ℕ) : Type 0 where
  pub keeps : (a l : ℕ) → Lanes old a l → Lanes new a l
  pub fires : (k : ℕ) → k < i → (a l : ℕ) → Comes (at f k) old a l → Lanes new a l
  pub only : ((a l : ℕ) → Lanes old a l → Follows f a l) → (a l : ℕ) → Lanes new a l → Follows f a l

-- words has just what follows
pub record Reached (f : List Firing) (words : List ℕ) : Type 0 where
  pub all : (k : ℕ) → k < length f → (a l : ℕ) → Comes (at f k) words a l → Lanes words a l
  pub only : (a l : ℕ) → Lanes words a l → Follows f a l

-- every firing is about a matter, and has lanes
pub record Low (f : List Firing) : Type 0 where
  pub heads : (k : ℕ) → k < length f → (at f k).head < 16
  pub lanes : (k l : ℕ) → k < length f → Mem l (at f k).lanes → l < 64
