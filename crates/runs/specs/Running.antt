-- The law over a string of calls: the book that is kept from the arguments alone says what each call answers and lists.
use Rattle.std.specs.Prelude.{◌≡◌, ℕ, ◌≤◌, Bool, true, false, cond, List, [], ◌∷◌, length, take, replicate, Ok, Err, count_by, vec_items, vec_capacity, Result}
use mathlib.Core.List.{Memᴰ}
use Rattle.rules.specs.Semantics.{LiteralSet, Mem, Overruling, WellFounded}
use Rattle.evaluator.specs.declared.answer.EvaluatorFault.{EvaluatorFault}
use Rattle.evaluator.specs.Answers.{Listed}
use Rattle.laying.specs.Laying.{Ground}
use Rattle.kiosk.specs.declared.call.Call.{Call}
use Rattle.kiosk.specs.declared.call.Call.TheVariants.{Begin, Lay, Withdraw, Open, Fact, End, Outcomes}
use Rattle.kiosk.specs.Book.{Book, step}
use Rattle.kiosk.specs.Standing.{book_of, start, shown}
use Rattle.runs.specs.Purse.{Pursed, Stocked}
use Rattle.runs.specs.declared.run.Answer.{Answer}
use Rattle.runs.specs.declared.run.Answer.TheVariants.{Done, Listed as WithList}
use Rattle.runs.specs.declared.run.Run.{Run}
use Rattle.runs.specs.declared.run.Start.{Start}
use Rattle.runs.specs.declared.run.Unstarted.{Unstarted}

-- The book

-- at the set-up
abbrev pub first : {R : Type 0} → (R → Ground) → R → Book
first g x = start (g x)

-- after a string of calls
abbrev pub after : Book → List Call → Book
after b [] = b
after b (c ∷ cs) = after (step b c).book cs

-- Listings

-- the sets that stand in the list
abbrev pub told : List ℕ → Result ℕ EvaluatorFault → List ℕ
told new (Ok k) = take k new
told new (Err f) = new

-- the matters of M are between the yes matters of X and those that are no matters of X
abbrev pub Between : LiteralSet → ℕ → Type 0
Between X M = ((a : ℕ) → Mem a X.0 → Mem a M) × ((a : ℕ) → Mem a X.1 → Mem a M → ⊥)

-- a listing into given places: it lists the outcomes of the sheets in the book, or the lowest that fit,
-- and each set listed agrees with the well-founded model of those sheets
pub record Listing (over : Overruling) (b : Book) (old new : List ℕ) (r : Result ℕ EvaluatorFault) : Type 0 where
  pub listed : Listed (shown b).rules over b.matters old new r
  pub places_kept : length new ≡ length old
  pub agrees : (X : LiteralSet) → WellFounded (shown b).rules over b.matters X → (M : ℕ) → Memᴰ M (told new r) → Between X M

-- Answers

abbrev pub asks : Call → Bool
asks Begin = false
asks (Lay x) = false
asks Withdraw = false
asks Open = false
asks (Fact a s) = false
asks End = false
asks Outcomes = true

-- how many calls ask for a listing
abbrev pub tally : Bool → ℕ
tally b = cond b 1 0

abbrev pub asked : List Call → ℕ
asked cs = count_by asks cs

-- what a call answers where the book stands so: outcomes a listing into places that hold zero, and any other call what the book says
abbrev pub Answers : (over : Overruling) (places : ℕ) → Book → Call → Answer → Type 0
Answers over places b c (Done r) = (asks c ≡ false) × (r ≡ (step b c).answer)
Answers over places b c (WithList r list) = (asks c ≡ true) × Listing over b (replicate places 0) (vec_items list) r

-- a listing into a list that is given
abbrev pub ListedInto : (over : Overruling) → Book → List ℕ → Answer → Type 0
ListedInto over b old (Done r) = ⊥
ListedInto over b old (WithList r list) = Listing over b old (vec_items list) r

-- a string of calls, from a book to a book, with what each call answers
pub data Runs (over : Overruling) (places : ℕ) : Book → List Call → List Answer → Book → Type 0 where
  none : {b : Book} → Runs over places b [] [] b
  next : {b e : Book} {c : Call} {a : Answer} {cs : List Call} {rs : List Answer} → Answers over places b c a → Runs over places (step b c).book cs rs e → Runs over places b (c ∷ cs) (a ∷ rs) e

-- Runs of a kiosk

-- a run with no call made yet: the book at the set-up, room for the answers, and a blank list for each listing to come
pub record Ready {R : Type 0} (g : R → Ground) (places : ℕ) (rack : R) (calls : List Call) (run : Run R) : Type 0 where
  pub stands : book_of g run.kiosk ≡ first g rack
  pub unanswered : vec_items run.answers ≡ []
  pub room : length calls ≤ vec_capacity run.answers
  pub purse : Pursed (book_of g run.kiosk) run.purse
  pub blank : run.places ≡ places
  pub stock : Stocked places (asked calls) run.lists

-- the calls were answered as the book says, and the kiosk stands for the book after them;
-- the tickets in hand are the reserve, and one more while a session is open
pub record Performed {R : Type 0} (g : R → Ground) (over : Overruling) (places : ℕ) (rack : R) (calls : List Call) (run : Run R) : Type 0 where
  pub answered : Runs over places (first g rack) calls (vec_items run.answers) (after (first g rack) calls)
  pub stands : book_of g run.kiosk ≡ after (first g rack) calls
  pub purse : Pursed (after (first g rack) calls) run.purse

-- and then the list was filled from that book; or there was no memory, and all is as it was
abbrev pub Replays : {R : Type 0} (g : R → Ground) (over : Overruling) (places : ℕ) → Start R → List Call → List ℕ → List ℕ → Result (Run R × Result ℕ EvaluatorFault) (Unstarted R) → Type 0
Replays g over places s calls old new (Ok k) = Performed g over places s.rack calls k.0 × Listing over (after (first g s.rack) calls) old new k.1
Replays g over places s calls old new (Err e) = (e.start ≡ s) × (new ≡ old)
