-- A kiosk's book: what the calls write into it, from the set-up and their arguments alone.
use Rattle.std.specs.Prelude.{◌≡◌, ℕ, ◌+◌, Bool, true, false, cond, not, ◌&&◌, List, [], ◌∷◌, ◌++◌, length, drop, Some, None, Ok, Err, Option, Result, ◌==◌, nat_le, nat_lt}
use Rattle.rules.specs.declared.record.Record.{Record}
use Rattle.rules.specs.declared.rule.Sign.{Sign}
use Rattle.rules.specs.Records.{good, signed}
use Rattle.laying.specs.declared.fault.RackFault.TheVariants.{TooManySheets, NoSheet, BadRule, PlacesFull}
use Rattle.kiosk.specs.declared.call.Call.{Call}
use Rattle.kiosk.specs.declared.call.Call.TheVariants.{Begin, Lay, Withdraw, Open, Fact as Stating, End, Outcomes}
use Rattle.kiosk.specs.declared.fault.KioskFault.{KioskFault}
use Rattle.kiosk.specs.declared.fault.KioskFault.TheVariants.{SessionOpen, NoRoom, NoSessionHere, RulesFull, NotInSession, BadFact, Rack}
use Rattle.kiosk.specs.declared.slip.Fact.{Fact}
use Rattle.kiosk.specs.declared.ticket.Returned.{Returned}

-- a rule as a sheet of the book has it, without the sheet's number
pub record Clause : Type 0 where
  pub head : ℕ
  pub sign : Sign
  pub yes : ℕ
  pub no : ℕ

abbrev pub Sheet : Type 0
Sheet = List Clause

-- the matters, the sheets that cannot be withdrawn, the rule places above them, the sheets, lowest first,
-- and the slip's facts while a session is open
pub record Book : Type 0 where
  pub matters : ℕ
  pub floor : ℕ
  pub places : ℕ
  pub sheets : List Sheet
  pub slip : Option (List Fact)

abbrev pub with_sheets : Book → List Sheet → Book
with_sheets b ss = record { matters = b.matters; floor = b.floor; places = b.places; sheets = ss; slip = b.slip }

abbrev pub with_slip : Book → Option (List Fact) → Book
with_slip b o = record { matters = b.matters; floor = b.floor; places = b.places; sheets = b.sheets; slip = o }

-- What stands in a book

abbrev pub in_session : Option (List Fact) → Bool
in_session (Some fs) = true
in_session None = false

abbrev pub facts : Option (List Fact) → List Fact
facts (Some fs) = fs
facts None = []

abbrev pub total : List Sheet → ℕ
total [] = 0
total (s ∷ ss) = length s + total ss

abbrev pub rules_in_all : Book → ℕ
rules_in_all b = total b.sheets + length (facts b.slip)

abbrev pub names : List Fact → ℕ → Bool
names [] a = false
names (f ∷ fs) a = cond (f.matter == a) true (names fs a)

-- When a call is refused: its table in checking order; the first condition that is met gives the refusal

abbrev pub Table : Type 0
Table = List (KioskFault × Bool)

abbrev pub table : Book → Call → Table
table b Begin = (SessionOpen, in_session b.slip) ∷ ((Rack TooManySheets, nat_le 32 (length b.sheets)) ∷ [])
table b (Lay x) =
    (SessionOpen, in_session b.slip)
    ∷ ((Rack NoSheet, nat_le (length b.sheets) b.floor)
    ∷ ((Rack BadRule, not (good b.matters x))
    ∷ ((Rack PlacesFull, nat_le b.places (total (drop b.floor b.sheets)))
    ∷ [])))
table b Withdraw = (SessionOpen, in_session b.slip) ∷ ((Rack NoSheet, nat_le (length b.sheets) b.floor) ∷ [])
table b Open = (SessionOpen, in_session b.slip) ∷ ((NoRoom, nat_le 32 (length b.sheets)) ∷ [])
table b (Stating a s) =
    (NotInSession, not (in_session b.slip))
    ∷ ((BadFact, not (nat_lt a b.matters && nat_le s 1))
    ∷ ((RulesFull, not (names (facts b.slip) a) && nat_le 256 (rules_in_all b))
    ∷ []))
table b End = (NoSessionHere, not (in_session b.slip)) ∷ []
table b Outcomes = []

-- What a call that is not refused writes

abbrev pub clause : Record → Clause
clause x = record { head = x.head; sign = signed x.sign; yes = x.yes; no = x.no }

-- at the end of the top sheet
abbrev pub on_top : List Sheet → Clause → List Sheet
on_top [] x = []
on_top (s ∷ []) x = (s ++ (x ∷ [])) ∷ []
on_top (s ∷ (t ∷ ss)) x = s ∷ on_top (t ∷ ss) x

abbrev pub without_top : List Sheet → List Sheet
without_top [] = []
without_top (s ∷ []) = []
without_top (s ∷ (t ∷ ss)) = s ∷ without_top (t ∷ ss)

-- the fact on a matter gets the sign where it lies; a new one stands at the end
abbrev pub noted : List Fact → ℕ → Sign → List Fact
noted [] a s = record { matter = a; sign = s } ∷ []
noted (f ∷ fs) a s = cond (f.matter == a) (record { matter = f.matter; sign = s } ∷ fs) (f ∷ noted fs a s)

abbrev pub written : Book → Call → Book
written b Begin = with_sheets b (b.sheets ++ ([] ∷ []))
written b (Lay x) = with_sheets b (on_top b.sheets (clause x))
written b Withdraw = with_sheets b (without_top b.sheets)
written b Open = with_slip b (Some [])
written b (Stating a s) = with_slip b (Some (noted (facts b.slip) a (signed s)))
written b End = with_slip b None
written b Outcomes = b

-- One call

-- the book after a call, and what the call answers
pub record Stepped : Type 0 where
  pub book : Book
  pub answer : Result (Unit {0}) KioskFault

-- a refused call changes nothing
abbrev pub judged : Table → Book → Book → Stepped
judged [] old new = record { book = new; answer = Ok tt }
judged (c ∷ cs) old new = cond c.1 (record { book = old; answer = Err c.0 }) (judged cs old new)

abbrev pub step : Book → Call → Stepped
step b c = judged (table b c) b (written b c)

-- a kiosk's call answers and leaves what the book's step says
abbrev pub Does : Stepped → Result (Unit {0}) KioskFault → Book → Type 0
Does s r b = (r ≡ s.answer) × (b ≡ s.book)

-- an answer without what it hands over
abbrev pub bare : {T : Type 0} → Result T KioskFault → Result (Unit {0}) KioskFault
bare (Ok t) = Ok tt
bare (Err e) = Err e

abbrev pub ended : Result (Unit {0}) Returned → Result (Unit {0}) KioskFault
ended (Ok t) = Ok tt
ended (Err e) = Err e.fault
