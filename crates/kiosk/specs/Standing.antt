-- The book that a kiosk stands for, and what a book shows.
use Rattle.std.specs.Prelude.{ℕ, ◌+◌, Bool, true, false, cond, ◌&&◌, List, [], ◌∷◌, ◌++◌, map, length, Some, None, filter, Option, ◌==◌, nat_le, nat_lt}
use Rattle.std.specs.List.{range_with_len}
use Rattle.rules.specs.declared.rule.Rule.{Rule}
use Rattle.rules.specs.declared.rule.Shape.{Shape}
use Rattle.racks.specs.Meaning.{Meaning, shaped}
use Rattle.laying.specs.Laying.{Ground}
use Rattle.kiosk.specs.declared.slip.Fact.{Fact}
use Rattle.kiosk.specs.declared.kiosk.Kiosk.{Kiosk}
use Rattle.kiosk.specs.Slip.{fact_rule}
use Rattle.kiosk.specs.Book.{Book, Sheet, Clause}

-- The book at the set-up

abbrev pub plain : Rule → Clause
plain r = record { head = r.head; sign = r.sign; yes = r.yes; no = r.no }

abbrev pub on : ℕ → Rule → Bool
on i r = r.sheet == i

abbrev pub sheet_of : List Rule → ℕ → Sheet
sheet_of P i = map plain (filter (on i) P)

abbrev pub sheets_of : ℕ → List Rule → List Sheet
sheets_of n P = map (sheet_of P) (range_with_len 0 n)

abbrev pub booked : Ground → Option (List Fact) → Book
booked g o = record { matters = g.meaning.matters; floor = g.floor; places = g.places; sheets = sheets_of g.meaning.sheets g.meaning.rules; slip = o }

-- a book begins with what the rack below has, and no slip
abbrev pub start : Ground → Book
start g = booked g None

-- The book of a kiosk

-- a session is open, and its slip fits the rack below; one that does not counts as none
abbrev pub seated : Shape → Option ℕ → List Fact → Bool
seated below (Some n) fs = below.matters == n && (nat_lt below.sheets 32 && nat_le (below.rules + length fs) 256)
seated below None fs = false

abbrev pub kiosk_seated : {R : Type 0} → (R → Meaning) → Kiosk R → Bool
kiosk_seated m k = seated (shaped (m k.rack)) k.session k.slip.facts.items

abbrev pub slip_of : Bool → List Fact → Option (List Fact)
slip_of b fs = cond b (Some fs) None

abbrev pub book_of : {R : Type 0} → (R → Ground) → Kiosk R → Book
book_of g k = booked (g k.rack) (slip_of (seated (shaped (g k.rack).meaning) k.session k.slip.facts.items) k.slip.facts.items)

-- What a kiosk shows: the rack below, and in a session the slip as one more sheet on top

abbrev pub topped : Bool → Meaning → List Fact → Meaning
topped true m fs = record { matters = m.matters; sheets = m.sheets + 1; rules = m.rules ++ map (fact_rule m.sheets) fs }
topped false m fs = m

abbrev pub topped_shape : Bool → Shape → ℕ → Shape
topped_shape true below k = record { matters = below.matters; sheets = below.sheets + 1; rules = below.rules + k }
topped_shape false below k = below

abbrev pub kiosk_meaning : {R : Type 0} → (R → Meaning) → Kiosk R → Meaning
kiosk_meaning m k = topped (kiosk_seated m k) (m k.rack) k.slip.facts.items

-- What a book shows: its sheets, numbered from the lowest, with the slip as the top sheet

abbrev pub on_sheet : ℕ → Clause → Rule
on_sheet i x = record { sheet = i; head = x.head; sign = x.sign; yes = x.yes; no = x.no }

abbrev pub numbered : ℕ → List Sheet → List Rule
numbered i [] = []
numbered i (s ∷ ss) = map (on_sheet i) s ++ numbered (i + 1) ss

abbrev pub fact_clause : Fact → Clause
fact_clause f = record { head = f.matter; sign = f.sign; yes = 0; no = 0 }

abbrev pub slip_sheets : Option (List Fact) → List Sheet
slip_sheets (Some fs) = map fact_clause fs ∷ []
slip_sheets None = []

abbrev pub all_sheets : Book → List Sheet
all_sheets b = b.sheets ++ slip_sheets b.slip

abbrev pub shown : Book → Meaning
shown b = record { matters = b.matters; sheets = length (all_sheets b); rules = numbered 0 (all_sheets b) }
