-- What kiosk-list says of the bytes that it is given.
use Rattle.std.specs.Prelude.{◌≡◌, ℕ, ◌<◌, ◌≤◌, List, ◌++◌, length, drop, codes, decimal, Ok, Err, Result}
use Rattle.rules.specs.declared.record.Record.{Record}
use Rattle.rules.specs.Semantics.{LiteralSet, Lists, WellFounded}
use Rattle.orders.specs.Overrules.{by_position}
use Rattle.racks.specs.Packing.{File, Refused, numbered}
use Rattle.report.specs.declared.listing.RefusalNumber.{RefusalNumber}
use Rattle.report.specs.Text.{line, text}

-- "refused", a space and the number
unfoldable pub refusal : ℕ → List ℕ
refusal k = line (codes "refused " ++ decimal k)

pub data Says (bytes : List ℕ) : List ℕ → Type 0 where
  -- the bytes are the file of some sheets: the report on all their outcomes, where there are at most 1,024
  outcomes : {n : ℕ} {sheets : List (List Record)} {Ms : List ℕ} {X : LiteralSet} → File bytes n sheets → Lists (numbered 0 sheets) by_position n Ms → length Ms ≤ 1024
      → WellFounded (numbered 0 sheets) by_position n X → Says bytes (text 1 n Ms X)
  too_many : {n : ℕ} {sheets : List (List Record)} {Ms : List ℕ} → File bytes n sheets → Lists (numbered 0 sheets) by_position n Ms → 1024 < length Ms → Says bytes (refusal 31)
  -- they are no such file, and why
  no_file : {k : ℕ} → ((n : ℕ) (sheets : List (List Record)) → File bytes n sheets → ⊥) → Refused bytes k → Says bytes (refusal k)

-- the words stand at the front of the buffer, and the bytes after them are as they were
pub record Answers (bytes before after : List ℕ) (len : ℕ) : Type 0 where
  pub words : List ℕ
  pub says : Says bytes words
  pub len_is : len ≡ length words
  pub fits : len ≤ length before
  pub after_is : after ≡ words ++ drop len before

-- the answer for these bytes is written; or this is the number of their refusal, and the buffer is as it was
abbrev pub Listed : List ℕ → List ℕ → List ℕ → Result ℕ RefusalNumber → Type 0
Listed bytes before after (Ok len) = Answers bytes before after len
Listed bytes before after (Err number) = Says bytes (refusal number.0) × (after ≡ before)
