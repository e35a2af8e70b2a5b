-- What a rack stands for: so many matters, so many sheets, and its rules, lowest sheet first and in the order laid within a sheet.
use Rattle.std.specs.Prelude.{ℕ, ◌^◌, ◌<◌, ◌≤◌, List, length, get_or, slice_index_or}
use Rattle.rules.specs.declared.rule.Rule.{Rule}
use Rattle.rules.specs.declared.rule.Shape.{Shape}
use Rattle.rules.specs.Parts.{no_rule}

pub record Meaning : Type 0 where
  pub matters : ℕ
  pub sheets : ℕ
  pub rules : List Rule

abbrev pub shaped : Meaning → Shape
shaped m = record { matters = m.matters; sheets = m.sheets; rules = length m.rules }

-- the rule stands on one of s sheets, and names matters below n alone
abbrev pub Sound : ℕ → ℕ → Rule → Type 0
Sound n s r = (r.sheet < s) × (r.head < n) × (r.yes < 2 ^ n) × (r.no < 2 ^ n)

-- each rule of the list; said by places, so that an invariant in a type can cite it
abbrev pub Throughout : (Rule → Type 0) → List Rule → Type 0
Throughout Q P = (k : ℕ) → k < length P → Q (slice_index_or P k no_rule)

-- lowest sheet first
abbrev pub Rising : List Rule → Type 0
Rising P = (i j : ℕ) → i < j → j < length P → (get_or P i no_rule).sheet ≤ (get_or P j no_rule).sheet

-- what every rack keeps to
pub record Kept (m : Meaning) : Type 0 where
  pub some_matters : 0 < m.matters
  pub few_matters : m.matters ≤ 16
  pub few_sheets : m.sheets ≤ 32
  pub few_rules : length m.rules ≤ 256
  pub sound : Throughout (Sound m.matters m.sheets) m.rules
  pub rising : Rising m.rules
