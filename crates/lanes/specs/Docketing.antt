-- Rules by the matters that they are about.
use Rattle.std.specs.Prelude.{◌≡◌, ℕ, ◌+◌, ◌-◌, ◌<◌, ◌≤◌, Bool, not, ◌&&◌, List, length, take, drop, filter, ◌==◌, slice_index}
use Rattle.rules.specs.declared.rule.Rule.{Rule}
use Rattle.rules.specs.Held.{held}
use Rattle.rules.specs.Semantics.{body, holds}
use Rattle.lanes.specs.declared.docket.Docket.{Docket}

-- a rule about the matter that is no tautology
abbrev pub about : ℕ → Rule → Bool
about a r = r.head == a && not (holds (body r) r.sign r.head)

-- the rules that the docket has for the matter
abbrev pub group : Docket → ℕ → List Rule
group d a = take (slice_index d.starts (a + 1) - slice_index d.starts a) (drop (slice_index d.starts a) (held d.rules))

-- the first m matters have their rules
pub record Docketed (P : List Rule) (m : ℕ) (d : Docket) : Type 0 where
  pub rules : (a : ℕ) → a < m → group d a ≡ filter (about a) P
  pub rising : (a : ℕ) → a < m → (slice_index d.starts a ≤ slice_index d.starts (a + 1)) × (slice_index d.starts (a + 1) ≤ length (held d.rules))
