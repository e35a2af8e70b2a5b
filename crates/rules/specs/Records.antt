-- How many matters a rack may have; when a record becomes a rule, and which.
use Rattle.std.specs.Prelude.{◌≡◌, ℕ, ◌^◌, Bool, true, false, cond, ◌&&◌, Some, None, Option, ◌==◌, nat_le, nat_lt}
use Rattle.rules.specs.declared.record.Record.{Record}
use Rattle.rules.specs.declared.rule.Rule.{Rule}
use Rattle.rules.specs.declared.rule.Sign.{Sign}
use Rattle.rules.specs.declared.rule.Sign.TheVariants.{Yes, No}

-- a rack has 1 to 16 matters
abbrev pub allowed : ℕ → Bool
allowed n = nat_lt 0 n && nat_le n 16

-- the head is one of n matters, the sign is 0 or 1, and neither set names a matter not below n
abbrev pub good : ℕ → Record → Bool
good n x = nat_lt x.head n && (nat_le x.sign 1 && (nat_lt x.yes (2 ^ n) && nat_lt x.no (2 ^ n)))

abbrev pub signed : ℕ → Sign
signed s = cond (s == 1) Yes No

-- the rule that a good record is on a sheet
abbrev pub ruled : ℕ → Record → Rule
ruled s x = record { sheet = s; head = x.head; sign = signed x.sign; yes = x.yes; no = x.no }

-- a good record becomes its rule on the sheet s, and no other record does
abbrev pub Checks : ℕ → ℕ → Record → Option Rule → Type 0
Checks n s x (Some r) = (good n x ≡ true) × (r ≡ ruled s x)
Checks n s x None = good n x ≡ false
