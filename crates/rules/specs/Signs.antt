-- The number by which a sign is written: 0 for no, 1 for yes.
use Rattle.std.specs.Prelude.{◌≡◌, ℕ, ◌<◌, Ok, Err, Result}
use Rattle.rules.specs.declared.rule.NoSign.{NoSign}
use Rattle.rules.specs.declared.rule.Sign.{Sign}
use Rattle.rules.specs.declared.rule.Sign.TheVariants.{Yes, No}

abbrev pub sign_number : Sign → ℕ
sign_number No = 0
sign_number Yes = 1

-- a number that is written for a sign is read as that sign, and every other comes back as none
abbrev pub Signs : ℕ → Result Sign NoSign → Type 0
Signs x (Ok s) = x ≡ sign_number s
Signs x (Err e) = (1 < x) × (e.0 ≡ x)
