-- A rack of which some rules alone are shown keeps to what every rack keeps to.
use Rattle.std.specs.Prelude.{Bool}
use Rattle.std.proofs.Common.{arith}
use Rattle.std.proofs.ByRecursion.{all_kept_by}
use Rattle.rules.specs.declared.rule.Rule.{Rule}
use Rattle.racks.specs.Meaning.{Meaning, Sound, Kept}
use Rattle.racks.proofs.Chosen.{kept_fewer, rising_kept}
use Rattle.racks.proofs.Laid.{all_of, throughout}
use Rattle.layers.specs.Showing.{showing}

pub showing_kept : (p : Rule → Bool) (m : Meaning) → Kept m → Kept (showing p m)
showing_kept p m k =
    let Q = Sound m.matters m.sheets in
    record {
      some_matters = k.some_matters;
      few_matters = k.few_matters;
      few_sheets = k.few_sheets;
      few_rules = let f = k.few_rules in let l = kept_fewer p m.rules in omega arith;
      sound = throughout Q _ (all_kept_by p Q m.rules (all_of Q m.rules k.sound));
      rising = rising_kept p m.rules k.rising;
    }
