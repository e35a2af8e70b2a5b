-- What a look at a place of a list of rules finds: the rule of that place, or none.
use Rattle.std.specs.Prelude.{◌≡◌, ℕ, List, Some, None, Option}
use Rattle.std.proofs.Common.{sym}
use Rattle.std.specs.Borrow.{Bor}
use Rattle.std.specs.List.{slice_get}
use Rattle.std.specs.Option.{option_map}
use Rattle.std.specs.Slice.{IsGetResult}
use Rattle.std.proofs.lemmas.Option.{slice_get-get_or, slice_get_past}
use Rattle.rules.specs.declared.rule.Rule.{Rule}

pub item_nth : (P : List Rule) (i : ℕ) (r : Option (Bor Rule)) → IsGetResult P i i r → option_map (λ x. x.now) r ≡ slice_get P i
item_nth P i None h = sym (slice_get_past P i h.3)
item_nth P i (Some x) h = let n = slice_get-get_or P i x.now h.3.0 in let e = h.1 in cc
