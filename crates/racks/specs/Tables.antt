-- What a table holds: how much at most, and one rule more.
use Rattle.std.specs.Prelude.{◌≡◌, ℕ, ◌+◌, ◌<◌, ◌≤◌, Bool, true, cond, List, [], ◌∷◌, ◌++◌, length, take, Some, nat_lt}
use Rattle.std.proofs.Common.{◌∙◌, arith}
use Rattle.std.specs.List.{slice_get}
use Rattle.std.proofs.lemmas.List.{take_more, length-take-le}
use Rattle.std.proofs.lemmas.Option.{slice_get-get_or}
use Rattle.std.proofs.lemmas.Bool.{lt-ltb}
use Rattle.rules.specs.declared.rule.Rule.{Rule}
use Rattle.rules.specs.declared.table.Table.{Table}
use Rattle.rules.specs.Held.{held}
use Rattle.rules.specs.Parts.{no_rule}

pub held_few : (t : Table) → length (held t) ≤ 256
unfolding held
held_few t = let e = length-take-le t.len t.rules (omega arith) in omega arith

-- what a push leaves while there is room
pub push_room : (r : Bool) (P Q : List Rule) (x : Rule) → length P < 256 → r ≡ nat_lt (length P) 256 → Q ≡ cond r (P ++ (x ∷ [])) P → Q ≡ P ++ (x ∷ [])
push_room r P Q x l e f = let t : r ≡ true = e ∙ lt-ltb _ _ l in rw t at f

-- one rule more of those to copy
pub copied_more : (all P Q : List Rule) (i : ℕ) (x : Rule) → P ≡ take i all → i < length all → Some x ≡ slice_get all i → Q ≡ P ++ (x ∷ []) → Q ≡ take (i + 1) all
copied_more all P Q i x e l s f = let n = slice_get-get_or all i no_rule l in let t = take_more all i no_rule l in cc
