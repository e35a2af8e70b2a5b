-- The members of a set as a list.
use Rattle.std.specs.Prelude.{ℕ, List, filter}
use Rattle.std.specs.List.{range_with_len}
use Rattle.rules.specs.Semantics.{member}

-- from the lowest up
unfoldable pub member_list : ℕ → List ℕ
member_list set = filter (λ j. member j set) (range_with_len 0 32)
