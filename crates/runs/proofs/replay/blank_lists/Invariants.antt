use Rattle.std.proofs.Common.{◌≡◌, ◌≤◌, replicate, vec_items, vec_len, vec_capacity}
use Rattle.std.specs.List.{AllByRecursion}
use Rattle.runs.proofs.replay.blank_lists.Given as goal

abbrev pub invariant-loop : goal.invariant-loop
invariant-loop l = record {
  made : vec_len l.lists ≡ l.counter;
  room : l.count ≤ vec_capacity l.lists;
  blank : AllByRecursion (λ x. vec_items x ≡ replicate l.places 0) (vec_items l.lists);
}
