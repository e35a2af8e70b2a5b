use Rattle.std.proofs.Common.{ℕ, get_or, rules, arith}
use Rattle.rules.specs.Semantics.{Mem}
use Rattle.lanes.proofs.LaneSets.{set_own}
use Rattle.lanes.proofs.MemberLists.{SomeOf, some_of_none, some_of_more, some_listed, fold_callable, fold_gives}
use Rattle.lanes.proofs.words.any_of.Goals as goal

pub fold-requires-clause-callable : goal.fold-requires-clause-callable
fold-requires-clause-callable c = fold_callable _ _ _ _ c.members_of.ensures _ (λ a j b f k. search rules) (λ a j m. let inside = c.requires j m in search rules)

pub returns : goal.returns
returns c =
    let said : ℕ → ℕ → Type 0 = λ j l. Mem l (get_or c.args.words.now j 0) in
    some_listed said c.args.chosen c.fold.result (omega arith)
    (fold_gives _ _ _ _ c.members_of.ensures (SomeOf said) _ _ (some_of_none said) (λ ys a j b f i k. let more = some_of_more said ys a j (get_or c.args.words.now j 0) i (set_own _) in search rules) c.fold.ensures.ran)
