use Rattle.std.proofs.Common.{ℕ, get_or, rules, arith}
use Rattle.rules.specs.Semantics.{Mem}
use Rattle.lanes.proofs.LaneSets.{set_own}
use Rattle.lanes.proofs.MemberLists.{AllOf, all_of_none, all_of_more, all_listed, fold_callable, fold_gives}
use Rattle.lanes.proofs.words.all_of.Goals as goal

pub fold-requires-clause-callable : goal.fold-requires-clause-callable
fold-requires-clause-callable c = fold_callable _ _ _ _ c.members_of.ensures _ (λ a j b f k. search rules) (λ a j m. let inside = c.requires j m in search rules)

pub returns : goal.returns
returns c =
    let said : ℕ → ℕ → Type 0 = λ j l. Mem l (get_or c.args.words.now j 0) in
    all_listed said c.args.chosen c.fold.result (omega arith)
    (fold_gives _ _ _ _ c.members_of.ensures (AllOf said) _ _ (all_of_none said) (λ ys a j b f i k. let more = all_of_more said ys a j (get_or c.args.words.now j 0) i (set_own _) in search rules) c.fold.ensures.ran)
