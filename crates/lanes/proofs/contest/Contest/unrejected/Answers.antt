use Rattle.std.proofs.Common.{ℕ, ◌<◌, ◌^◌, [], ◌∷◌, ◌++◌, rules, sym, subst, arith}
use lib.Bits.{bit_or}
use Rattle.rules.specs.Semantics.{Mem}
use Rattle.rules.proofs.Bitwise.{mem_below}
use Rattle.steps.specs.Parts.{SetOf}
use Rattle.steps.proofs.SetOfs.{set_same}
use Rattle.lanes.specs.declared.claimants.Claimants.{Claimants}
use Rattle.lanes.specs.Contesting.{side, Unrejected}
use Rattle.lanes.proofs.MemberLists.{SomeOf, some_of_none, some_of_more, some_listed, fold_callable, fold_gives}
use Rattle.lanes.proofs.contest.Contest.unrejected.Goals as goal

pub fold-requires-clause-callable : goal.fold-requires-clause-callable
fold-requires-clause-callable c = fold_callable _ _ _ _ c.members_of.ensures _ (λ a j b f k. search rules)
    (λ a j m. let inside = mem_below 32 c.side.result.now.sheets j (omega arith) m in search rules)

pub returns : goal.returns
returns c =
    let said : ℕ → ℕ → Type 0 = λ j l. (l < 64) × Unrejected c.args.self.now c.args.sign l j in
    let small : c.side.result.now.sheets < 2 ^ 32 = omega arith in
    set_same
    (λ l w. (w.0, mem_below 32 c.side.result.now.sheets w.0 small w.1, w.2))
    (λ l w. (w.0, subst (λ (x : Claimants). Mem w.0 x.sheets) (sym c.side.ensures) ((side c.args.sign c.args.self.now).noted w.0 l w.2.1.claims), w.2))
    (some_listed said c.side.result.now.sheets c.fold.result small
    (fold_gives _ _ _ _ c.members_of.ensures (SomeOf said) _ _ (some_of_none said)
    (λ ys a j b f i k. let more : (w : ℕ) → SetOf w (said j) → SomeOf said (ys ++ j ∷ []) (bit_or a w) = λ w. some_of_more said ys a j w i in search (rules, more))
    c.fold.ensures.ran))
