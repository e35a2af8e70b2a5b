use Rattle.std.proofs.Common.{◌≡◌, ℕ, ◌-◌, ◌^◌, ◌<◌, get_or, ◌∙◌, subst, arith}
use Rattle.rules.specs.Semantics.{Mem}
use Rattle.steps.specs.Parts.{SetOf}
use Rattle.lanes.proofs.Founding.{founded_lanes, all_below}
use Rattle.lanes.proofs.Trying.{most_matters}
use Rattle.lanes.proofs.trial.Trial.founded.Goals as goal

pub all_of-requires : goal.all_of-requires
all_of-requires c = λ j h.
    let m = most_matters c.requires.0 c.args.self.now c.requires.1 in
    let e : c.into.result ≡ 2 ^ c.args.self.now.matters - 1 = c.into.ensures ∙ c.all_matters.ensures.few m in
    let k = all_below c.args.self.now.matters j (subst (Mem j) e h) in
    let w = c.reach-reach.result.whole in
    omega arith

pub returns : goal.returns
returns c = λ P over X f.
    let m = most_matters P c.args.self.now f.sound in
    let e : c.into.result ≡ 2 ^ c.args.self.now.matters - 1 = c.into.ensures ∙ c.all_matters.ensures.few m in
    founded_lanes _ over _ X c.args.lanes c.all_of.result c.firings-firings.result c.reach-reach.result.words (omega arith) (c.firings-firings.ensures P over X f) c.reach-reach.ensures
    (subst (λ (x : ℕ). SetOf c.all_of.result (λ l. (l < 64) × ((j : ℕ) → Mem j x → Mem l (get_or c.reach-reach.result.words j 0)))) e c.all_of.ensures)
