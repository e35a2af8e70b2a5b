use Rattle.std.proofs.Common.{rules, arith}
use Rattle.evaluator.specs.Finding.{Tried}
use Rattle.evaluator.proofs.Tries.{end_kept, first, hands}
use Rattle.evaluator.proofs.finder.calls.FinderIterator.next.Goals as goal

pub invariant_of-self : goal.invariant_of-self
invariant_of-self c =
    let f = c.args.self.now in
    let few = f.few in
    let e = end_kept f.untried c.find_map.new.self c.find_map.result c.find_map.ensures.ran in
    record { few = omega arith }

pub returns-clause-steps : goal.returns-clause-steps
returns-clause-steps c =
    let f = c.args.self.now in
    hands f.candidates f.untried c.find_map.new.self c.find_map.result f.few _ (first (Tried f.candidates) (λ x r q k. search rules) f.untried c.find_map.new.self c.find_map.result c.find_map.ensures.ran c.find_map.ensures.runs)
