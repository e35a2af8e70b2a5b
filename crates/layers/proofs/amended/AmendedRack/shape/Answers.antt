use Rattle.laying.specs.Pocketing.{pocket_meaning}
use Rattle.layers.specs.OverLemmas.{shaped_amended}
use Rattle.layers.proofs.amended.AmendedRack.shape.Goals as goal

pub returns : goal.returns
returns g c =
    let s = c.args.self.now in
    shaped_amended (g.R.Rack.meaning s.below) (pocket_meaning s.own) _ _ _ c.shape.ensures c.shape-2.ensures c.on_top.ensures
