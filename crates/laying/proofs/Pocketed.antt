-- A pocket rack keeps to what every rack keeps to: for layers that hold one.
use Rattle.racks.specs.Meaning.{Kept}
use Rattle.laying.specs.declared.pocket.PocketRack.{PocketRack}
use Rattle.laying.specs.Pocketing.{pocket_meaning}

pub pocket_kept : (p : PocketRack) → Kept (pocket_meaning p)
pocket_kept p = p.sheets.kept
