use Rattle.std.proofs.Common.{◌∙◌}
use Rattle.sysmods.proofs.HoldMaps.{found}
use Rattle.sysmods.proofs.holds.Holds.get.Goals as goal

pub returns : goal.returns
returns c =
    let at = rw c.new.ensures at c.get.ensures.value in
    rw (← c.self.view_is) (at ∙ found c.self.inside.map.entries c.self.invariant c.args.id c.args.kind c.args.reason)
