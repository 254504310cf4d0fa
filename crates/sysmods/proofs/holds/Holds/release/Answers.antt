use Rattle.std.proofs.Common.{◌∙◌, ap}
use Rattle.std.specs.Map.{values_of}
use Rattle.sysmods.proofs.HoldMaps.{removed, listed_released}
use Rattle.sysmods.proofs.holds.Holds.release.Goals as goal

pub invariant_of-self : goal.invariant_of-self
invariant_of-self c = removed c.self.inside.map.entries c.self.invariant c.new.result c.remove.new.self.entries
    c.remove.ensures.entries c.remove.ensures.ordered

pub returns-in-Some-2-clause-ok : goal.returns-in-Some-2-clause-ok
returns-in-Some-2-clause-ok c =
    let entries = rw c.new.ensures at c.remove.ensures.entries in
    rw (← c.self.view_is) (ap values_of entries ∙ listed_released c.self.inside.map.entries c.self.invariant c.args.id
    c.args.kind c.args.reason)
