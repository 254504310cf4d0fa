use Rattle.std.proofs.Common.{◌∙◌, ap, arith, length, filter}
use Rattle.std.specs.Map.{values_of}
use Rattle.std.proofs.lemmas.Map.Entries.{length-values_of}
use Rattle.sysmods.specs.Lists.{is_on}
use Rattle.sysmods.proofs.HoldMaps.{listed_kind}
use Rattle.sysmods.proofs.holds.Holds.holds_on.Goals as goal

pub returns-clause-rest : goal.returns-clause-rest
returns-clause-rest c =
    c.new.ensures ∙ ap values_of (c.range.ensures.between tt)
    ∙ listed_kind c.self.inside.map.entries c.self.invariant c.args.id c.args.kind
    ∙ ap (filter (is_on c.args.id c.args.kind)) c.self.view_is

pub returns-clause-fits : goal.returns-clause-fits
returns-clause-fits c = omega (arith, c.range.ensures.fits, ap length c.new.ensures, length-values_of c.range.result)
