use Rattle.std.proofs.Common.{◌∙◌, ap, arith, length}
use Rattle.std.specs.Map.{values_of}
use Rattle.std.proofs.lemmas.Map.Entries.{length-values_of}
use Rattle.sysmods.proofs.HoldMaps.{listed_all}
use Rattle.sysmods.proofs.holds.Holds.iter.Goals as goal

pub returns-clause-rest : goal.returns-clause-rest
returns-clause-rest c = c.new.ensures ∙ ap values_of (c.range.ensures.between tt ∙ listed_all c.self.inside.map.entries)
    ∙ c.self.view_is

pub returns-clause-fits : goal.returns-clause-fits
returns-clause-fits c = omega (arith, c.range.ensures.fits, ap length c.new.ensures, length-values_of c.range.result)
