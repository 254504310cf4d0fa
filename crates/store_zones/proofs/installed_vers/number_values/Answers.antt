use Rattle.std.proofs.Common.{rules}
use Rattle.store_zones.proofs.RowForms.{chosen_bound}
use Rattle.store_zones.proofs.installed_vers.number_values.Goals as goal

pub returns : goal.returns
returns c =
    chosen_bound c.as_bytes.result.now c.as_bytes-2.result.now _ c.args.zone.now c.args.id.now c.args.number
    c.as_bytes.ensures.same c.as_bytes-2.ensures.same (search rules)
