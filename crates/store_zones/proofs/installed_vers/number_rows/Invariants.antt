use Rattle.std.proofs.Common.{◌≡◌, map, take}
use Rattle.std.specs.List.{flat_map}
use Rattle.store_rows.specs.Rows.{as_bound}
use Rattle.store_schema.specs.Rows.{chosen_in}
use Rattle.store_zones.proofs.installed_vers.number_rows.Given as goal

-- the rows of the entries so far
abbrev pub invariant-loop-entry : goal.invariant-loop-entry
invariant-loop-entry l =
    map as_bound l.rows.items ≡ flat_map (chosen_in l.zone) (map (λ e. e.now) (take l.entry-index l.entries))
