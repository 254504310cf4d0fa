use Rattle.std.proofs.Common.{◌≡◌, map, take}
use Rattle.serde_json.specs.View.{view}
use Rattle.smpe_json.specs.Documents.{group_value}
use Rattle.smpe_json.proofs.summary.values_of_groups.Given as goal

abbrev pub invariant-loop-name : goal.invariant-loop-name
invariant-loop-name l = map view l.values.items ≡ map (λ x. group_value l.members x.now) (take l.name-index l.names)
