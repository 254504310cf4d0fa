use Rattle.std.proofs.Common.{◌≡◌, map, take, filter}
use Rattle.serde_json.specs.View.{view}
use Rattle.smpe_json.specs.Documents.{member_value, is_named}
use Rattle.smpe_json.proofs.summary.values_in_group.Given as goal

abbrev pub invariant-loop-member : goal.invariant-loop-member
invariant-loop-member l =
    map view l.values.items ≡ map member_value (filter (is_named l.name) (take l.member-index l.members))
