use Rattle.std.proofs.Common.{◌≡◌, take}
use Rattle.std.specs.List.{filter_map}
use Rattle.select.specs.Reasons.{with_reason}
use Rattle.select.proofs.left_out.ids_with_reasons.Given as goal

abbrev pub invariant-loop-id : goal.invariant-loop-id
invariant-loop-id l = l.found.items ≡ filter_map (with_reason l.scope) (take l.id-index l.ids)
