use Rattle.std.proofs.Common.{◌≡◌, map, take}
use Rattle.serde_json.specs.View.{view}
use Rattle.smpe_summary.specs.Views.{taken_view}
use Rattle.smpe_json.specs.Documents.{taken_value}
use Rattle.smpe_json.proofs.summary.taken_values.Given as goal

abbrev pub invariant-loop-taken : goal.invariant-loop-taken
invariant-loop-taken l =
    map view l.values.items ≡ map (λ x. taken_value (taken_view x)) (take l.taken-index l.taken_off)
