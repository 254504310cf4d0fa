use Rattle.std.proofs.Common.{◌≡◌, map, take}
use Rattle.serde_json.specs.View.{view}
use Rattle.smpe_json.specs.Documents.{step_value}
use Rattle.smpe_json.proofs.summary.step_values.Given as goal

abbrev pub invariant-loop-step : goal.invariant-loop-step
invariant-loop-step l = map view l.values.items ≡ map step_value (take l.step-index l.steps)
