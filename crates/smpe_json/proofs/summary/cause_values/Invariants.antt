use Rattle.std.proofs.Common.{◌≡◌, map, take}
use Rattle.serde_json.specs.View.{view}
use Rattle.smpe_summary.specs.Views.{cause_view}
use Rattle.smpe_json.specs.Documents.{cause_value}
use Rattle.smpe_json.proofs.summary.cause_values.Given as goal

abbrev pub invariant-loop-cause : goal.invariant-loop-cause
invariant-loop-cause l = map view l.values.items ≡ map (λ x. cause_value (cause_view x)) (take l.cause-index l.causes)
