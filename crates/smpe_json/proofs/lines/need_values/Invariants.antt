use Rattle.std.proofs.Common.{◌≡◌, map, take}
use Rattle.serde_json.specs.View.{view}
use Rattle.judge_system.specs.Views.{need_view}
use Rattle.smpe_json.specs.Lines.{need_value}
use Rattle.smpe_json.proofs.lines.need_values.Given as goal

abbrev pub invariant-loop-need : goal.invariant-loop-need
invariant-loop-need l = map view l.values.items ≡ map (λ x. need_value (need_view x)) (take l.need-index l.needs)
