use Rattle.std.proofs.Common.{◌≡◌, ◌++◌, take}
use Rattle.std.specs.Prelude.{codes}
use Rattle.std.specs.List.{flat_map}
use Rattle.smpe_summary.specs.Text.{reason_of}
use Rattle.smpe_summary.proofs.todo_text.reasons_text.Given as goal

abbrev pub invariant-loop-step : goal.invariant-loop-step
invariant-loop-step l =
    l.text.items ≡ l.initial.text.items ++ flat_map (λ u. codes "," ++ reason_of u) (take l.step-index l.rest)
