use Rattle.std.proofs.Common.{take}
use Rattle.undo.specs.Steps.{as_steps}
use Rattle.undo.specs.ByNumbers.{IsGrowth}
use Rattle.undo.proofs.numbered.rules_of_steps.Given as goal

abbrev pub invariant-loop-step : goal.invariant-loop-step
invariant-loop-step l = IsGrowth l.table l.ids (as_steps (take l.step-index l.steps)) l.rules
