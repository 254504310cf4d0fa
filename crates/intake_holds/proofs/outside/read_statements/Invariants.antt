use Rattle.intake_holds.specs.Outside.{AddsHoldsAt}
use Rattle.intake_holds.proofs.outside.read_statements.Given as goal

abbrev pub invariant-loop : goal.invariant-loop
invariant-loop l = AddsHoldsAt l.reader.held.items l.fn.held l.held
