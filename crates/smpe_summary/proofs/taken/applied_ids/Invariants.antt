use Rattle.std.proofs.Common.{◌≡◌, map, filter, take}
use Rattle.std.specs.Prelude.{is_some}
use Rattle.smpe_summary.proofs.taken.applied_ids.Given as goal

abbrev pub invariant-loop-entry : goal.invariant-loop-entry
invariant-loop-entry l =
    l.found.items ≡ map (λ e. e.id) (filter (λ e. is_some e.applied) (take l.entry-index l.entry-items))
