use Rattle.std.proofs.Common.{◌≡◌, take}
use Rattle.std.specs.List.{flat_map}
use Rattle.report.specs.ErrorHolds.{open_in}
use Rattle.report.proofs.error_holds.open_error_holds.Given as goal

abbrev pub invariant-loop-entry : goal.invariant-loop-entry
invariant-loop-entry l =
    l.found.items ≡ flat_map (open_in l.fn.global l.fn.zone) (take l.entry-index l.entry-items)
