use Rattle.std.proofs.Common.{◌≡◌, ◌++◌}
use Rattle.std.specs.List.{flat_map}
use Rattle.report.specs.ErrorHolds.{open_of, open_on}
use Rattle.report.proofs.error_holds.append_open_error_holds.Given as goal

abbrev pub invariant-loop-hold : goal.invariant-loop-hold
invariant-loop-hold l =
    l.found.items ++ flat_map (open_of l.fn.zone l.fn.id) l.hold-iterator
    ≡ l.fn.found.items ++ open_on l.fn.global l.fn.zone l.fn.id
