use Rattle.std.proofs.Common.{◌≡◌, ◌++◌, length, map}
use Rattle.std.specs.Vec.Iter.{into_iter_items, into_iter_len}
use Rattle.report.specs.Views.{line_view}
use Rattle.smpe_service.specs.Statuses.{id_and_status, status_line}
use Rattle.smpe_service.proofs.lines.status_lines.Given as goal

-- the lines so far
abbrev pub invariant-loop-id : goal.invariant-loop-id
invariant-loop-id l =
    (l.yielded ++ into_iter_items l.id-iterator ≡ into_iter_items l.initial.id-iterator)
    × (map line_view l.lines.items ≡ map (status_line l.global) (map id_and_status l.yielded))
    × (into_iter_len l.id-iterator ≡ length (into_iter_items l.id-iterator))
