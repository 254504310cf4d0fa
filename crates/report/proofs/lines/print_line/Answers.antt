use Rattle.std.proofs.Common.{refl}
use Rattle.report.proofs.Paging.{paged_then, paged_as}
use Rattle.report.proofs.lines.print_line.Goals as goal

pub returns-in-Failed : goal.returns-in-Failed
returns-in-Failed g c =
    rw c.in-Status.is
    (paged_as _ _ _ _ _ _ (rw c.in-Failed.is refl)
    (paged_then _ _ _ _ _ _ _ _ c.print_status.ensures c.print_failure.ensures))
