use Rattle.std.proofs.Common.{refl}
use Rattle.report.proofs.Paging.{paged_as}
use Rattle.report.proofs.lines.print_fault.Goals as goal

pub returns : goal.returns
returns g c = paged_as _ _ _ _ _ _ (rw c.statement_code_text.ensures refl) c.print_words.ensures.paged
