use Rattle.std.proofs.Common.{refl}
use Rattle.report.proofs.Paging.{paged_as}
use Rattle.report.proofs.lines.print_status.Goals as goal

pub returns-in-Some : goal.returns-in-Some
returns-in-Some g c =
    paged_as _ _ _ _ _ _
    (rw (c.as_bytes.ensures.same, c.place_text.ensures, c.status_word.ensures, ← c.status_detail.ensures)
    (rw c.in-Some.is refl)) c.print_words.ensures.paged

pub returns-in-None : goal.returns-in-None
returns-in-None g c =
    paged_as _ _ _ _ _ _
    (rw (c.as_bytes-in-None.ensures.same, c.place_text.ensures, c.status_word.ensures, ← c.status_detail.ensures)
    (rw c.in-None.is refl)) c.print_words-in-None.ensures.paged
