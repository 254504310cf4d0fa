use Rattle.std.proofs.Common.{◌∙◌, ap}
use Rattle.terms.specs.Types.{Applied}
use Rattle.report.proofs.Paging.{paged_then, paged_as}
use Rattle.report.proofs.Listings.{applied_put}
use Rattle.report.proofs.line_words.print_applied.Goals as goal

pub returns-in-Some : goal.returns-in-Some
returns-in-Some g c =
    paged_as _ _ _ _ _ _
    (applied_put c.args.kind c.args.applied.now c.in-Some.applied c.in-Some.is c.applied_word.ensures
    (c.as_bytes.ensures.same ∙ ap (λ (a : Applied). a.date) c.applied.view_is))
    (paged_then _ _ _ _ _ _ _ _ (paged_then _ _ _ _ _ _ _ _ c.print.ensures.paged c.print-in-Some.ensures.paged)
    c.print-in-Some-2.ensures.paged)
