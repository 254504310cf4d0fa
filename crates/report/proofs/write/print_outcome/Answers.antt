use Rattle.std.proofs.Common.{◌++◌, ap, refl, sym}
use Rattle.std.specs.List.{flat_map}
use Rattle.machine.specs.Outcome.{list_global, list_zone}
use Rattle.machine.specs.Report.{code_text, header_text, line_text, text}
use Rattle.report.specs.Views.{header_view}
use Rattle.report.proofs.Paging.{paged_then, paged_as}
use Rattle.report.proofs.Listings.{list_global_code, list_zone_code}
use Rattle.report.proofs.write.print_outcome.Goals as goal

pub returns-in-Ran-clause-paged : goal.returns-in-Ran-clause-paged
unfolding text
returns-in-Ran-clause-paged g c =
    rw c.in-Ran.is
    (paged_as _ _ _ _ _ _ (rw (c.print_lines-code.ensures.code, c.deref.ensures.value) refl)
    (paged_then _ _ _ _ _ _ _ _ (paged_then _ _ _ _ _ _ _ _ c.print_header.ensures c.print_lines-code.ensures.paged)
    c.print_code.ensures.paged))

pub returns-in-Refused-clause-paged : goal.returns-in-Refused-clause-paged
unfolding text
returns-in-Refused-clause-paged g c =
    rw c.in-Refused.is
    (paged_then _ _ _ _ _ _ _ _ (paged_then _ _ _ _ _ _ _ _ c.print_header-in-Refused.ensures c.print_refusal.ensures)
    c.print_code-in-Refused.ensures.paged)

pub returns-in-ListedGlobal-clause-paged : goal.returns-in-ListedGlobal-clause-paged
unfolding text
returns-in-ListedGlobal-clause-paged g c =
    let lines = list_global c.in-ListedGlobal.global.now in
    rw c.in-ListedGlobal.is
    (paged_as _ _ _ _ _ _
    (ap (λ n. header_text (header_view c.in-ListedGlobal.header) ++ flat_map line_text lines ++ code_text n)
    (sym (list_global_code c.in-ListedGlobal.global.now)))
    (paged_then _ _ _ _ _ _ _ _
    (paged_then _ _ _ _ _ _ _ _ c.print_header-in-ListedGlobal.ensures c.print_global.ensures)
    c.print_code-in-ListedGlobal.ensures.paged))

pub returns-in-ListedGlobal-clause-code : goal.returns-in-ListedGlobal-clause-code
returns-in-ListedGlobal-clause-code g c =
    rw c.in-ListedGlobal.is (sym (list_global_code c.in-ListedGlobal.global.now))

pub returns-in-Listed-clause-paged : goal.returns-in-Listed-clause-paged
unfolding text
returns-in-Listed-clause-paged g c =
    let lines = list_zone c.in-Listed.text c.in-Listed.zone.now in
    rw c.in-Listed.is
    (paged_as _ _ _ _ _ _
    (ap (λ n. header_text (header_view c.in-Listed.header) ++ flat_map line_text lines ++ code_text n)
    (sym (list_zone_code c.in-Listed.text c.in-Listed.zone.now)))
    (paged_then _ _ _ _ _ _ _ _
    (paged_then _ _ _ _ _ _ _ _ c.print_header-in-Listed.ensures c.print_zone.ensures)
    c.print_code-in-Listed.ensures.paged))

pub returns-in-Listed-clause-code : goal.returns-in-Listed-clause-code
returns-in-Listed-clause-code g c =
    rw c.in-Listed.is (sym (list_zone_code c.in-Listed.text c.in-Listed.zone.now))

pub returns-in-Control-clause-paged : goal.returns-in-Control-clause-paged
unfolding text
returns-in-Control-clause-paged g c =
    rw c.in-Control.is (paged_as _ _ _ _ _ _ (rw c.command_code_text.ensures refl) c.print_words.ensures.paged)
