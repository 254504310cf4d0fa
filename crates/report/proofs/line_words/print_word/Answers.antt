use Rattle.std.proofs.Common.{◌≡◌, ◌++◌, ◌-◌, ap, length, replicate, arith}
use Rattle.std.proofs.lemmas.List.{replicate_more}
use Rattle.report.proofs.Paging.{paged_then, paged_as}
use Rattle.report.proofs.line_words.print_word.Goals as goal

pub returns-in-WithColon : goal.returns-in-WithColon
returns-in-WithColon g c =
    rw c.in-WithColon.is
    (paged_then _ _ _ _ _ _ _ _ c.print-in-WithColon.ensures.paged c.print-in-WithColon-2.ensures.paged)

pub loop-place-preserved : goal.loop-place-preserved
loop-place-preserved g c =
    paged_as _ _ _ _ _ _ (replicate_more c.loop-place._place 32)
    (paged_then _ _ _ _ _ _ _ _ c.loop-place.invariant c.print-in-loop-place.ensures.paged)

pub returns-after-loop-place : goal.returns-after-loop-place
returns-after-loop-place g c =
    let text = c.in-Left.text.now in
    let all : c.loop-place._place ≡ c.in-Left.places - length text =
    omega (arith, c.saturating_sub-place-end.ensures) in
    rw c.in-Left.is (paged_as _ _ _ _ _ _ (ap (λ n. text ++ replicate n 32) all)
    (paged_then _ _ _ _ _ _ _ _ c.print-in-Left.ensures.paged c.loop-place.invariant))
