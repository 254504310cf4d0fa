use Rattle.std.proofs.Common.{◌≡◌, ◌∷◌, ◌++◌, ◌∙◌, ap, rules, sym, take, take_all}
use Rattle.std.specs.List.{flat_map}
use Rattle.terms.proofs.Lists.{joined}
use Rattle.machine.specs.Report.{list_text}
use Rattle.report.proofs.Paging.{paged_then, paged_as}
use Rattle.report.proofs.Texts.{flat_map_more}
use Rattle.report.proofs.line_words.print_sources.Goals as goal

pub loop-source-preserved : goal.loop-source-preserved
loop-source-preserved g c =
    let rest = c.in-Some.rest.now in
    paged_as _ _ _ _ _ _
    (ap (λ t. flat_map (λ source. 44 ∷ source) (take c.loop-source.source-index rest) ++ 44 ∷ t)
    (c.as_bytes-in-loop-source.ensures.same ∙ c.source-item.is)
    ∙ flat_map_more (λ source. 44 ∷ source) rest c.loop-source.source-index c.source-item.result
    c.loop-source-test.true)
    (paged_then _ _ _ _ _ _ _ _ c.loop-source.invariant (paged_then _ _ _ _ _ _ _ _ c.print-in-loop-source.ensures.paged
    c.print-in-loop-source-2.ensures.paged))

pub returns : goal.returns
returns g c =
    let first = c.in-Some.first.now in
    let rest = c.in-Some.rest.now in
    let all : c.args.sources.now ≡ first ∷ rest = search rules in
    paged_as _ _ _ _ _ _
    (ap (λ t. t ++ flat_map (λ source. 44 ∷ source) (take c.loop-source.source-index rest)) c.as_bytes.ensures.same
    ∙ ap (λ l. first ++ flat_map (λ source. 44 ∷ source) l) (take_all c.loop-source.source-index rest
    c.loop-source-test.false)
    ∙ joined 44 first rest ∙ ap list_text (sym all))
    (paged_then _ _ _ _ _ _ _ _ c.print-2.ensures.paged c.loop-source.invariant)
