use Rattle.std.proofs.Common.{◌≡◌, ◌∷◌, ◌++◌, ◌∙◌, ap, rules, sym, take, take_all}
use Rattle.std.specs.List.{flat_map}
use Rattle.terms.proofs.Lists.{joined}
use Rattle.machine.specs.Report.{list_text}
use Rattle.report.proofs.Paging.{paged_then, paged_as}
use Rattle.report.proofs.Texts.{flat_map_more}
use Rattle.report.proofs.line_words.print_ids.Goals as goal

pub loop-id-preserved : goal.loop-id-preserved
loop-id-preserved g c =
    let rest = c.in-Some.rest.now in
    paged_as _ _ _ _ _ _
    (ap (λ t. flat_map (λ id. 44 ∷ id) (take c.loop-id.id-index rest) ++ 44 ∷ t)
    (c.as_bytes-in-loop-id.ensures.same ∙ c.id-item.is)
    ∙ flat_map_more (λ id. 44 ∷ id) rest c.loop-id.id-index c.id-item.result c.loop-id-test.true)
    (paged_then _ _ _ _ _ _ _ _ c.loop-id.invariant (paged_then _ _ _ _ _ _ _ _ c.print-in-loop-id.ensures.paged
    c.print-in-loop-id-2.ensures.paged))

pub returns : goal.returns
returns g c =
    let first = c.in-Some.first.now in
    let rest = c.in-Some.rest.now in
    let all : c.args.ids.now ≡ first ∷ rest = search rules in
    paged_as _ _ _ _ _ _
    (ap (λ t. t ++ flat_map (λ id. 44 ∷ id) (take c.loop-id.id-index rest)) c.as_bytes.ensures.same
    ∙ ap (λ l. first ++ flat_map (λ id. 44 ∷ id) l) (take_all c.loop-id.id-index rest c.loop-id-test.false)
    ∙ joined 44 first rest ∙ ap list_text (sym all))
    (paged_then _ _ _ _ _ _ _ _ c.print-2.ensures.paged c.loop-id.invariant)
