use Rattle.std.proofs.Common.{◌≡◌, ◌<◌, ◌∷◌, [], ◌++◌, ◌∙◌, ap, length, refl, rules, take, take_all}
use Rattle.std.specs.Prelude.{codes}
use Rattle.std.specs.List.{flat_map}
use Rattle.machine.specs.Report.{detail_line, words_line}
use Rattle.report.proofs.Paging.{paged_then, paged_as}
use Rattle.report.proofs.Texts.{flat_map_more}
use Rattle.report.proofs.Listings.{resolvers_none, resolvers_some}
use Rattle.report.proofs.lines.print_errsysmod.Goals as goal

pub returns-then-is_empty : goal.returns-then-is_empty
returns-then-is_empty g c =
    let none : length c.args.resolvers.now ≡ 0 = search rules in
    paged_then _ _ _ _ _ _ _ _
    (paged_as _ _ _ _ _ (words_line (codes "ERRSYSMOD" ∷ c.args.id.now ∷ c.args.reason.now ∷ []))
    (rw (c.as_bytes.ensures.same, c.as_bytes-2.ensures.same) refl) c.print_words.ensures.paged)
    (paged_as _ _ _ _ _ _ (resolvers_none c.args.resolvers.now none) c.print_words-then-is_empty.ensures.paged)

pub loop-resolver-preserved : goal.loop-resolver-preserved
loop-resolver-preserved g c =
    paged_as _ _ _ _ _ _
    (ap (λ t. flat_map (λ id. detail_line (codes "RESOLVER" ∷ id ∷ []))
    (take c.loop-resolver.resolver-index c.args.resolvers.now) ++ detail_line (codes "RESOLVER" ∷ t ∷ []))
    (c.as_bytes-in-loop-resolver.ensures.same ∙ c.resolver-item.is)
    ∙ flat_map_more (λ id. detail_line (codes "RESOLVER" ∷ id ∷ [])) c.args.resolvers.now
    c.loop-resolver.resolver-index c.resolver-item.result c.loop-resolver-test.true)
    (paged_then _ _ _ _ _ _ _ _ c.loop-resolver.invariant c.print_words-in-loop-resolver.ensures.paged)

pub returns : goal.returns
returns g c =
    let some : 0 < length c.args.resolvers.now = search rules in
    paged_then _ _ _ _ _ _ _ _
    (paged_as _ _ _ _ _ (words_line (codes "ERRSYSMOD" ∷ c.args.id.now ∷ c.args.reason.now ∷ []))
    (rw (c.as_bytes.ensures.same, c.as_bytes-2.ensures.same) refl) c.print_words.ensures.paged)
    (paged_as _ _ _ _ _ _
    (ap (flat_map (λ id. detail_line (codes "RESOLVER" ∷ id ∷ [])))
    (take_all c.loop-resolver.resolver-index c.args.resolvers.now c.loop-resolver-test.false)
    ∙ resolvers_some c.args.resolvers.now some) c.loop-resolver.invariant)
