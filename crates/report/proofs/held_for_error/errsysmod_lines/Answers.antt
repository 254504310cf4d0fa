use Rattle.std.proofs.Common.{◌≡◌, ◌<◌, ◌∙◌, [], ◌∷◌, ◌++◌, ap, map, sym, subst, Contains, take, length, arith, rules}
use Rattle.std.proofs.lemmas.Cmp.{nat_list_cmp_total}
use Rattle.std.proofs.lemmas.List.{map-append}
use Rattle.terms.specs.Choice.{counting}
use Rattle.terms.proofs.Lists.{front_more}
use Rattle.terms.proofs.RisingAlike.{rises_only}
use Rattle.machine.specs.Outcome as machine
use Rattle.report.specs.Views.{line_view}
use Rattle.report.specs.declared.error_holds.OpenErrorHold.{OpenErrorHold}
use Rattle.report.proofs.Superseding.{resolves_as}
use Rattle.report.proofs.held_for_error.errsysmod_lines.Goals as goal

pub loop-error-preserved : goal.loop-error-preserved
loop-error-preserved c resolvers are =
    let g = c.args.global.now in
    let zone = c.args.zone.now in
    let errors = c.args.errors.now in
    let i = c.loop-error.error-index in
    let o = c.error-item.result in
    let items = c.as_slice.result.now in
    let printed : OpenErrorHold → machine.Line = λ o. machine.ErrsysmodLine o.id o.reason (resolvers o.reason) in
    let below : i < length errors = omega arith in
    let told =
    resolves_as g zone c.in_ok-vers.vers o.reason c.in_ok-vers.ensures.global c.in_ok-vers.ensures.srel
    (c.in_ok-vers.ensures.counting ∙ ap (counting g zone) c.new-no_candidates.ensures) in
    let reason_is : c.unwrap.result ≡ o.reason = search rules in
    let same : items ≡ resolvers o.reason =
    rises_only nat_list_cmp_total (λ x. x) items (resolvers o.reason) c.as_slice.ensures.rising (are o.reason).0
    (λ y is. ((are o.reason).1 y).1
    ((told y).0 ((c.in_ok-ids.ensures y).0 (subst (λ l. Contains l y) c.as_slice.ensures.items is))))
    (λ y is. subst (λ l. Contains l y) (sym c.as_slice.ensures.items)
    ((c.in_ok-ids.ensures y).1 ((told y).1 (((are o.reason).1 y).0 is)))) in
    ap (map line_view) c.in_ok-push.ensures.items
    ∙ map-append line_view c.loop-error.lines.items (_ ∷ [])
    ∙ ap (λ l. l ++ machine.ErrsysmodLine o.id c.unwrap.result c.in_ok-from_slice.field-0.items ∷ [])
    (c.loop-error.invariant resolvers are)
    ∙ ap (λ v. map printed (take i errors) ++ v ∷ [])
    (ap (λ r. machine.ErrsysmodLine o.id r c.in_ok-from_slice.field-0.items) reason_is
    ∙ ap (λ l. machine.ErrsysmodLine o.id o.reason l) (c.in_ok-from_slice.ensures.items ∙ same))
    ∙ sym (ap (map printed) (front_more errors i o below c.error-item.is) ∙ map-append printed (take i errors) (o ∷ []))
