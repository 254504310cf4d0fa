use Rattle.std.proofs.Common.{◌∙◌, ap, filter, subst, sym}
use Rattle.terms.specs.Types.{Zone}
use Rattle.terms.specs.Lookups.{IsZone, is_function, applied_ids}
use Rattle.terms.specs.Deleted.{zone_less}
use Rattle.zones.specs.Scopes.{global_of, choice_of}
use Rattle.why_facts.proofs.facts.id_facts.Goals as goal

pub invariant_of-asking-clause-zone_is : goal.invariant_of-asking-clause-zone_is
invariant_of-asking-clause-zone_is c =
    subst (λ (z : Zone). IsZone z) (sym c.requires.zone) c.args.lookups.now.zone_is

pub invariant_of-asking-clause-seen_is : goal.invariant_of-asking-clause-seen_is
invariant_of-asking-clause-seen_is c =
    let scope = c.args.scope.now in
    ap (λ dels. zone_less (global_of scope) (choice_of scope) dels scope.zone.now)
    (c.as_slice.ensures.value ∙ c.in_ok-view_dels.ensures)

pub invariant_of-asking-clause-left_is : goal.invariant_of-asking-clause-left_is
invariant_of-asking-clause-left_is c =
    let scope = c.args.scope.now in
    ap (λ dels. zone_less (global_of scope) (choice_of scope) dels scope.zone.now)
    (c.as_slice-2.ensures.value ∙ c.in_ok-own_dels.ensures)

pub invariant_of-asking-clause-applied_is : goal.invariant_of-asking-clause-applied_is
invariant_of-asking-clause-applied_is c =
    c.as_slice-3.ensures.value ∙ c.args.lookups.now.applied_is ∙ ap applied_ids (sym c.requires.zone)

pub invariant_of-asking-clause-functions_is : goal.invariant_of-asking-clause-functions_is
invariant_of-asking-clause-functions_is c =
    let applied = c.args.lookups.now.applied.items in
    c.as_slice-4.ensures.value ∙ c.args.lookups.now.functions_is
    ∙ ap (λ g. filter (is_function g) applied) (sym c.requires.global)
    ∙ ap (filter (is_function (global_of c.args.scope.now))) (sym c.as_slice-3.ensures.value)
