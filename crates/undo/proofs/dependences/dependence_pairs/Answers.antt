use Rattle.std.proofs.Common.{◌≡◌, ◌∙◌, ◌++◌, ap, arith, map, take_all}
use Rattle.std.specs.List.{flat_map}
use Rattle.terms.specs.Lookups.{is_in}
use Rattle.undo.specs.Scopes.{restoring_of}
use Rattle.undo.specs.Dependences.{all_within, dependences_of, dependents}
use Rattle.undo.proofs.AllNeeds.{have_dep_holds}
use Rattle.undo.proofs.Needing.{flat_more, within_items}
use Rattle.undo.proofs.dependences.dependence_pairs.Goals as goal

pub loop-dependent-preserved : goal.loop-dependent-preserved
loop-dependent-preserved c =
    let r = restoring_of c.args.scope.now in
    let listed = is_in c.args.candidates.now in
    let by = c.dependent-item.result in
    let ids = c.as_slice-id-items.result.now in
    let are : ids ≡ all_within listed (dependences_of r by) =
    c.as_slice-id-items.ensures.value ∙ c.in_ok-ids.ensures
    ∙ within_items listed (λ group. group.items) c.as_slice.result.now
    ∙ ap (λ gs. all_within listed (map (λ group. group.items) gs)) c.as_slice.ensures.value
    ∙ ap (all_within listed) c.in_ok-groups.ensures in
    c.loop-id.invariant
    ∙ ap (λ xs. c.loop-dependent.pairs.items ++ map (λ x. (x, by)) xs)
    (take_all c.loop-id.id-index ids (omega arith) ∙ are)
    ∙ ap (λ ps. ps ++ dependents r listed by) c.loop-dependent.invariant
    ∙ flat_more (dependents r listed) c.args.scope.now.applied.now c.loop-dependent.dependent-index by (omega arith)
    c.dependent-item.is

pub returns : goal.returns
returns c =
    have_dep_holds (restoring_of c.args.scope.now) c.args.scope.now.form c.args.candidates.now c.requires
    c.loop-dependent.pairs.items
    (c.loop-dependent.invariant
    ∙ ap (flat_map (dependents (restoring_of c.args.scope.now) (is_in c.args.candidates.now)))
    (take_all c.loop-dependent.dependent-index c.args.scope.now.applied.now (omega arith)
    ∙ c.args.scope.now.has_applied))
