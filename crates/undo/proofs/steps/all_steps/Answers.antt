use Rattle.std.proofs.Common.{◌∙◌, ◌++◌, ap, ap₂, append_assoc, arith, filter, not, take, take_all}
use Rattle.std.specs.List.{flat_map}
use Rattle.terms.specs.Lookups.{is_supplied}
use Rattle.undo.specs.Scopes.{restoring_of}
use Rattle.undo.specs.Steps.{as_steps, from_all, to_elements, from_elements, from_groups}
use Rattle.undo.proofs.Needing.{flat_items, flat_more}
use Rattle.undo.proofs.steps.all_steps.Goals as goal

pub loop-dependent-preserved : goal.loop-dependent-preserved
loop-dependent-preserved c =
    let r = restoring_of c.args.scope.now in
    let bys = c.args.scope.now.applied.now in
    let by = c.dependent-item.result in
    let groups = c.as_slice-group-items.result.now in
    let first = as_steps c.loop-changer.steps.items in
    let old = as_steps c.loop-dependent.steps.items in
    c.loop-group.invariant
    ∙ ap (λ gs. old ++ flat_map (λ group. from_all by group.items) gs)
    (take_all c.loop-group.group-index groups (omega arith) ∙ c.as_slice-group-items.ensures.value)
    ∙ ap (λ ss. old ++ ss) (flat_items (from_all by) (λ group. group.items) c.in_ok-groups.groups.items
    ∙ ap (flat_map (from_all by)) c.in_ok-groups.ensures)
    ∙ ap (λ ss. ss ++ from_groups r by) c.loop-dependent.invariant
    ∙ append_assoc first (flat_map (from_groups r) (take c.loop-dependent.dependent-index bys)) (from_groups r by)
    ∙ ap (λ ss. first ++ ss) (flat_more (from_groups r) bys c.loop-dependent.dependent-index by (omega arith)
    c.dependent-item.is)

pub returns : goal.returns
returns c =
    let scope = c.args.scope.now in
    let r = restoring_of scope in
    let applied = scope.applied.now in
    c.loop-dependent.invariant
    ∙ ap₂ (λ ss ts. ss ++ ts)
    (c.loop-changer.invariant
    ∙ ap₂ (λ ss ts. ss ++ ts)
    (c.loop-id.invariant
    ∙ ap (flat_map (to_elements r)) (take_all c.loop-id.id-index applied (omega arith) ∙ scope.has_applied))
    (ap (flat_map (from_elements r))
    (take_all c.loop-changer.changer-index c.as_slice-changer-items.result.now (omega arith)
    ∙ c.as_slice-changer-items.ensures.value ∙ c.in_ok-unaccepted.ensures
    ∙ ap (filter (λ y. not (is_supplied scope.accepted.now y))) scope.has_applied)))
    (ap (flat_map (from_groups r)) (take_all c.loop-dependent.dependent-index applied (omega arith)
    ∙ scope.has_applied))
