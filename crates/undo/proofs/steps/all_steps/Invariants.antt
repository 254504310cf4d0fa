use Rattle.std.proofs.Common.{◌≡◌, ◌++◌, map, take}
use Rattle.std.specs.List.{flat_map}
use Rattle.undo.specs.Scopes.{restoring_of}
use Rattle.undo.specs.Steps.{as_steps, to_element, from_element, from_all, to_elements, from_elements, from_groups}
use Rattle.undo.proofs.steps.all_steps.Given as goal

abbrev pub invariant-loop-id : goal.invariant-loop-id
invariant-loop-id l =
    as_steps l.steps.items ≡ flat_map (to_elements (restoring_of l.scope)) (take l.id-index l.id-items)

abbrev pub invariant-loop-change : goal.invariant-loop-change
invariant-loop-change l =
    as_steps l.steps.items ≡ as_steps l.initial.steps.items ++ map (to_element l.id) (take l.change-index l.changes)

abbrev pub invariant-loop-changer : goal.invariant-loop-changer
invariant-loop-changer l =
    as_steps l.steps.items
    ≡ as_steps l.initial.steps.items
    ++ flat_map (from_elements (restoring_of l.scope)) (take l.changer-index l.changer-items)

abbrev pub invariant-loop-change-2 : goal.invariant-loop-change-2
invariant-loop-change-2 l =
    as_steps l.steps.items ≡ as_steps l.initial.steps.items ++ map (from_element l.changer) (take l.change-index
    l.its_changes)

abbrev pub invariant-loop-dependent : goal.invariant-loop-dependent
invariant-loop-dependent l =
    as_steps l.steps.items
    ≡ as_steps l.initial.steps.items ++ flat_map (from_groups (restoring_of l.scope)) (take l.dependent-index
    l.dependent-items)

abbrev pub invariant-loop-group : goal.invariant-loop-group
invariant-loop-group l =
    as_steps l.steps.items
    ≡ as_steps l.initial.steps.items
    ++ flat_map (λ group. from_all l.dependent group.items) (take l.group-index l.group-items)
