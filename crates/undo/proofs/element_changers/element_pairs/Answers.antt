use Rattle.std.proofs.Common.{◌≡◌, ◌∙◌, ◌++◌, ap, arith, map, subst, take_all}
use Rattle.std.specs.List.{flat_map}
use Rattle.undo.specs.Elements.{beside}
use Rattle.undo.specs.Scopes.{restoring_of}
use Rattle.undo.proofs.AllNeeds.{have_elem_holds}
use Rattle.undo.proofs.Changed.{changers_are}
use Rattle.undo.proofs.Needing.{flat_more}
use Rattle.undo.proofs.element_changers.element_pairs.Goals as goal

pub loop-id-preserved : goal.loop-id-preserved
loop-id-preserved c =
    let pairs = beside c.global-global.result.now c.in_ok-changers.changers in
    let id = c.id-item.result in
    let old = c.loop-id.pairs.items in
    c.loop-sharer.invariant
    ∙ ap (λ ys. old ++ map (λ y. (id, y)) ys)
    (take_all c.loop-sharer.sharer-index c.as_slice-sharer-items.result.now (omega arith)
    ∙ c.as_slice-sharer-items.ensures.value ∙ c.in_ok-sharers.ensures)
    ∙ ap (λ ps. ps ++ pairs id) c.loop-id.invariant
    ∙ flat_more pairs c.as_slice-id-items.result.now c.loop-id.id-index id (omega arith) c.id-item.is

pub returns : goal.returns
returns c =
    let all = c.in_ok-changers.changers in
    let found = c.loop-id.pairs.items in
    let candidates = c.args.candidates.now in
    have_elem_holds (restoring_of c.args.scope.now) c.args.scope.now.form c.in_ok-others.others.items
    (rw c.args.scope.now.has_applied at c.in_ok-others.ensures) all
    (changers_are (restoring_of c.args.scope.now).global c.in_ok-others.others.items all
    (rw (c.as_slice.ensures.value, c.global-global.ensures) at c.in_ok-changers.ensures)) candidates found
    (subst (λ g. found ≡ flat_map (beside g all) candidates) c.global-global.ensures
    (c.loop-id.invariant ∙ ap (flat_map (beside c.global-global.result.now all))
    (take_all c.loop-id.id-index c.as_slice-id-items.result.now (omega arith) ∙ c.as_slice-id-items.ensures.items)))
