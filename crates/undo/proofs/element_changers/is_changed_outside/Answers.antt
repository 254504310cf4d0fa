use Rattle.std.proofs.Common.{◌≡◌, ◌∙◌, false, not, filter, sym, ap, subst}
use Rattle.std.specs.List.{list_any}
use Rattle.terms.specs.Lookups.{changes_of, is_in}
use Rattle.undo.specs.Elements.{is_changed_by}
use Rattle.undo.specs.Scopes.{restoring_of}
use Rattle.undo.proofs.Changed.{changers_are}
use Rattle.undo.proofs.GoingWhole.{has_changers_holds}
use Rattle.undo.proofs.element_changers.is_changed_outside.Goals as goal

pub returns : goal.returns
returns c = λ off.
    let r = restoring_of c.args.scope.now in
    let all = c.in_ok-changers.changers in
    let cands = c.args.candidates.now in
    has_changers_holds r c.args.scope.now.form cands c.in_ok-unaccepted.unaccepted.items c.in_ok-others.others.items
    (rw c.args.scope.now.has_applied at c.in_ok-unaccepted.ensures)
    (c.in_ok-others.ensures ∙ ap (filter (λ y. not (is_in cands y))) c.as_slice.ensures.value) all
    (changers_are r.global c.in_ok-others.others.items all
    (rw (c.as_slice-2.ensures.value, c.global-global.ensures) at c.in_ok-changers.ensures))
    (rw (c.as_slice-3.ensures.items, c.global-global.ensures) at (sym c.any_has_sharer.ensures ∙ off))
