use Rattle.std.proofs.Common.{◌∙◌, sym}
use Rattle.undo.specs.Scopes.{restoring_of}
use Rattle.undo.proofs.GoingWhole.{has_dependents_holds}
use Rattle.undo.proofs.whole.has_dependents.Goals as goal

pub returns : goal.returns
returns c = λ on.
    has_dependents_holds (restoring_of c.args.scope.now) c.args.ids.now c.in_ok-pairs.pairs.items c.in_ok-pairs.ensures
    (rw c.as_slice.ensures.value at (sym c.contains_seconds.ensures ∙ on))
