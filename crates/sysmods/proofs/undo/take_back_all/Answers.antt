use Rattle.std.proofs.Common.{sym, subst}
use Rattle.sysmods.specs.Undone.{UndoesAll}
use Rattle.sysmods.proofs.Undoing.{undoes_less}
use Rattle.sysmods.proofs.undo.take_back_all.Goals as goal

pub loop-undo-preserved : goal.loop-undo-preserved
loop-undo-preserved c =
    λ old all.
    let less = undoes_less old c.loop-undo.from c.pop.new.self.items c.in-Some.undo
    (subst (λ us. UndoesAll old c.loop-undo.from us) c.in-Some.ensures.items (c.loop-undo.invariant old all)) in
    subst (λ xs. UndoesAll old xs c.pop.new.self.items) (sym (c.take_back.ensures less.0 less.2)) less.1
