use Rattle.std.proofs.Common.{◌++◌, All, reverse, subst}
use Rattle.smpe_global.specs.LastEdits.{HasLater, IsLast, MakesSame}
use Rattle.smpe_global.proofs.LastEdits.{kept, left_out}
use Rattle.smpe_global.proofs.last_edits.last_edits.Goals as goal

pub loop-edit-preserved-in-Continue-branch-2 : goal.loop-edit-preserved-in-Continue-branch-2
loop-edit-preserved-in-Continue-branch-2 c =
    let at = c.loop-edit in
    kept c.args.edits.items c.pop.new.self.items at.last.items c.push.new.self.items c.in-Some.edit at.later.keys
    c.is_last.new.later.keys
    (subst (IsLast c.in-Some.edit at.later.keys c.is_last.new.later.keys) c.if-branch.true c.in_ok-is_last.ensures)
    c.in_ok-push.ensures.items
    (subst (λ es. MakesSame c.args.edits.items (es ++ reverse at.last.items)
    × All (HasLater (reverse at.last.items)) at.later.keys) c.in-Some.ensures.items at.invariant)

pub loop-edit-preserved-else-branch-4 : goal.loop-edit-preserved-else-branch-4
loop-edit-preserved-else-branch-4 c =
    let at = c.loop-edit in
    left_out c.args.edits.items c.pop.new.self.items at.last.items c.in-Some.edit at.later.keys
    c.is_last.new.later.keys
    (subst (IsLast c.in-Some.edit at.later.keys c.is_last.new.later.keys) c.if-branch.false c.in_ok-is_last.ensures)
    (subst (λ es. MakesSame c.args.edits.items (es ++ reverse at.last.items)
    × All (HasLater (reverse at.last.items)) at.later.keys) c.in-Some.ensures.items at.invariant)
