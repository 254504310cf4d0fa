use Rattle.std.proofs.Common.{◌++◌, All, reverse, vec_len}
use Rattle.smpe_global.specs.LastEdits.{HasLater, MakesSame}
use Rattle.smpe_global.proofs.last_edits.last_edits.Given as goal

-- those that are left, and the last ones of the others in reverse
abbrev pub invariant-loop-edit : goal.invariant-loop-edit
invariant-loop-edit l =
    MakesSame l.fn.edits.items (l.edits.items ++ reverse l.last.items)
    × All (HasLater (reverse l.last.items)) l.later.keys

abbrev pub decreases-loop-edit : goal.decreases-loop-edit
decreases-loop-edit l = vec_len l.edits
