use Rattle.std.proofs.Common.{take}
use Rattle.judge_faults.specs.Sharing.{Marks}
use Rattle.judge_faults.specs.Forbidding.{IsOfOne}
use Rattle.judge_faults.proofs.clashes.mark_by_npre.Given as goal

abbrev pub invariant-loop-other : goal.invariant-loop-other
invariant-loop-other l =
    Marks (IsOfOne l.ids l.faults l.fn.place l.id (take l.other-index l.named)) l.fn.marked.keys l.marked.keys
