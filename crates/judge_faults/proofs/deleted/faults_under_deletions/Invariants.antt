use Rattle.std.proofs.Common.{take}
use Rattle.sysmods.specs.Choices.{choice}
use Rattle.terms.specs.Beside.{Beside}
use Rattle.judge_faults.specs.Deletes.{IsMarkedDeleted}
use Rattle.judge_faults.proofs.deleted.faults_under_deletions.Given as goal

abbrev pub invariant-loop-i : goal.invariant-loop-i
invariant-loop-i l =
    Beside (λ n x own. IsMarkedDeleted l.vers.global.now (choice l.vers) l.dels l.faults n x own)
    (take l.i l.ids) l.all.items
