use Rattle.sysmods.specs.Index.{KeepsOthers}
use Rattle.sysmods.proofs.index.Index.remove_all.Given as goal

abbrev pub invariant-loop-id : goal.invariant-loop-id
invariant-loop-id l = KeepsOthers l.fn.namer l.fn.self.sets l.self.sets
