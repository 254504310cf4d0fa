use Rattle.sysmods.specs.Index.{KeepsOthers}
use Rattle.sysmods.proofs.index.Index.remove_functions.Given as goal

abbrev pub invariant-loop-condition : goal.invariant-loop-condition
invariant-loop-condition l = KeepsOthers l.fn.namer l.fn.self.sets l.self.sets
