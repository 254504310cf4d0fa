use Rattle.sysmods.specs.Index.{KeepsOthers}
use Rattle.sysmods.proofs.index.Index.remove_sysmod.Given as goal

abbrev pub invariant-loop-ver : goal.invariant-loop-ver
invariant-loop-ver l = KeepsOthers l.fn.sysmod.id l.fn.self.sets l.self.sets
