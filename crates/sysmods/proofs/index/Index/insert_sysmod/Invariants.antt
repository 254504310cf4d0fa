use Rattle.std.proofs.Common.{take}
use Rattle.std.specs.List.{list_any}
use Rattle.sysmods.specs.Index.{HasAll, Grows, mentions}
use Rattle.sysmods.proofs.index.Index.insert_sysmod.Given as goal

abbrev pub invariant-loop-ver : goal.invariant-loop-ver
invariant-loop-ver l = record {
  has : HasAll l.self.sets l.fn.sysmod.id
      (λ z. list_any (λ v. mentions v z) (take l.ver-index l.ver-items));
  grows : Grows l.fn.self.sets l.self.sets;
}
