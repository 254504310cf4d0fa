use Rattle.std.proofs.Common.{take}
use Rattle.terms.specs.Lookups.{is_in}
use Rattle.sysmods.specs.Index.{HasAll, Grows}
use Rattle.sysmods.proofs.index.Index.insert_all.Given as goal

abbrev pub invariant-loop-id : goal.invariant-loop-id
invariant-loop-id l = record {
  has : HasAll l.self.sets l.fn.namer (is_in (take l.id-index l.named));
  grows : Grows l.fn.self.sets l.self.sets;
}
