use Rattle.std.proofs.Common.{take}
use Rattle.std.specs.List.{list_any}
use Rattle.std.specs.Str.{bytes_eq}
use Rattle.sysmods.specs.Index.{HasAll, Grows}
use Rattle.sysmods.proofs.index.Index.insert_functions.Given as goal

abbrev pub invariant-loop-condition : goal.invariant-loop-condition
invariant-loop-condition l = record {
  has : HasAll l.self.sets l.fn.namer
      (λ z. list_any (λ i. bytes_eq z i.function) (take l.condition-index l.conditions));
  grows : Grows l.fn.self.sets l.self.sets;
}
