use Rattle.std.proofs.Common.{◌≡◌, map, take}
use Rattle.store_schema.specs.Forms.{AreSorted}
use Rattle.terms.specs.Forms.{IsSource}
use Rattle.store_schema.proofs.column_lists.read_sources.Given as goal

abbrev pub invariant-loop-part : goal.invariant-loop-part
invariant-loop-part l = record {
  same : l.list ≡ map (λ part. part.now) (take l.part-index l.parts);
  listed : AreSorted IsSource l.list;
}
