use Rattle.std.proofs.Common.{◌≡◌, map, take}
use Rattle.store_schema.specs.Forms.{AreSorted}
use Rattle.terms.specs.Forms.{IsId}
use Rattle.store_schema.proofs.column_lists.read_ids.Given as goal

abbrev pub invariant-loop-part : goal.invariant-loop-part
invariant-loop-part l = record {
  same : l.list ≡ map (λ part. part.now) (take l.part-index l.parts);
  listed : AreSorted IsId l.list;
}
