use Rattle.std.proofs.Common.{◌≡◌, ◌++◌, length}
use Rattle.std.specs.Vec.Iter.{into_iter_items, into_iter_len}
use Rattle.change.proofs.ElementEdits.{AreDone}
use Rattle.change.proofs.differing.add_differing_edits.Given as goal

-- the edits so far are done
abbrev pub invariant-loop-edit : goal.invariant-loop-edit
invariant-loop-edit l = record {
  all : l.yielded ++ into_iter_items l.edit-iterator ≡ into_iter_items l.initial.edit-iterator;
  entries : l.zone_edits.entries ≡ l.initial.zone_edits.entries;
  done : AreDone l.zone (into_iter_items l.initial.edit-iterator) l.yielded l.zone_edits.elements;
  count : into_iter_len l.edit-iterator ≡ length (into_iter_items l.edit-iterator);
}
