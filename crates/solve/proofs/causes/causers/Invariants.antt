use Rattle.std.proofs.Common.{◌≡◌, length}
use Rattle.solve.specs.Marks.{AreClear}
use Rattle.solve.proofs.CauserRows.{AreCausersBelow}
use Rattle.solve.proofs.causes.causers.Given as goal

abbrev pub invariant-loop-candidate : goal.invariant-loop-candidate
invariant-loop-candidate l = record {
  rows : AreCausersBelow l.system l.kept l.rows.items l.candidate;
  size : length l.marks.items ≡ l.system.size;
  clear : AreClear l.marks.items;
}
