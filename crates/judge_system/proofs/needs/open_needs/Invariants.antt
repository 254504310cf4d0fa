use Rattle.std.proofs.Common.{◌≡◌, length, map}
use Rattle.judge_system.specs.Numbered.{need_of}
use Rattle.judge_system.specs.Open.{HaveOpen}
use Rattle.judge_system.proofs.needs.open_needs.Given as goal

abbrev pub invariant-loop-i : goal.invariant-loop-i
invariant-loop-i l = record {
  size : length l.rows.items ≡ l.system.size;
  unserved : HaveOpen l.kept l.system.needs (map need_of l.stated) l.i l.rows.items;
}
