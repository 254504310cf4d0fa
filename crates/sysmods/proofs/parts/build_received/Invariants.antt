use Rattle.std.proofs.Common.{◌≡◌, ◌++◌, length}
use Rattle.std.specs.Vec.Iter.{into_iter_items, into_iter_len}
use Rattle.terms.specs.Global.{IsGlobal}
use Rattle.sysmods.specs.Held.{zone_of}
use Rattle.sysmods.proofs.parts.build_received.Given as goal

-- the SYSMODs so far are received, and are those of a global zone
abbrev pub invariant-loop-sysmod : goal.invariant-loop-sysmod
invariant-loop-sysmod l = record {
  parts : l.yielded ++ into_iter_items l.sysmod-iterator ≡ into_iter_items l.initial.sysmod-iterator;
  taken : l.received ≡ l.yielded;
  global : IsGlobal (zone_of l.yielded);
  rest : into_iter_len l.sysmod-iterator ≡ length (into_iter_items l.sysmod-iterator);
}
