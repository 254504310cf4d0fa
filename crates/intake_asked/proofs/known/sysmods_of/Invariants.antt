use Rattle.std.proofs.Common.{◌≡◌, ◌++◌, length}
use Rattle.std.specs.Vec.Iter.{into_iter_items, into_iter_len}
use Rattle.intake_asked.specs.Known.{sysmods_of}
use Rattle.intake_asked.proofs.known.sysmods_of.Given as goal

-- the SYSMODs of the files so far
abbrev pub invariant-loop-file : goal.invariant-loop-file
invariant-loop-file l =
    (l.yielded ++ into_iter_items l.file-iterator ≡ into_iter_items l.initial.file-iterator)
    × (l.all.items ≡ sysmods_of l.yielded)
    × (into_iter_len l.file-iterator ≡ length (into_iter_items l.file-iterator))
