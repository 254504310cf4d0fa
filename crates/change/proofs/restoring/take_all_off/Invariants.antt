use Rattle.std.proofs.Common.{◌≡◌, fold, take}
use Rattle.terms.specs.Lookups.{is_in}
use Rattle.change.specs.Restoring.{take_off}
use Rattle.change.proofs.restoring.take_all_off.Given as goal

-- the entries so far, less the kept SYSMODs
abbrev pub invariant-loop-entry : goal.invariant-loop-entry
invariant-loop-entry l =
    l.zone_edits ≡ fold (take_off (is_in l.kept)) l.initial.zone_edits (take l.entry-index l.entries)
