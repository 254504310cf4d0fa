use Rattle.std.proofs.Common.{◌≡◌, ◌++◌, List}
use Rattle.terms.specs.HoldFile.{IsHoldFile}
use Rattle.mcs.specs.HoldItems as hold_files
use Rattle.mcs.specs.declared.hold_item.HoldItem.{HoldItem}
use Rattle.intake_service.proofs.records.hold_records.Given as goal

-- the items that are printed
abbrev pub invariant-loop : goal.invariant-loop
invariant-loop l =
    (done : List HoldItem) × (done ++ l.rest ≡ l.meant) × IsHoldFile l.bytes.items (hold_files.items done)
