use Rattle.std.proofs.Common.{◌≡◌, drop}
use Rattle.sysmods.specs.Choices.{choice}
use Rattle.smpe_verify.specs.FirstBreach.{first_of, entry_breach}
use Rattle.smpe_verify.proofs.closed.first_entry_breach.Given as goal

abbrev pub invariant-loop-entry : goal.invariant-loop-entry
invariant-loop-entry l =
    let breach = entry_breach l.vers.global.now (choice l.vers) l.zone in
    first_of breach (drop l.entry-index l.entry-items) ≡ first_of breach l.entry-items
