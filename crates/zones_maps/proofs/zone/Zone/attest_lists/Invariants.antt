use Rattle.std.proofs.Common.{take}
use Rattle.std.specs.Prelude.{All}
use Rattle.terms.specs.Lookups.{IsRising}
use Rattle.zones_maps.proofs.zone.Zone.attest_lists.Given as goal

-- the lists of the entries so far rise
abbrev pub invariant-loop-entry : goal.invariant-loop-entry
invariant-loop-entry l = All (λ e. IsRising e.supby × IsRising e.waived) (take l.entry-index l.entry-items)
