use Rattle.std.proofs.Common.{◌≡◌, Ok, drop}
use Rattle.sqlite.specs.Held.{state}
use Rattle.sqlite.specs.State.{HasCleanDisk}
use Rattle.terms.specs.Types.{a_global}
use Rattle.store.specs.Loads.{Loads}
use Rattle.smpe_verify.specs.Verified.{verification, verified_from}
use Rattle.smpe_verify.proofs.Standing.{ShowsSoFar}
use Rattle.smpe_verify.proofs.zone_by_zone.verify.Given as goal

-- The global zone was loaded, and what is found from the other heads on, after the counts so far, is what is found. The
-- rows of the global zone, of all heads and of the zones so far were read.
abbrev pub invariant-loop-head : goal.invariant-loop-head
invariant-loop-head g l = record {
  loads : Loads {X = Unit {0}} g.S.Store l.fn.store l.store
      (λ i loaded. (a_global l.global-inside.sysmods l.global-inside.holds ≡ i.global)
      × (verified_from i l.counts (drop l.head-index l.head-items) ≡ verification i)) (Ok tt);
  rows : HasCleanDisk (state g.S.Store l.store)
      → ShowsSoFar g.S.Store l.fn.store (a_global l.global-inside.sysmods l.global-inside.holds) l.head-items
      l.head-index;
}
