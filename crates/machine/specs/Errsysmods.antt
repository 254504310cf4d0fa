-- REPORT ERRSYSMODS of a zone: the applied SYSMODs that are held for error, and what would resolve the holds. (IBM z/OS
-- SMP/E Commands, REPORT ERRSYSMODS, whose zone is the boundary's here.)
use Rattle.std.specs.Prelude.{◌≡◌, ◌⊎◌, ◌↔◌, ◌&&◌, Bool, not, List, [], Contains, IsTrue, map, filter, is_some}
use Rattle.std.specs.List.{flat_map}
use Rattle.terms.specs.declared.kinds.HoldKind.TheVariants.{Error}
use Rattle.terms.specs.Types.{Id, Hold, Entry, Global, Zone}
use Rattle.terms.specs.Lookups.{IsRising, is_nil, holds_of, is_supplied}
use Rattle.terms.specs.Choice.{vers_of, counting}
use Rattle.terms.specs.Over.{Supersedes}
use Rattle.machine.specs.Outcome.{Line, ErrsysmodLine}

-- the ERROR holds on a SYSMOD that is applied and not superseded, whose reason the zone does not supply
abbrev pub open_errors : Global → Zone → Entry → List Hold
open_errors g zone e = filter (λ h. not (is_supplied zone h.reason)) (holds_of g Error e.id)

-- the entries that it reports
abbrev pub is_current : Entry → Bool
is_current e = is_some e.applied && is_nil e.supby

-- y is received with a ++VER for the zone's SREL, and is the reason or supersedes it
pub record Resolves (g : Global) (zone : Zone) (reason y : Id) : Type 0 where
  pub fits : IsTrue (not (is_nil (vers_of g zone.srel y)))
  pub reaches : (y ≡ reason) ⊎ Supersedes (counting g zone []) y reason

-- A line for each such hold, by entry and then by reason, with all SYSMODs that resolve it, rising.
pub record AreErrsysmods (g : Global) (zone : Zone) (lines : List Line) : Type 0 where
  pub resolvers : Id → List Id
  pub lines_are : lines
      ≡ flat_map (λ e. map (λ h. ErrsysmodLine e.id h.reason (resolvers h.reason)) (open_errors g zone e))
      (filter is_current zone.entries)
  pub rising : (reason : Id) → IsRising (resolvers reason)
  pub all : (reason y : Id) → Contains (resolvers reason) y ↔ Resolves g zone reason y
