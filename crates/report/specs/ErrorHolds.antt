-- The ERROR holds that a zone leaves open.
use Rattle.std.specs.Prelude.{◌&&◌, not, List, [], ◌∷◌, map, if◌then◌else◌}
use Rattle.terms.specs.Types.{Id, Hold, Entry, Global, Zone, is_error}
use Rattle.terms.specs.Lookups.{is_supplied, holds_of}
use Rattle.terms.specs.declared.kinds.HoldKind.TheVariants.{Error}
use Rattle.std.specs.Prelude.{filter}
use Rattle.machine.specs.Errsysmods.{is_current}
use Rattle.report.specs.declared.error_holds.OpenErrorHold.{OpenErrorHold}

abbrev pub an_open : Id → Id → OpenErrorHold
an_open x reason = record { id = x; reason = reason }

-- the hold, if it is an ERROR hold whose reason is not supplied
abbrev pub open_of : Zone → Id → Hold → List OpenErrorHold
open_of zone x h = if is_error h.kind && not (is_supplied zone h.reason) then an_open x h.reason ∷ [] else []

-- those on an id
abbrev pub open_on : Global → Zone → Id → List OpenErrorHold
open_on g zone x =
    map (λ h. an_open x h.reason) (filter (λ h. not (is_supplied zone h.reason)) (holds_of g Error x))

-- those on an entry, if it is applied and not superseded
abbrev pub open_in : Global → Zone → Entry → List OpenErrorHold
open_in g zone e = if is_current e then open_on g zone e.id else []
