-- What has been read so far, as the definitions see it.
use Rattle.std.specs.Prelude.{◌≡◌, ℕ, List, map, Option, option_map, IsSome, IsSomeAnd, IsTrue}
use Rattle.terms.specs.declared.kinds.HoldKind.TheVariants.{System}
use Rattle.terms.specs.Statements.{Statement, SaysHeader, SaysVer, SaysIf, SaysHold, SaysAssign, SaysChange}
use Rattle.terms.specs.Types as terms
use Rattle.terms.specs.Ptfin as ptfin
use Rattle.terms.specs.Types.{Lines}
use Rattle.terms.specs.Ptfin.{IsPtfinFault}
use Rattle.mcs.specs.declared.file.Item.{Item}
use Rattle.mcs.specs.declared.file.Item.TheVariants.{Sysmod, Assign}
use Rattle.mcs.specs.declared.file.Begun.{Begun}
use Rattle.mcs.specs.declared.file.SoFar.{SoFar}
use Rattle.mcs.specs.declared.error.McsError.{McsError}
use Rattle.mcs.specs.declared.error.McsError.TheVariants.{Memory, Fault}

abbrev pub item_of : Item → terms.Item
item_of (Sysmod s) = terms.ASysmod s
item_of (Assign a) = terms.AnAssign a

abbrev pub items : List Item → List terms.Item
items xs = map item_of xs

abbrev pub begun_of : Begun → ptfin.Begun
begun_of b = record { sysmod = b.sysmod; last = b.last }

abbrev pub begun_in : Option Begun → Option ptfin.Begun
begun_in current = option_map begun_of current

abbrev pub so_far : SoFar → ptfin.SoFar
so_far c = record { whole = items c.whole.items; current = begun_in c.current }

-- The hold is internal, and belongs to the SYSMOD.
abbrev pub IsOwnHold : Begun → terms.Hold → Type 0
IsOwnHold b h = IsTrue h.internal × (h.kind ≡ System) × (h.id ≡ b.sysmod.id)

-- Whatever belongs to a SYSMOD follows the header of one. The SYSMOD of an ++IF has a last ++VER, and a hold is its
-- SYSMOD's own.
abbrev pub Suits : Option Begun → Statement → Type 0
Suits current (SaysHeader kind id) = Unit {0}
Suits current (SaysVer v) = IsSome current
Suits current (SaysIf i) = IsSomeAnd current (λ b. IsSome b.last)
Suits current (SaysHold h) = IsSomeAnd current (λ b. IsOwnHold b h)
Suits current (SaysAssign a) = Unit {0}
Suits current (SaysChange c) = IsSome current

-- the first fault of the file, or that memory ran out
abbrev pub IsPtfinError : List ℕ → McsError → Type 0
IsPtfinError bytes Memory = Unit {0}
IsPtfinError bytes (Fault n code) = IsPtfinFault bytes (record { number = n; code = code })

-- the first fault of the statements that follow those that make c, or that memory ran out
abbrev pub IsRestError : ptfin.SoFar → ℕ → Lines → McsError → Type 0
IsRestError c n records Memory = Unit {0}
IsRestError c n records (Fault number code) =
    (ss : List Statement) × (d : ptfin.SoFar) × (m : ℕ) × (rest : Lines)
    × ptfin.BeginsWithStatements c n records ss d m rest × ptfin.IsNextFault d m rest
    (record { number = number; code = code })
