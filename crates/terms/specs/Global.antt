-- What RECEIVE with its holds, releases and assignments, and REJECT do to the global zone.
use Rattle.std.specs.Prelude.{◌≡◌, ◌≤◌, ◌<◌, ◌+◌, ◌^◌, ◌&&◌, ◌||◌, ◌==◌, Bool, false, not, List, [], ◌++◌, length, map}
use Rattle.std.specs.Prelude.{fold, filter, find, All, Option, None, Some, is_some, Result, Ok, Err, IsTrue}
use Rattle.std.specs.Prelude.{if◌then◌else◌}
use Rattle.std.specs.List.{list_any, flat_map}
use Rattle.std.specs.Option.{option_map_or}
use Rattle.std.specs.declared.cmp.Ordering.{Ordering}
use Rattle.std.specs.Ordering.{nat_cmp, ordering_then}
use Rattle.std.specs.Cmp.Lexicographic.{slice_cmp}
use Rattle.std.specs.Str.{bytes_eq}
use Rattle.terms.specs.declared.kinds.HoldKind.{HoldKind}
use Rattle.terms.specs.declared.kinds.HoldKind.TheVariants.{System}
use Rattle.terms.specs.Types.{Srel, Reason, Source, Id, hold_number, type_number, Ver, Hold, Change, Sysmod, Global}
use Rattle.terms.specs.Types.{Release, NamedZone}
use Rattle.terms.specs.Rising.{Rises, with_item}
use Rattle.terms.specs.Lookups.{at_most_one, is_received, is_function, is_applied}
use Rattle.terms.specs.Choice.{vers_of}
use Rattle.terms.specs.Over.{Reaches}

-- what a ++VER names in PRE, SUP and FMID
abbrev pub named : Ver → List Id
named v = v.pre ++ v.sup ++ at_most_one v.fmid

-- what all its ++VERs for one SREL name in these operands
abbrev pub names_for : Global → Srel → Id → List Id
names_for g srel x = flat_map named (vers_of g srel x)

-- By the ++VERs of some SREL, a SYSMOD leads to itself. REQ makes no such loop.
abbrev pub HasLoop : Global → Type 0
HasLoop g = (srel : Srel) × (x : Id) × Reaches (names_for g srel) x x

-- whether it is received and is not a function
abbrev pub is_service : Global → Id → Bool
is_service g x = is_received g x && not (is_function g x)

-- what a ++VER names as functions: in DELETE, in FMID and in the FMID of an ++IF
abbrev pub named_functions : Ver → List Id
named_functions v = v.del ++ at_most_one v.fmid ++ map (λ i. i.function) v.ifs

-- It supersedes no function, and it names no received SYSMOD of another type as a function.
abbrev pub fits_roles : Global → Ver → Bool
fits_roles g v = not (list_any (is_function g) v.sup) && not (list_any (is_service g) (named_functions v))

-- this holds for each received ++VER
abbrev pub RolesFit : Global → Type 0
RolesFit g = All (λ s. All (λ v. IsTrue (fits_roles g v)) s.vers) g.sysmods

-- the key of a hold: id, kind and reason
abbrev pub has_key : Id → HoldKind → Reason → Hold → Bool
has_key x kind reason h = bytes_eq h.id x && (hold_number h.kind == hold_number kind) && bytes_eq h.reason reason

-- Holds are ordered by their keys: by id, then kind, then reason.
abbrev pub hold_cmp : Hold → Hold → Ordering
hold_cmp a b =
    ordering_then (slice_cmp nat_cmp a.id b.id)
    (ordering_then (nat_cmp (hold_number a.kind) (hold_number b.kind)) (slice_cmp nat_cmp a.reason b.reason))

-- Element statements are ordered by type and name.
abbrev pub change_cmp : Change → Change → Ordering
change_cmp a b = ordering_then (nat_cmp (type_number a.elem_type) (type_number b.elem_type))
    (slice_cmp nat_cmp a.name b.name)

-- The sources rise. The element statements rise by type and name, none twice. The holds that it carries are internal
-- and on itself.
pub record IsSysmod (s : Sysmod) : Type 0 where
  pub sources : Rises (slice_cmp nat_cmp) (λ t. t) s.sources
  pub changes : Rises change_cmp (λ c. c) s.changes
  pub holds : All (λ h. IsTrue h.internal × (h.kind ≡ System) × (h.id ≡ s.id)) s.holds

-- SYSMODs and holds are in order, none twice, and each SYSMOD is well formed. There is no loop, and roles fit. An
-- internal hold is a SYSTEM hold on a received SYSMOD.
pub record IsGlobal (g : Global) : Type 0 where
  pub sysmods : Rises (slice_cmp nat_cmp) (λ s. s.id) g.sysmods
  pub holds : Rises hold_cmp (λ h. h) g.holds
  pub formed : All IsSysmod g.sysmods
  pub no_loop : ¬ HasLoop g
  pub roles : RolesFit g
  pub internal : All (λ h. IsTrue h.internal → (h.kind ≡ System) × IsTrue (is_received g h.id)) g.holds
  pub none_carried : All (λ s. s.holds ≡ []) g.sysmods
  pub size : length g.sysmods < 2 ^ 16

abbrev pub hold_of : Global → Id → HoldKind → Reason → Option Hold
hold_of g x kind reason = find (has_key x kind reason) g.holds

-- whether there is a hold of the key already, so that a new one is REPLACED and not HELD
abbrev pub is_replacing : Global → Hold → Bool
is_replacing g h = is_some (hold_of g h.id h.kind h.reason)

-- the hold with its mark as internal, which it takes over from a hold that had the mark
abbrev pub marked : Option Hold → Hold → Hold
marked was h = record h { internal = h.internal || option_map_or (λ old. old.internal) was false }

-- The hold takes its place by its key. It replaces a hold of this key, whose mark as internal stays.
abbrev pub hold : Global → Hold → Global
hold g h = record g { holds = with_item hold_cmp (λ o. o) g.holds (marked (hold_of g h.id h.kind h.reason) h) }

-- There is no such hold, or it is internal.
pub data ReleaseFault : Type 0 where
  NoHold : ReleaseFault
  Internal : ReleaseFault

-- the global zone without the hold of this key
abbrev pub without_hold : Id → HoldKind → Reason → Global → Global
without_hold x kind reason g = record g { holds = filter (λ h. not (has_key x kind reason h)) g.holds }

abbrev pub release_found : Global → Release → Option Hold → Result Global ReleaseFault
release_found g r None = Err NoHold
release_found g r (Some h) = if h.internal then Err Internal else Ok (without_hold r.id r.kind r.reason g)

-- ++RELEASE takes away a hold that is not internal.
abbrev pub release : Global → Release → Result Global ReleaseFault
release g r = release_found g r (hold_of g r.id r.kind r.reason)

-- a SYSMOD gains a source
abbrev pub with_source : Source → Sysmod → Sysmod
with_source source s = record s { sources = with_item (slice_cmp nat_cmp) (λ t. t) s.sources source }

-- ++ASSIGN gives a received SYSMOD the source. For an id that is not received it changes nothing.
abbrev pub assign : Global → Source → Id → Global
assign g source x =
    record g { sysmods = map (λ s. if bytes_eq s.id x then with_source source s else s) g.sysmods }

-- the SYSMOD at its place among the others; its holds are kept apart
abbrev pub with_sysmod : Global → Sysmod → Global
with_sysmod g s = record g { sysmods = with_item (slice_cmp nat_cmp) (λ r. r.id) g.sysmods (record s { holds = [] }) }

-- AlreadyReceived: the id is received. MakesLoop: it would close a loop. WrongRole: it would name a function where only
-- service is allowed, or service where only a function is. NoRoom: it would be the 65,536th.
pub data ReceiveFault : Type 0 where
  AlreadyReceived : ReceiveFault
  MakesLoop : ReceiveFault
  WrongRole : ReceiveFault
  NoRoom : ReceiveFault

-- the fault applies, whether or not others do
abbrev pub HasFault : Global → Sysmod → ReceiveFault → Type 0
HasFault g s AlreadyReceived = IsTrue (is_received g s.id)
HasFault g s MakesLoop = HasLoop (with_sysmod g s)
HasFault g s WrongRole = ¬ RolesFit (with_sysmod g s)
HasFault g s NoRoom = 2 ^ 16 ≤ length g.sysmods + 1

-- It is the first fault that applies. RECEIVE refuses the SYSMOD with it.
abbrev pub RefusedBy : Global → Sysmod → ReceiveFault → Type 0
RefusedBy g s AlreadyReceived = HasFault g s AlreadyReceived
RefusedBy g s MakesLoop = (¬ HasFault g s AlreadyReceived) × HasFault g s MakesLoop
RefusedBy g s WrongRole = (¬ HasFault g s AlreadyReceived) × (¬ HasFault g s MakesLoop) × HasFault g s WrongRole
RefusedBy g s NoRoom = (¬ HasFault g s AlreadyReceived) × (¬ HasFault g s MakesLoop) × (¬ HasFault g s WrongRole)
    × HasFault g s NoRoom

-- the global zone with the SYSMOD and its internal holds
abbrev pub received : Global → Sysmod → Global
received g s = fold hold (with_sysmod g s) s.holds

-- what RECEIVE of one SYSMOD answers: the global zone with the SYSMOD if no fault applies, otherwise the first fault
abbrev pub Receives : Global → Sysmod → Result Global ReceiveFault → Type 0
Receives g s (Ok new) = ((f : ReceiveFault) → ¬ HasFault g s f) × (new ≡ received g s)
Receives g s (Err f) = RefusedBy g s f

-- AppliedSomewhere: it is applied in a zone. UnknownSysmod: no SYSMOD has the id.
pub data RejectFault : Type 0 where
  AppliedSomewhere : RejectFault
  UnknownSysmod : RejectFault

-- the global zone without the SYSMOD and the internal holds on it
abbrev pub without_sysmod : Global → Id → Global
without_sysmod g x = record g {
  sysmods = filter (λ s. not (bytes_eq s.id x)) g.sysmods;
  holds = filter (λ h. not (h.internal && bytes_eq h.id x)) g.holds;
}

-- REJECT removes a received SYSMOD that no zone of any SREL has applied.
abbrev pub reject : Global → List NamedZone → Id → Result Global RejectFault
reject g zones x =
    if not (is_received g x) then Err UnknownSysmod
    else if list_any (λ z. is_applied z.zone x) zones then Err AppliedSomewhere
    else Ok (without_sysmod g x)
