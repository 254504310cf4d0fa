-- What RECEIVE makes of the items of its files, one after the other, and what it prints of each.
-- (IBM z/OS SMP/E Commands, the RECEIVE command; Reference, ++HOLD, ++RELEASE and ++ASSIGN.)
use Rattle.std.specs.Prelude.{◌≡◌, List, [], ◌∷◌, Option, None, Some, Result, Ok, Err, if◌then◌else◌}
use Rattle.std.specs.Option.{option_map_or}
use Rattle.terms.specs.declared.codes.IdRefusal.TheVariants as refusal
use Rattle.terms.specs.Types.{Text, Id, Hold, Sysmod, Global, Release, Item, ASysmod, AnAssign, HoldItem, AHold}
use Rattle.terms.specs.Types.{ARelease}
use Rattle.terms.specs.Lookups.{sysmod_of, is_received}
use Rattle.terms.specs.Global.{hold, is_replacing, ReleaseFault, NoHold, Internal, release, assign, with_source}
use Rattle.terms.specs.Global.{ReceiveFault}
use Rattle.terms.specs.Global.{AlreadyReceived, MakesLoop, WrongRole, NoRoom, Receives}
use Rattle.machine.specs.Outcome.{Place, OfKind, OfHold, NotReceived, Status, Received, Already, RefusedId, Assigned}
use Rattle.machine.specs.Outcome.{Unknown, Held, Replaced, Released, Line, StatusLine}
use Rattle.machine.specs.Runs.{Runs}

-- the zone of the answer, or otherwise the one before
abbrev pub global_after : {E : Type 0} → Global → Result Global E → Global
global_after g (Ok new) = new
global_after g (Err why) = g

-- the type of a received SYSMOD
abbrev pub place_of : Global → Id → Place
place_of g x = option_map_or (λ s. OfKind s.kind) (sysmod_of g x) NotReceived

-- the SYSMOD with the source that the command adds, if it adds one
abbrev pub sourced : Option Text → Sysmod → Sysmod
sourced None s = s
sourced (Some source) s = with_source source s

abbrev pub receive_status : Result Global ReceiveFault → Status
receive_status (Ok new) = Received
receive_status (Err AlreadyReceived) = Already
receive_status (Err MakesLoop) = RefusedId refusal.MakesLoop
receive_status (Err WrongRole) = RefusedId refusal.WrongRole
receive_status (Err NoRoom) = RefusedId refusal.NoRoom

-- one id of an ++ASSIGN: a received SYSMOD gets the source
abbrev pub AssignsId : Text → Global → Id → Global → List Line → Type 0
AssignsId source g x new lines =
    (new ≡ assign g source x)
    × (lines ≡ StatusLine x (place_of g x) (if is_received g x then Assigned source else Unknown) ∷ [])

-- An item of PTFIN. The line of a SYSMOD has its own type, even if it is refused.
abbrev pub TakesItem : Option Text → Global → Item → Global → List Line → Type 0
TakesItem source g (ASysmod s) new lines =
    (answer : Result Global ReceiveFault) × Receives g (sourced source s) answer
    × (new ≡ global_after g answer) × (lines ≡ StatusLine s.id (OfKind s.kind) (receive_status answer) ∷ [])
TakesItem source g (AnAssign a) new lines = Runs (AssignsId a.source) g a.to new lines

abbrev pub hold_status : Global → Hold → Status
hold_status g h = if is_replacing g h then Replaced h.reason else Held h.reason

abbrev pub release_status : Release → Result Global ReleaseFault → Status
release_status r (Ok new) = Released r.reason
release_status r (Err NoHold) = RefusedId refusal.NoHold
release_status r (Err Internal) = RefusedId refusal.Internal

-- an item of the hold file; its line has the hold's kind instead of the type
abbrev pub TakesHoldItem : Global → HoldItem → Global → List Line → Type 0
TakesHoldItem g (AHold h) new lines =
    (new ≡ hold g h) × (lines ≡ StatusLine h.id (OfHold h.kind) (hold_status g h) ∷ [])
TakesHoldItem g (ARelease r) new lines =
    (new ≡ global_after g (release g r))
    × (lines ≡ StatusLine r.id (OfHold r.kind) (release_status r (release g r)) ∷ [])
