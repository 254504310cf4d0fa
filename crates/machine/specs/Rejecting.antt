-- What REJECT makes of the global zone, id by id, and what it prints of each. (IBM z/OS SMP/E Commands, the REJECT
-- command.)
use Rattle.std.specs.Prelude.{◌≡◌, List, [], ◌∷◌, Result, Ok, Err}
use Rattle.terms.specs.declared.codes.IdRefusal.TheVariants as refusal
use Rattle.terms.specs.Types.{Id, Global, NamedZone}
use Rattle.terms.specs.Global.{RejectFault, AppliedSomewhere, UnknownSysmod, reject}
use Rattle.machine.specs.Outcome.{Status, Rejected, RefusedId, Line, StatusLine}
use Rattle.machine.specs.Receiving.{global_after, place_of}

abbrev pub reject_status : Result Global RejectFault → Status
reject_status (Ok new) = Rejected
reject_status (Err AppliedSomewhere) = RefusedId refusal.AppliedSomewhere
reject_status (Err UnknownSysmod) = RefusedId refusal.UnknownSysmod

-- One id. Its line has the type that the SYSMOD had.
abbrev pub RejectsId : List NamedZone → Global → Id → Global → List Line → Type 0
RejectsId zones g x new lines =
    (new ≡ global_after g (reject g zones x))
    × (lines ≡ StatusLine x (place_of g x) (reject_status (reject g zones x)) ∷ [])
