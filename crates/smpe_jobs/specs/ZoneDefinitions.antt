-- How the definition of a zone ends.
use Rattle.std.specs.Prelude.{◌≡◌, Bool, true, false, Option, Result, Ok, Err, IsTrue, OnOk}
use Rattle.sqlite.specs.Store.{Ghosts}
use Rattle.sqlite.specs.Held.{Held}
use Rattle.terms.specs.declared.kinds.ZoneKind.{ZoneKind}
use Rattle.terms.specs.Types.{Text}
use Rattle.machine.specs.State as state
use Rattle.machine.specs.State.{State, ZoneDefinition, define_zone}
use Rattle.machine.specs.Machine.{Define}
use Rattle.store_schema.specs.declared.error.StoreError.{StoreError}
use Rattle.store_schema.specs.declared.error.StoreError.TheVariants as store
use Rattle.store.specs.BadRows.{OnlyLoads}
use Rattle.store.specs.Going.{CommitsOnce}
use Rattle.store.specs.declared.change.Change.TheVariants.{NewZone}
use Rattle.store.specs.CallEnds.{GoesCall, FailsAct}
use Rattle.store.specs.Kept.{Keeps}
use Rattle.store.specs.Own.{IsOwn}
use Rattle.smpe_jobs.specs.declared.zone_error.ZoneFault.{ZoneFault}
use Rattle.smpe_jobs.specs.declared.zone_error.ZoneFault.TheVariants.{NameTaken, WrongRelated, OtherSrel, TooMany}
use Rattle.smpe_jobs.specs.declared.zone_error.ZoneError.{ZoneError}
use Rattle.smpe_jobs.specs.declared.zone_error.ZoneError.TheVariants.{Refused, Store, Memory}

abbrev pub definition : Text → ZoneKind → Text → Option Text → ZoneDefinition
definition name kind srel related = record { name = name; kind = kind; srel = srel; related = related }

abbrev pub fault_of : ZoneFault → state.ZoneFault
fault_of NameTaken = state.NameTaken
fault_of WrongRelated = state.WrongRelated
fault_of OtherSrel = state.OtherSrel
fault_of TooMany = state.TooMany

-- The call began at `old`. The zone is defined, or refused for the first fault, or the call failed.
module _ {S : Type 0} (g : Ghosts S) (old at : Held S) (s : State) (d : ZoneDefinition) where
  abbrev pub EndsDefine : {U : Type 0} → Result U ZoneError → Type 0
  EndsDefine (Ok done) = (t : State) × (define_zone s d ≡ Ok t) × Keeps g at t
  EndsDefine (Err (Refused why)) = (define_zone s d ≡ Err (fault_of why)) × Keeps g at s
  EndsDefine (Err (Store store.Fault)) = FailsAct g old at s (Define d) store.Fault
  EndsDefine (Err (Store _)) = ⊥
  EndsDefine (Err Memory) = FailsAct g old at s (Define d) store.Memory

-- the definition is refused
abbrev pub is_refused : {U : Type 0} → Result U ZoneError → Bool
is_refused (Err (Refused why)) = true
is_refused _ = false

-- What a definition has done, whatever the tables are. One that is done has added its zone in one commit, and a refused
-- one has left all as it was.
pub record GoesDefine {S U : Type 0} (g : Ghosts S) (old new : Held S) (d : ZoneDefinition)
    (result : Result U ZoneError) :
    Type 0 where
  pub call : GoesCall g old new (IsOwn (Define d)) (Store store.NoState) (Store store.OtherSchema) result
  pub done : OnOk result (CommitsOnce g old new (NewZone d.name d.kind d.srel d.related) result)
  pub refused : IsTrue (is_refused result) → OnlyLoads g old new

-- the definition's error for an error of the store
abbrev pub zone_error : StoreError → ZoneError
zone_error store.Memory = Memory
zone_error error = Store error
