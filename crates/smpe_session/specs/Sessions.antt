-- What a job has in memory of a state, and how its beginning and its commands end.
use Rattle.std.specs.Prelude.{◌≡◌, ◌⊎◌, None, Some, IsSome, Result, Ok, Err}
use Rattle.std.specs.Str.{bytes_eq}
use Rattle.indexmap.specs.IndexMap.{get}
use Rattle.sqlite.specs.Store.{Ghosts}
use Rattle.sqlite.specs.Held.{Held}
use Rattle.terms.specs.Types.{Text, Zone, Command, ListZone, Report}
use Rattle.machine.specs.State.{State, global_name, zone_named}
use Rattle.machine.specs.Machine.{Files, Begin, Perform, Performs}
use Rattle.report.specs.declared.outcome.Outcome.{Outcome}
use Rattle.report.specs.Views.{outcome_view}
use Rattle.store_schema.specs.declared.error.StoreError.{StoreError}
use Rattle.store.specs.CallEnds.{EndsAct, FailsAct}
use Rattle.store.specs.Kept.{Keeps}
use Rattle.smpe_session.specs.declared.session.Session.{Session}
use Rattle.smpe_session.specs.declared.session.Performed.{Performed}
use Rattle.smpe_session.specs.declared.session.Performed.TheVariants.{Told, Lists}

-- The session has the state's global zone and boundary, and zones of the state, including the one that the boundary
-- names.
pub record IsSessionOf (s : State) (at : Session) : Type 0 where
  pub global : at.global ≡ s.global
  pub boundary : at.boundary ≡ s.boundary
  pub zones : (name : Text) (zone : Zone) → get bytes_eq at.zones name ≡ Some zone → zone_named s.zones name ≡ Some zone
  pub current : (name : Text) → s.boundary ≡ Some name → (name ≡ global_name) ⊎ IsSome (get bytes_eq at.zones name)

-- A call began at `old`, and has ended.
module _ {S : Type 0} (g : Ghosts S) (old at : Held S) (s : State) where
  -- The job has begun, and the tables stand for what they stood for, or its beginning has failed.
  abbrev pub HasBegun : Result Session StoreError → Type 0
  HasBegun result = EndsAct g old at s Begin
      (λ session. IsSessionOf (record s { boundary = None }) session × Keeps g at s) result

  -- The command is performed, the tables stand for its result, and so does the session, or it has failed.
  abbrev pub HasPerformed : Session → Text → Files → Command → Result Outcome StoreError → Type 0
  HasPerformed session date files c result = EndsAct g old at s (Perform date files c) (λ outcome. (t : State)
      × Performs date files s c t (outcome_view outcome) × IsSessionOf t session × Keeps g at t) result

  -- This is so, or it is a LIST, before and after which the state is the same.
  abbrev pub HasDone : Session → Text → Files → Command → Result Performed StoreError → Type 0
  HasDone session date files c (Ok (Told outcome)) = HasPerformed session date files c (Ok outcome)
  HasDone session date files c (Ok (Lists text)) = (c ≡ ListZone text) × IsSessionOf s session × Keeps g at s
  HasDone session date files c (Err error) = FailsAct g old at s (Perform date files c) error

-- LIST and REPORT look at what the session has.
abbrev pub LooksOnly : Command → Type 0
LooksOnly (ListZone text) = Unit {0}
LooksOnly Report = Unit {0}
LooksOnly _ = ⊥

-- the outcome, if there is one, is told
abbrev pub told : Result Outcome StoreError → Result Performed StoreError
told (Ok outcome) = Ok (Told outcome)
told (Err error) = Err error
