-- A planned change of a zone: with CHECK the state stays, else it is one with the zone changed.
use Rattle.std.proofs.Common.{◌≡◌, Bool, false, true, Result, Err, sym, subst, ap}
use Rattle.std.specs.Prelude.{if◌then◌else◌}
use Rattle.std.proofs.lemmas.List.Elements.{All-weaker}
use Rattle.sqlite.specs.Store.{Ghosts}
use Rattle.sqlite.specs.Held.{Held}
use Rattle.terms.specs.Types.{Text, Zone, NamedZone, Command}
use Rattle.terms.specs.Lookups.{IsZone}
use Rattle.zones_maps.specs.Delta.{ZoneDelta, IsDelta, IsChanged}
use Rattle.zones_maps.specs.Changed.{changed_zone}
use Rattle.zones_maps.proofs.Changing.{zone_changes}
use Rattle.store.specs.Changes.{Makes}
use Rattle.store.specs.declared.change.Change.TheVariants.{Zone as ZoneChange}
use Rattle.store_schema.specs.declared.error.StoreError.{StoreError}
use Rattle.store_schema.specs.Inventory.{IsInventory, IsZoneNamed}
use Rattle.machine.specs.Outcome.{Outcome}
use Rattle.machine.specs.State.{State, with_zone}
use Rattle.machine.specs.Machine.{Files, Performs}
use Rattle.report.specs.declared.outcome.Outcome.{Outcome as Told}
use Rattle.report.specs.Views.{outcome_view}
use Rattle.store.specs.CallEnds.{EndsCommit}
use Rattle.store.specs.Kept.{kept}
use Rattle.store.specs.Own.{IsOwnOf}
use Rattle.smpe_session.specs.declared.session.Session.{Session}
use Rattle.smpe_session.specs.Places.{ChangesZone}
use Rattle.smpe_session.specs.Sessions.{IsSessionOf, HasPerformed}
use Rattle.smpe_session.specs.Uses.{UsesStore}
use Rattle.smpe_session.proofs.Installed.{zone_change}
use Rattle.smpe_session.proofs.StateZones.{each_named}
use Rattle.smpe_session.proofs.Stepping.{performs_committed, performs_failed}

module _ (date : Text) (files : Files) (c : Command) (s : State) (at : Session) (name : Text) (delta : ZoneDelta)
    (check : Bool) (outcome : Outcome) (planned : ChangesZone date files c s at name delta check outcome)
    (inventory : IsInventory (kept s)) where
  -- there is a zone that the delta leads to
  changes : IsDelta delta → IsChanged delta planned.zone (changed_zone delta.edits planned.zone)
  changes is = zone_changes delta.edits planned.zone is (each_named IsZone s.zones (All-weaker IsZoneNamed
      (λ (z : NamedZone). IsZone z.zone) (λ z is. is.zone) s.zones inventory.zones) name planned.zone planned.is_there)

  pub checks : IsDelta delta → check ≡ true → Performs date files s c s outcome
  checks is checked =
      let new = changed_zone delta.edits planned.zone in
      subst (λ t. Performs date files s c t outcome) (ap (λ b. if b then s else with_zone s name new) checked)
      (planned.performs new (changes is))

  module _ (unchecked : check ≡ false) {S : Type 0} (g : Ghosts S) (before after : Held S)
      (answer : Told) (view : outcome_view answer ≡ outcome) (session : Session) where
    -- the commit of the change has ended so
    abbrev Commits : Result Told StoreError → Type 0
    Commits r =
        (t : State) → Makes (ZoneChange name delta) (kept s) (kept t) → IsInventory (kept t)
        → EndsCommit g before after s t (ZoneChange name delta) answer r

    owns : IsDelta delta → IsOwnOf c (ZoneChange name delta)
    owns is = planned.owns unchecked (ZoneChange name delta) (planned.zone, is, planned.knows)

    module _ (new : Zone) (changed : IsChanged delta planned.zone new) (is_delta : IsDelta delta) where
      performs : Performs date files s c (with_zone s name new) (outcome_view answer)
      performs = subst (Performs date files s c (with_zone s name new)) (sym view)
          (subst (λ u. Performs date files s c u outcome) (ap (λ b. if b then s else with_zone s name new) unchecked)
          (planned.performs new changed))

      makes : Makes (ZoneChange name delta) (kept s) (kept (with_zone s name new))
      makes = (
        planned.zone,
        new,
        zone_change (kept s) name planned.zone new inventory planned.is_there,
        changed,
        is_delta,
        planned.knows,
      )

      -- it is done, and then the session's zone is changed
      pub carries : IsSessionOf (with_zone s name new) session → (r : Result Told StoreError) → Commits r
          → HasPerformed g before after s session date files c r
      carries is r ended =
          let t = with_zone s name new in
          performs_committed g before after s date files c t answer performs (ZoneChange name delta) (owns is_delta)
          planned.boundary makes session is r (ended t makes (planned.inventory new changed inventory))

    -- it failed
    pub fails : IsDelta delta → (e : StoreError) → Commits (Err e)
        → HasPerformed g before after s session date files c (Err e)
    fails is e ended =
        let new = changed_zone delta.edits planned.zone in
        let changed = changes is in
        let t = with_zone s name new in
        performs_failed g before after s date files c t answer (performs new changed is)
        (ZoneChange name delta) (owns is) planned.boundary (makes new changed is) session e
        (ended t (makes new changed is) (planned.inventory new changed inventory))
