-- A zone that is defined is added.
use Rattle.std.proofs.Common.{◌≡◌, [], Ok, refl, sym, ap}
use Rattle.terms.specs.Forms.{IsZoneName, IsSrel}
use Rattle.machine.specs.State.{State, ZoneDefinition, define_zone}
use Rattle.machine.specs.Machine.{Define, Steps, state_after}
use Rattle.store_schema.specs.Inventory.{IsInventory}
use Rattle.store.specs.declared.change.Change.TheVariants.{NewZone}
use Rattle.store.specs.Changes.{Makes}
use Rattle.store.specs.Kept.{kept, LeadsOn}
use Rattle.machine_laws.proofs.Defined.{definition_kept, placed}

module _ (s t : State) (d : ZoneDefinition) (is : define_zone s d ≡ Ok t) (inventory : IsInventory (kept s)) where
  pub makes : Makes (NewZone d.name d.kind d.srel d.related) (kept s) (kept t)
  makes =
      let at = placed s t d is inventory in
      record { before = at.before; after = at.after; was = at.was; is = ap kept at.is }

  pub leads : IsZoneName d.name → IsSrel d.srel → IsInventory (kept t)
  leads name srel = definition_kept s t d name srel is inventory

pub steps_defined : (s t : State) (d : ZoneDefinition) → define_zone s d ≡ Ok t → Steps s (Define d) t []
steps_defined s t d is = (sym (ap (state_after s) is), refl)

-- the change that adds the zone
pub leads_on : (s t : State) (d : ZoneDefinition) → define_zone s d ≡ Ok t → IsInventory (kept s)
    → LeadsOn s (Define d) (NewZone d.name d.kind d.srel d.related)
leads_on s t d is inventory = (refl, tt, (t, [], steps_defined s t d is, makes s t d is inventory))
