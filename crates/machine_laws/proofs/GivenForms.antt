-- What is given to an installation has its forms.
use Rattle.std.proofs.Common.{◌≤◌, ◌<◌, ◌^◌, All, Contains}
use Rattle.std.proofs.lemmas.List.Elements.{All-contains}
use Rattle.terms.specs.Types.{Id}
use Rattle.terms.specs.Install.{Installation, TakesEffect, cleared}
use Rattle.terms.specs.Deleted.{deletions}
use Rattle.terms.specs.Forms.{IsId, IsDottedDate}
use Rattle.store_schema.specs.Forms.{HasSysmodForms, HasZoneForms}
use Rattle.machine_laws.proofs.Deciders.{AreOrdered}
use Rattle.machine_laws.proofs.LessForms.{zone_less_forms}
use Rattle.machine_laws.proofs.OperandForms.{HasVers}

-- The forms of SYSMODs, ++VERs and their numbers, zone, ids and date. Of two kept ones that change one element, one is
-- over the other.
pub record HasInstallForms (i : Installation) : Type 0 where
  pub sysmods : All HasSysmodForms i.global.sysmods
  pub vers : HasVers i.choice
  pub zone : HasZoneForms i.zone
  pub kept : All IsId i.kept
  pub numbers : (x : Id) → (1 ≤ i.number x) × (i.number x < 2 ^ 63)
  pub bypassed : (x z : Id) → Contains i.bypassed (x, z) → IsId z
  pub date : IsDottedDate i.date
  pub ordered : AreOrdered i

-- the zone less all deletions
pub cleared_forms : (i : Installation) → HasInstallForms i → HasZoneForms (cleared i)
cleared_forms i has = zone_less_forms i.global i.choice (deletions i.choice i.kept) i.zone has.zone

-- what becomes APPLIED or ACCEPTED
pub effect_form : (i : Installation) → HasInstallForms i → (x : Id) → TakesEffect i x → IsId x
effect_form i has x effect = All-contains IsId i.kept x has.kept effect.kept
