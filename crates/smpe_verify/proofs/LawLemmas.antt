-- The status is 0 if and only if all zones are closed, and a breach that is told is one.
use Rattle.std.proofs.Common.{◌≡◌, [], Option, Some, None, refl, ap}
use Rattle.std.specs.Prelude.{◌↔◌, Contains, unwrap_or}
use Rattle.std.proofs.lemmas.List.Elements.{All-contains, All-weaker}
use Rattle.terms.specs.declared.kinds.ElemType.{ElemType}
use Rattle.terms.specs.declared.kinds.ElemType.TheVariants.{Mac, Src, Clist, Data, Exec, Parm, Proc}
use Rattle.terms.specs.Types.{Text, Lines, NamedZone}
use Rattle.terms.specs.Choice.{counting}
use Rattle.terms.specs.Closed.{IsClosedZone, AreClosed}
use Rattle.terms.specs.Texts.{HasForm}
use Rattle.store_schema.specs.Forms.{IsTextOf, HasElementForms}
use Rattle.store_schema.specs.Inventory.{Inventory, IsInventory, IsZoneNamed}
use Rattle.smpe_verify.specs.declared.breach.Breach.{Breach}
use Rattle.smpe_verify.specs.declared.verification.Verification.{Verification}
use Rattle.smpe_verify.specs.declared.verification.Verification.TheVariants.{Closed, Broken}
use Rattle.smpe_verify.specs.FirstBreach.{first_of}
use Rattle.smpe_verify.specs.Breaks.{Breaks}
use Rattle.smpe_verify.specs.Verified.{breach_in, broken, counts_of, verification}
use Rattle.smpe_verify.specs.Telling.{status_of}
use Rattle.smpe_verify.proofs.Judging.{Judges, mapped, listed}
use Rattle.smpe_verify.proofs.Rules.{zone_judged}

form_of : (type : ElemType) (text : Lines) → IsTextOf type text → HasForm type text
form_of Mac text is = is.1
form_of Src text is = is.1
form_of Clist text is = tt
form_of Data text is = tt
form_of Exec text is = tt
form_of Parm text is = tt
form_of Proc text is = tt

-- what a zone that is not closed means
abbrev BrokenIn : Inventory → Verification → Type 0
BrokenIn i (Closed counts) = ⊥
BrokenIn i (Broken name b) =
    (z : NamedZone) × Contains i.zones z × (z.name ≡ name) × Breaks i.global (counting i.global z.zone []) z.zone b

all_judged : (i : Inventory) → IsInventory i
    → Judges (first_of (broken i.global) i.zones) (AreClosed i.global i.zones) (BrokenIn i)
all_judged i inventory =
    listed (broken i.global) (λ z. IsClosedZone i.global (counting i.global z.zone []) z.zone) (BrokenIn i) i.zones
    (λ z has. mapped (breach_in i.global z.zone) (Broken z.name) (λ b breaks. (z, has, refl, breaks))
    (zone_judged i.global (counting i.global z.zone []) z.zone
    (All-weaker HasElementForms (λ e. HasForm e.elem_type e.text) (λ e forms. form_of e.elem_type e.text forms.text)
    z.zone.elements (All-contains IsZoneNamed i.zones z inventory.zones has).forms.elements)))

pub verified_closed : (i : Inventory) → IsInventory i → (status_of (verification i) ≡ 0) ↔ AreClosed i.global i.zones
verified_closed i inventory = by (first_of (broken i.global) i.zones) (all_judged i inventory)
  where
    by : (o : Option Verification) → Judges o (AreClosed i.global i.zones) (BrokenIn i)
        → (status_of (unwrap_or o (Closed (counts_of i))) ≡ 0) ↔ AreClosed i.global i.zones
    by None j = (λ is. j.none refl, λ closed. refl)
    by (Some (Broken name b)) j = (λ is. absurd (cc is), λ closed. absurd (cc (j.holds closed)))
    by (Some (Closed counts)) j = absurd (j.some (Closed counts) refl)

pub told_broken : (i : Inventory) → IsInventory i → (name : Text) (b : Breach) → verification i ≡ Broken name b
    → BrokenIn i (Broken name b)
told_broken i inventory name b is = by (first_of (broken i.global) i.zones) (all_judged i inventory) is
  where
    by : (o : Option Verification) → Judges o (AreClosed i.global i.zones) (BrokenIn i)
        → unwrap_or o (Closed (counts_of i)) ≡ Broken name b → BrokenIn i (Broken name b)
    by None j is = absurd (cc is)
    by (Some v) j is = j.some (Broken name b) (ap Some is)
