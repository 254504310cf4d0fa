-- What a breach means: the clause of `IsClosedZone` that fails, and the id or element at which it fails.
use Rattle.std.specs.Prelude.{◌≡◌, ◌≢◌, Contains, IsTrue, IsFalse, IsSome, IsNone, List, ◌∷◌, [], Some}
use Rattle.terms.specs.Types.{Id, Entry, Element, Global, Zone}
use Rattle.terms.specs.Lookups.{applied_ids, delby_of, is_applied, is_function, is_supplied}
use Rattle.terms.specs.Choice.{Choice, fmid_of, npre_of}
use Rattle.terms.specs.Over.{chain, owner}
use Rattle.terms.specs.Changes.{has_replacement, has_update}
use Rattle.terms.specs.Needs.{binding_ids}
use Rattle.smpe_verify.specs.declared.breach.EntryFault.{EntryFault}
use Rattle.smpe_verify.specs.declared.breach.EntryFault.TheVariants.{VerNotReceived, FmidNotApplied}
use Rattle.smpe_verify.specs.declared.breach.EntryFault.TheVariants.{RequisiteNotSupplied, NpreApplied}
use Rattle.smpe_verify.specs.declared.breach.EntryFault.TheVariants.{DeletedInChain, SupbyNotApplied}
use Rattle.smpe_verify.specs.declared.breach.Level.{Level}
use Rattle.smpe_verify.specs.declared.breach.Level.TheVariants.{Fmid, Rmid, Umid}
use Rattle.smpe_verify.specs.declared.breach.ElementFault.{ElementFault}
use Rattle.smpe_verify.specs.declared.breach.ElementFault.TheVariants.{LevelNotApplied, NotReplacedBy}
use Rattle.smpe_verify.specs.declared.breach.ElementFault.TheVariants.{NotUpdatedBy, OtherOwner}
use Rattle.smpe_verify.specs.declared.breach.Breach.{Breach}
use Rattle.smpe_verify.specs.declared.breach.Breach.TheVariants.{OfEntry, OfElement}

-- x is applied, and breaks the rule; or an entry of x has an id in SUPBY that is not applied
abbrev pub EntryBreaks : Global → Choice → Zone → Id → EntryFault → Type 0
EntryBreaks g c zone x VerNotReceived = Contains (applied_ids zone) x × IsNone (c x)
EntryBreaks g c zone x (FmidNotApplied f) =
    Contains (applied_ids zone) x × (fmid_of c x ≡ Some f) × IsFalse (is_applied zone f)
EntryBreaks g c zone x (RequisiteNotSupplied z) =
    Contains (applied_ids zone) x × Contains (binding_ids c zone (is_applied zone) x) z × IsFalse (is_supplied zone z)
EntryBreaks g c zone x (NpreApplied y) =
    Contains (applied_ids zone) x × IsTrue (is_function g x) × Contains (npre_of c x) y × IsTrue (is_applied zone y)
EntryBreaks g c zone x (DeletedInChain y) =
    Contains (applied_ids zone) x × Contains (chain g c x) y × IsSome (delby_of zone y)
EntryBreaks g c zone x (SupbyNotApplied y) =
    (e : Entry) × Contains zone.entries e × (e.id ≡ x) × Contains e.supby y × IsFalse (is_applied zone y)

-- the FMID, the RMID or the UMIDs
abbrev pub ids_at : Element → Level → List Id
ids_at e Fmid = e.fmid ∷ []
ids_at e Rmid = e.rmid ∷ []
ids_at e Umid = e.umids

abbrev pub ElementBreaks : Global → Choice → Zone → Element → ElementFault → Type 0
ElementBreaks g c zone e (LevelNotApplied level x) = Contains (ids_at e level) x × IsFalse (is_applied zone x)
ElementBreaks g c zone e (NotReplacedBy x) =
    (x ≡ e.rmid) × IsFalse (has_replacement g e.rmid e.elem_type e.name)
ElementBreaks g c zone e (NotUpdatedBy x) = Contains e.umids x × IsFalse (has_update g x e.elem_type e.name)
ElementBreaks g c zone e (OtherOwner level x y) =
    Contains (ids_at e level) x × (y ≡ owner g c x) × (owner g c x ≢ e.fmid)

abbrev pub Breaks : Global → Choice → Zone → Breach → Type 0
Breaks g c zone (OfEntry x fault) = EntryBreaks g c zone x fault
Breaks g c zone (OfElement type name fault) =
    (e : Element) × Contains zone.elements e × (e.elem_type ≡ type) × (e.name ≡ name) × ElementBreaks g c zone e fault
