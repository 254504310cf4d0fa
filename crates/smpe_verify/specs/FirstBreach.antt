-- The first rule of a closed zone that a zone breaks: entries rising by id, then elements by type and name, and for
-- each the rules in the order of `IsClosedZone`. That a text has the form of its type is no rule here: every element
-- has it.
use Rattle.std.specs.Prelude.{Bool, not, List, [], ◌∷◌, Option, None, Some, find, is_some, option_map, if◌then◌else◌}
use Rattle.std.specs.Option.{option_or}
use Rattle.std.specs.Str.{bytes_eq}
use Rattle.terms.specs.Types.{Id, Entry, Element, Global, Zone}
use Rattle.terms.specs.Lookups.{at_most_one, delby_of, is_applied, is_function, is_supplied}
use Rattle.terms.specs.Choice.{Choice, fmid_of, npre_of}
use Rattle.terms.specs.Over.{chain, owner}
use Rattle.terms.specs.Changes.{has_replacement, has_update}
use Rattle.terms.specs.Needs.{binding_ids}
use Rattle.smpe_verify.specs.declared.breach.EntryFault.{EntryFault}
use Rattle.smpe_verify.specs.declared.breach.EntryFault.TheVariants.{VerNotReceived, FmidNotApplied}
use Rattle.smpe_verify.specs.declared.breach.EntryFault.TheVariants.{RequisiteNotSupplied, NpreApplied}
use Rattle.smpe_verify.specs.declared.breach.EntryFault.TheVariants.{DeletedInChain, SupbyNotApplied}
use Rattle.smpe_verify.specs.declared.breach.Level.{Level}
use Rattle.smpe_verify.specs.declared.breach.Level.TheVariants.{Fmid, Rmid, Umid}
use Rattle.smpe_verify.specs.declared.breach.ElementFault.{ElementFault}
use Rattle.smpe_verify.specs.declared.breach.ElementFault.TheVariants.{LevelNotApplied, NotReplacedBy}
use Rattle.smpe_verify.specs.declared.breach.ElementFault.TheVariants.{NotUpdatedBy, OtherOwner}
use Rattle.smpe_verify.specs.declared.breach.Breach.{Breach}
use Rattle.smpe_verify.specs.declared.breach.Breach.TheVariants.{OfEntry, OfElement}

-- the first of the values, if there is one
abbrev pub first : {X : Type 0} → List (Option X) → Option X
first [] = None
first (x ∷ xs) = option_or x (first xs)

-- what the first item that has it has
abbrev pub first_of : {X Y : Type 0} → (X → Option Y) → List X → Option Y
first_of f [] = None
first_of f (x ∷ xs) = option_or (f x) (first_of f xs)

abbrev pub none_or : {X : Type 0} → X → Bool → Option X
none_or x holds = if holds then None else Some x

-- the first id in the list that is not applied, or not supplied
abbrev pub not_applied : Zone → List Id → Option Id
not_applied zone ids = find (λ x. not (is_applied zone x)) ids

abbrev pub not_supplied : Zone → List Id → Option Id
not_supplied zone ids = find (λ z. not (is_supplied zone z)) ids

-- the first that is applied, or deleted
abbrev pub applied_in : Zone → List Id → Option Id
applied_in zone ids = find (is_applied zone) ids

abbrev pub deleted_in : Zone → List Id → Option Id
deleted_in zone ids = find (λ y. is_some (delby_of zone y)) ids

-- IsSupported
abbrev pub support_fault : Choice → Zone → Id → Option EntryFault
support_fault c zone x = first (
    none_or VerNotReceived (is_some (c x))
    ∷ option_map FmidNotApplied (not_applied zone (at_most_one (fmid_of c x)))
    ∷ option_map RequisiteNotSupplied (not_supplied zone (binding_ids c zone (is_applied zone) x))
    ∷ [])

-- IsAtPeace
abbrev pub npre_or_chain_fault : Global → Choice → Zone → Id → Option EntryFault
npre_or_chain_fault g c zone x = first (
    option_map NpreApplied (if is_function g x then applied_in zone (npre_of c x) else None)
    ∷ option_map DeletedInChain (deleted_in zone (chain g c x))
    ∷ [])

-- the first fault of an applied SYSMOD
abbrev pub applied_fault : Global → Choice → Zone → Id → Option EntryFault
applied_fault g c zone x = option_or (support_fault c zone x) (npre_or_chain_fault g c zone x)

-- the first fault of an entry
abbrev pub entry_fault : Global → Choice → Zone → Entry → Option EntryFault
entry_fault g c zone e = option_or
    (if is_some e.applied then applied_fault g c zone e.id else None)
    (option_map SupbyNotApplied (not_applied zone e.supby))

-- the first id in the list whose elements belong to another function than this one
abbrev pub other_owner_fault : Global → Choice → Id → Level → List Id → Option ElementFault
other_owner_fault g c fmid level ids =
    option_map (λ x. OtherOwner level x (owner g c x)) (find (λ x. not (bytes_eq (owner g c x) fmid)) ids)

-- IsOwned, clause by clause
abbrev pub level_fault : Zone → Element → Option ElementFault
level_fault zone e = first (
    option_map (LevelNotApplied Fmid) (not_applied zone (e.fmid ∷ []))
    ∷ option_map (LevelNotApplied Rmid) (not_applied zone (e.rmid ∷ []))
    ∷ option_map (LevelNotApplied Umid) (not_applied zone e.umids)
    ∷ [])

abbrev pub change_fault : Global → Element → Option ElementFault
change_fault g e = first (
    none_or (NotReplacedBy e.rmid) (has_replacement g e.rmid e.elem_type e.name)
    ∷ option_map NotUpdatedBy (find (λ x. not (has_update g x e.elem_type e.name)) e.umids)
    ∷ [])

abbrev pub owner_fault : Global → Choice → Element → Option ElementFault
owner_fault g c e = first (
    other_owner_fault g c e.fmid Fmid (e.fmid ∷ [])
    ∷ other_owner_fault g c e.fmid Rmid (e.rmid ∷ [])
    ∷ other_owner_fault g c e.fmid Umid e.umids
    ∷ [])

-- the first fault of an element
abbrev pub element_fault : Global → Choice → Zone → Element → Option ElementFault
element_fault g c zone e = first (level_fault zone e ∷ change_fault g e ∷ owner_fault g c e ∷ [])

abbrev pub entry_breach : Global → Choice → Zone → Entry → Option Breach
entry_breach g c zone e = option_map (OfEntry e.id) (entry_fault g c zone e)

abbrev pub element_breach : Global → Choice → Zone → Element → Option Breach
element_breach g c zone e = option_map (OfElement e.elem_type e.name) (element_fault g c zone e)

-- the first breach of the zone
abbrev pub first_breach : Global → Choice → Zone → Option Breach
first_breach g c zone =
    option_or (first_of (entry_breach g c zone) zone.entries) (first_of (element_breach g c zone) zone.elements)
