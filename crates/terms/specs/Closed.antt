-- What holds in each zone after every job, although no definition of a command says it.
use Rattle.std.specs.Prelude.{◌≡◌, List, [], ◌∷◌, All, IfSome, IsSome, IsNone, IsTrue, IsFalse}
use Rattle.terms.specs.Types.{Id, Global, Element, Zone, NamedZone}
use Rattle.terms.specs.Lookups.{is_function, is_applied, is_supplied, delby_of, applied_ids}
use Rattle.terms.specs.Choice.{Choice, counting, fmid_of, npre_of}
use Rattle.terms.specs.Over.{chain, owner}
use Rattle.terms.specs.Changes.{has_replacement, has_update}
use Rattle.terms.specs.Needs.{binding_ids}
use Rattle.terms.specs.Texts.{HasForm}

-- An applied SYSMOD is received with a ++VER that counts, its FMID is applied, and its requisites are supplied or
-- waived.
pub record IsSupported (c : Choice) (zone : Zone) (x : Id) : Type 0 where
  pub received : IsSome (c x)
  pub fmid : IfSome (fmid_of c x) (λ f. IsTrue (is_applied zone f))
  pub requisites : All (λ z. IsTrue (is_supplied zone z)) (binding_ids c zone (is_applied zone) x)

-- If it is a function, its NPRE names no applied SYSMOD, and nothing in its chain was deleted.
pub record IsAtPeace (g : Global) (c : Choice) (zone : Zone) (x : Id) : Type 0 where
  pub npre : IsTrue (is_function g x) → All (λ y. IsFalse (is_applied zone y)) (npre_of c x)
  pub chain : All (λ y. IsNone (delby_of zone y)) (chain g c x)

-- The FMID, RMID and UMIDs of an element are applied. Its RMID replaces it, its UMIDs update it, and its FMID owns all
-- of them.
pub record IsOwned (g : Global) (c : Choice) (zone : Zone) (e : Element) : Type 0 where
  pub applied : All (λ x. IsTrue (is_applied zone x)) (e.fmid ∷ e.rmid ∷ e.umids)
  pub rmid : IsTrue (has_replacement g e.rmid e.elem_type e.name)
  pub umids : All (λ x. IsTrue (has_update g x e.elem_type e.name)) e.umids
  pub owner : All (λ x. owner g c x ≡ e.fmid) (e.fmid ∷ e.rmid ∷ e.umids)
  pub text : HasForm e.elem_type e.text

-- a closed zone
pub record IsClosedZone (g : Global) (c : Choice) (zone : Zone) : Type 0 where
  pub supported : All (IsSupported c zone) (applied_ids zone)
  pub at_peace : All (IsAtPeace g c zone) (applied_ids zone)
  pub supby : All (λ e. All (λ y. IsTrue (is_applied zone y)) e.supby) zone.entries
  pub elements : All (IsOwned g c zone) zone.elements

-- All zones are closed, each by the ++VERs that count in it.
abbrev pub AreClosed : Global → List NamedZone → Type 0
AreClosed g zones = All (λ z. IsClosedZone g (counting g z.zone []) z.zone) zones
