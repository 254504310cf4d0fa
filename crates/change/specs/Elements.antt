-- The elements that the SYSMODs of an install change.
use Rattle.std.specs.Prelude.{◌≡◌, ◌↔◌, ◌⊎◌, List, All, Contains, IsTrue, IsSome}
use Rattle.terms.specs.declared.kinds.ElemType.{ElemType}
use Rattle.terms.specs.Types.{Text, Id, Global, Element, Zone}
use Rattle.terms.specs.Lookups.{element_cmp, element_key, element_of, has_change}
use Rattle.terms.specs.Changes.{has_replacement}
use Rattle.terms.specs.Rising.{Rises}
use Rattle.terms.specs.Choice.{Choice}
use Rattle.terms.specs.Deleted.{zone_less}
use Rattle.terms.specs.Install.{Installation, TakesEffect, cleared, HasElementAfter}

-- an install in which these SYSMODs take effect on the zone less these deletions
pub record IsInstallOf (i : Installation) (g : Global) (c : Choice) (zone : Zone)
    (deletions effective : List Id) : Type 0
  where
    pub global : i.global ≡ g
    pub choice : i.choice ≡ c
    pub cleared_is : cleared i ≡ zone_less g c deletions zone
    pub members : (x : Id) → Contains effective x ↔ TakesEffect i x

-- The list has each element that the install changes once, as it is after the install, and no other one.
pub record AreElementsAfter (i : Installation) (es : List Element) : Type 0 where
  pub rising : Rises element_cmp element_key es
  pub changed : (x : Id) (type : ElemType) (name : Text) → TakesEffect i x → IsTrue (has_change i.global x type name)
      → (e : Element) × Contains es e × (element_key e ≡ (type, name))
  pub only : All (λ e. (x : Id) × TakesEffect i x × IsTrue (has_change i.global x e.elem_type e.name)) es
  pub after : All (λ e. HasElementAfter i e.elem_type e.name e) es

-- Each element that the install changes is in the zone less the deletions, or a SYSMOD that takes effect replaces it.
abbrev pub HasBases : Installation → Type 0
HasBases i =
    (x : Id) (type : ElemType) (name : Text) → TakesEffect i x → IsTrue (has_change i.global x type name)
    → IsSome (element_of (cleared i) type name)
    ⊎ ((y : Id) × TakesEffect i y × IsTrue (has_replacement i.global y type name))
