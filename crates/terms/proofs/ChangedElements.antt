-- The statements of a SYSMOD, and the elements that it changes.
use Rattle.std.proofs.Common.{◌≡◌, ◌∙◌, true, Option, None, Some, is_some}
use Rattle.std.proofs.Common.{refl, sym, ap, subst, eq-eqb, Contains, IsTrue, true≢false}
use Rattle.std.specs.Prelude.{◌==◌, ◌&&◌}
use Rattle.std.specs.Str.{bytes_eq}
use Rattle.std.proofs.lemmas.Bool.{and_parts, eqb-true}
use Rattle.terms.proofs.Searches.{find_gives, find_some}
use Rattle.terms.proofs.ListMembers.{in_map}
use Rattle.terms.proofs.TextOrder.{same_from, same_itself}
use Rattle.terms.specs.declared.kinds.ElemType.{ElemType}
use Rattle.terms.specs.Types.{Text, Id, Change, Global, type_number}
use Rattle.terms.specs.Lookups.{changes_of, change_of, has_change}
use Rattle.terms.proofs.ElementOrder.{type_from_number}
use Rattle.std.proofs.Common.{map, ap₂}
use Rattle.std.specs.Option.{option_map_or}
use Rattle.terms.specs.Lookups.{change_key}
use Rattle.terms.specs.Changes.{has_replacement, is_replacement}
use Rattle.std.proofs.Common.{arith, not, []}
use Rattle.terms.proofs.Options.{is_some_if}
use Rattle.terms.proofs.Searches.{All_find}
use Rattle.terms.specs.Types.{Sysmod}
use Rattle.terms.specs.Lookups.{sysmod_of, element_cmp}
use Rattle.terms.specs.Rising.{Rises}
use Rattle.terms.specs.Changes.{has_update}
use Rattle.terms.specs.Global.{IsGlobal, IsSysmod}

-- the statement that is found is one about the element
pub change_there : (g : Global) (x : Id) (type : ElemType) (name : Text) (h : Change) → change_of g x type name ≡ Some h
    → Contains (changes_of g x) h × (h.elem_type ≡ type) × (h.name ≡ name)
change_there g x type name h e =
    let found = find_gives (λ h. (type_number h.elem_type == type_number type) && bytes_eq h.name name) (changes_of g x)
    h e in
    let parts = and_parts (type_number h.elem_type == type_number type) (bytes_eq h.name name) found.0 in (
      found.1,
      type_from_number h.elem_type type (eqb-true (type_number h.elem_type) (type_number type) parts.0),
      same_from h.name name parts.1,
    )

-- a change of an element is one of its statements
pub change_found : (g : Global) (x : Id) (type : ElemType) (name : Text) → IsTrue (has_change g x type name)
    → (h : Change) × Contains (changes_of g x) h × (h.elem_type ≡ type) × (h.name ≡ name)
change_found g x type name has = by (change_of g x type name) refl
  where
    by : (o : Option Change) → change_of g x type name ≡ o → (h : Change) × Contains (changes_of g x) h
        × (h.elem_type ≡ type) × (h.name ≡ name)
    by None e = absurd (true≢false (sym has ∙ ap is_some e))
    by (Some h) e = let t = change_there g x type name h e in (h, t.0, t.1, t.2)

-- and each of its statements is a change
pub change_has : (g : Global) (x : Id) (h : Change) → Contains (changes_of g x) h
    → IsTrue (has_change g x h.elem_type h.name)
change_has g x h of =
    find_some (λ k. (type_number k.elem_type == type_number h.elem_type) && bytes_eq k.name h.name) (changes_of g x) h of
    (ap (λ b. b && bytes_eq h.name h.name) (eqb_itself (type_number h.elem_type)) ∙ same_itself h.name)
  where
    eqb_itself : (n : _) → (n == n) ≡ true
    eqb_itself n = eq-eqb n n refl

-- the key of a change is that of a statement
pub changes_to : (g : Global) (x : Id) (type : ElemType) (name : Text) → IsTrue (has_change g x type name)
    → Contains (map change_key (changes_of g x)) (type, name)
changes_to g x type name has =
    let found = change_found g x type name has in
    subst (Contains (map change_key (changes_of g x))) (ap₂ (λ t m. (t, m)) found.2 found.3)
    (in_map change_key (changes_of g x) found.0 found.1)

-- what replaces or updates an element changes it
pub replaces_changes : (g : Global) (x : Id) (type : ElemType) (name : Text) → IsTrue (has_replacement g x type name)
    → IsTrue (has_change g x type name)
replaces_changes g x type name = is_some_if (λ h. is_replacement h.action) (change_of g x type name)

pub update_changes : (g : Global) (x : Id) (type : ElemType) (name : Text) → IsTrue (has_update g x type name)
    → IsTrue (has_change g x type name)
update_changes g x type name = is_some_if (λ h. not (is_replacement h.action)) (change_of g x type name)

-- the statements of a received SYSMOD are in order
pub changes_rise : (g : Global) (x : Id) → IsGlobal g → Rises element_cmp change_key (changes_of g x)
changes_rise g x is_global = by (sysmod_of g x) refl
  where
    by : (o : Option Sysmod) → sysmod_of g x ≡ o → Rises element_cmp change_key (option_map_or (λ s. s.changes) o [])
    by None at = λ i j d less below. absurd (omega (arith, below))
    by (Some s) at = (All_find IsSysmod (λ s. bytes_eq s.id x) g.sysmods s is_global.formed at).changes
