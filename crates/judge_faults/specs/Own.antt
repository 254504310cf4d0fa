-- What a candidate fails by itself, as the code tests it.
use Rattle.std.specs.Prelude.{◌≡◌, ◌↔◌, ◌&&◌, Bool, false, not, List, ◌∷◌, Any, IsTrue, IsFalse, Option, Some}
use Rattle.std.specs.Prelude.{is_some}
use Rattle.std.specs.List.{list_any}
use Rattle.std.specs.Option.{option_map_or}
use Rattle.std.specs.Str.{bytes_eq}
use Rattle.terms.specs.declared.kinds.HoldKind.{HoldKind}
use Rattle.terms.specs.declared.kinds.HoldKind.TheVariants.{System, User}
use Rattle.terms.specs.Types.{Id, Change, Element, Global, Zone, is_distribution}
use Rattle.terms.specs.Lookups.{changes_of, element_of, holds_of, is_applied, is_in}
use Rattle.terms.specs.Choice.{Choice, fmid_of}
use Rattle.terms.specs.Over.{IsOver}
use Rattle.terms.specs.Changes.{is_replacement, has_replacement}
use Rattle.terms.specs.Tests.{Setting, view_of, owner_of, is_bypassed_hold, HasSeveralFit}
use Rattle.judge_faults.specs.declared.own.OwnFaults.{OwnFaults}
use Rattle.judge_faults.specs.Forbidders.{IsForbidden}

-- whether a hold of the kind keeps x off
abbrev pub has_unbypassed_hold : Setting → HoldKind → Id → Bool
has_unbypassed_hold s kind x = list_any (λ h. not (is_bypassed_hold s.bypass h)) (holds_of s.global kind x)

-- whether the statement is about an element of the view that has another owner
abbrev pub is_owned_by_another : Zone → Id → Change → Bool
is_owned_by_another zone owner h =
    option_map_or (λ e. not (bytes_eq e.fmid owner)) (element_of zone h.elem_type h.name) false

-- x is not over one of the SYSMODs that made the element
abbrev pub IsLower : Choice → Id → Element → Type 0
IsLower c x e = Any (λ z. ¬ IsOver c x z) (e.rmid ∷ e.umids)

-- the statement is about an element of the view that x is not over
abbrev pub IsLowerAt : Choice → Zone → Id → Change → Type 0
IsLowerAt c zone x h = (e : Element) × (element_of zone h.elem_type h.name ≡ Some e) × IsLower c x e

-- whether the function is a candidate that replaces the element of the statement
abbrev pub is_brought_along : Global → List Id → Option Id → Change → Bool
is_brought_along g cands fmid h =
    option_map_or (λ f. is_in cands f && has_replacement g f h.elem_type h.name) fmid false

-- whether the statement updates an element that the view lacks, and no base comes with it
abbrev pub has_nothing_to_update : Global → Zone → List Id → Option Id → Change → Bool
has_nothing_to_update g zone cands fmid h =
    not (is_replacement h.action) && not (is_some (element_of zone h.elem_type h.name))
    && not (is_brought_along g cands fmid h)

-- whether x is accepted, and no related target zone has applied it
abbrev pub fails_applycheck : Setting → Id → Bool
fails_applycheck s x =
    is_distribution s.zone.kind && not s.bypass.applycheck
    && not (option_map_or (λ target. is_applied target x) s.related false)

-- the tests of its own, each as the code tests it
pub record HasFaults (s : Setting) (x : Id) (a : OwnFaults) : Type 0 where
  pub held_by_system : a.held_by_system ≡ has_unbypassed_hold s System x
  pub held_by_user : a.held_by_user ≡ has_unbypassed_hold s User x
  pub forbidden_by_npre : IsTrue a.forbidden_by_npre ↔ IsForbidden s.global s.choice (view_of s x) x
  pub owned_by_another : a.owned_by_another
      ≡ list_any (is_owned_by_another (view_of s x) (owner_of s x)) (changes_of s.global x)
  pub regression : IsTrue a.regression
      ↔ (IsFalse s.bypass.same_id × Any (IsLowerAt s.choice (view_of s x) x) (changes_of s.global x))
  pub nothing_to_update : a.nothing_to_update
      ≡ list_any (has_nothing_to_update s.global (view_of s x) s.cands (fmid_of s.choice x)) (changes_of s.global x)
  pub not_in_target : a.not_in_target ≡ fails_applycheck s x
  pub several_fit : IsTrue a.several_fit ↔ HasSeveralFit s x

-- whether it passes all tests of its own
abbrev pub passes_alone : OwnFaults → Bool
passes_alone a =
    not a.held_by_system && not a.held_by_user && not a.forbidden_by_npre && not a.owned_by_another
    && not a.regression && not a.nothing_to_update && not a.not_in_target && not a.several_fit

-- whether it has none of its faults
abbrev pub passes : OwnFaults → Bool
passes a = passes_alone a && not a.chain_deleted
