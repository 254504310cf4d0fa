-- Where the ids of the start are looked for.
use Rattle.std.proofs.Common.{◌≡◌, inl, inr, Bool, false, ◌||◌, List, map, filter}
use Rattle.std.proofs.Common.{Contains, IsTrue, sym, subst, ◌∙◌, true≢false, ◌↔◌}
use Rattle.std.proofs.lemmas.Bool.{and_parts, or_cases}
use Rattle.std.proofs.lemmas.List.Elements.{Contains-append_left, Contains-append_right}
use Rattle.terms.specs.Types.{Id, Selection}
use Rattle.terms.specs.Lookups.{is_in}
use Rattle.terms.specs.Candidates.{has_mass_choice}
use Rattle.terms.proofs.Ids.{Contains_from_is_in}
use Rattle.terms.proofs.GlobalLookups.{ver_received}
use Rattle.terms.proofs.ListMembers.{filter_in, in_filter}
use Rattle.select.specs.Scopes.{Selecting, is_open_in, is_mass_chosen_in, is_start_in, named_ids}
use Rattle.select.proofs.Opened.{open_parts}

named_of : (sel : Selection) (x : Id) → IsTrue (is_in sel.select x || is_in sel.group x) → Contains (named_ids sel) x
named_of sel x h = elim (or_cases (is_in sel.select x) (is_in sel.group x) h) [
  | inl s ↦ Contains-append_left sel.select sel.group x (Contains_from_is_in sel.select x s)
  | inr r ↦ Contains-append_right sel.select sel.group x (Contains_from_is_in sel.group x r)
]

module _ (scope : Selecting) (x : Id) (start : IsTrue (is_start_in scope x)) where
  abbrev is_named : Bool
  is_named = is_in scope.selection.select x || is_in scope.selection.group x

  parts : IsTrue (is_open_in scope x) × IsTrue (is_named || is_mass_chosen_in scope x)
  parts = and_parts (is_open_in scope x) (is_named || is_mass_chosen_in scope x) start

  -- what the start has is received
  pub start_received : Contains (map (λ s. s.id) scope.global.sysmods) x
  start_received = ver_received scope.global scope.zone.srel x (open_parts scope x parts.0).ver

  -- without a mass choice it is named
  pub start_named : has_mass_choice scope.selection ≡ false → Contains (named_ids scope.selection) x
  start_named none = elim (or_cases is_named (is_mass_chosen_in scope x) parts.1) [
    | inl named ↦ named_of scope.selection x named
    | inr mass ↦ absurd (true≢false (sym (and_parts (has_mass_choice scope.selection) _ mass).0 ∙ none))
  ]

-- The start is what is kept of ids among which it is.
pub start_members : (scope : Selecting) (ids start : List Id)
    → ((x : Id) → IsTrue (is_start_in scope x) → Contains ids x)
    → start ≡ filter (is_start_in scope) ids → (x : Id) → Contains start x ↔ IsTrue (is_start_in scope x)
start_members scope ids start among same x = (
  λ h. (filter_in (is_start_in scope) ids x (subst (λ xs. Contains xs x) same h)).1,
  λ h. subst (λ xs. Contains xs x) (sym same) (in_filter (is_start_in scope) ids x (among x h) h),
)
