-- Holds outside SYSMODs that are added one after the other.
use Rattle.std.proofs.Common.{◌≡◌, List, [], ◌++◌, Option, subst, sym, ap, ◌∙◌, append_assoc, append-nil, not, map}
use Rattle.std.proofs.Common.{filter}
use Rattle.std.specs.Prelude.{option_to_list}
use Rattle.std.proofs.lemmas.List.{map-append}
use Rattle.std.proofs.lemmas.List.Elements.{filter-append}
use Rattle.intake_cards.specs.declared.place.CardPlace.{CardPlace}
use Rattle.intake_read.specs.Held.{held_places, is_fixcat}
use Rattle.intake_read.specs.declared.items.WideHold.{WideHold}
use Rattle.intake_holds.specs.declared.outside.OutsideHolds.{OutsideHolds}
use Rattle.intake_holds.specs.Outside.{AreCarried, KeepsHolds, AddsHolds, AddsHoldsAt}

places_append : (xs ys : List WideHold) → held_places (xs ++ ys) ≡ held_places xs ++ held_places ys
places_append xs ys =
    ap (map (λ h. h.place)) (filter-append (λ h. not (is_fixcat h)) xs ys)
    ∙ map-append (λ h. h.place) (filter (λ h. not (is_fixcat h)) xs) (filter (λ h. not (is_fixcat h)) ys)

pub adds_none : (held : OutsideHolds) (places : List CardPlace) → places ≡ [] → AddsHoldsAt places held held
adds_none held places e =
    ([], sym e, λ before carried. subst (λ l. AreCarried l held) (sym (append-nil before)) carried)

pub adds_then : (old mid new : OutsideHolds) (hold : Option WideHold) (places after : List CardPlace)
    → after ≡ places ++ held_places (option_to_list hold) → AddsHolds (option_to_list hold) mid new
    → AddsHoldsAt places old mid → AddsHoldsAt after old new
adds_then old mid new hold places after e more so_far = (
  so_far.0 ++ option_to_list hold,
  places_append so_far.0 (option_to_list hold) ∙ ap (λ l. l ++ held_places (option_to_list hold)) so_far.1
      ∙ sym e,
  λ before carried.
      subst (λ l. AreCarried l new) (append_assoc before so_far.0 (option_to_list hold))
      (more (before ++ so_far.0) (so_far.2 before carried)),
)

pub adds_kept : (old mid new : OutsideHolds) (places after : List CardPlace) → after ≡ places
    → KeepsHolds mid new → AddsHoldsAt places old mid → AddsHoldsAt after old new
adds_kept old mid new places after e keeps so_far =
    (so_far.0, so_far.1 ∙ sym e, λ before carried. keeps (before ++ so_far.0) (so_far.2 before carried))
