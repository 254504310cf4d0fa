-- The holds outside SYSMODs, which are added file by file.
use Rattle.std.proofs.Common.{◌≡◌, List, [], ◌∷◌, ◌++◌, ◌∙◌, ap, ap₂, sym, map, append-nil, filter, not}
use Rattle.std.proofs.lemmas.List.{map-append}
use Rattle.std.proofs.lemmas.List.Concat.{flat_map-append}
use Rattle.std.proofs.lemmas.List.Elements.{filter-append}
use Rattle.intake_read.specs.Held.{held_places, is_fixcat}
use Rattle.intake_read.specs.declared.items.WideFile.{WideFile}
use Rattle.intake_read.specs.declared.items.WideHold.{WideHold}
use Rattle.intake_holds.specs.Outside.{AreCarried, AddsHoldsAt}
use Rattle.intake_holds.specs.declared.outside.OutsideHolds.{OutsideHolds}
use Rattle.intake_service.specs.Carrying.{held_in, HasHoldsOf}

places_append : (xs ys : List WideHold) → held_places (xs ++ ys) ≡ held_places xs ++ held_places ys
places_append xs ys =
    ap (map (λ h. h.place)) (filter-append (λ h. not (is_fixcat h)) xs ys)
    ∙ map-append (λ h. h.place) (filter (λ h. not (is_fixcat h)) xs) (filter (λ h. not (is_fixcat h)) ys)

pub held_none : (files : List WideFile) (held : OutsideHolds) → files ≡ [] → AreCarried [] held
    → HasHoldsOf files held
held_none files held e none = ([], sym (ap held_in e), none)

pub held_more : (old new : OutsideHolds) (files more : List WideFile) (file : WideFile) → more ≡ files ++ file ∷ []
    → HasHoldsOf files old → AddsHoldsAt file.held.items old new → HasHoldsOf more new
held_more old new files more file e so_far this = (
  so_far.0 ++ this.0,
  places_append so_far.0 this.0 ∙ ap₂ (λ u v. u ++ v) so_far.1 this.1
      ∙ sym (ap held_in e ∙ flat_map-append (λ (f : WideFile). f.held.items) files (file ∷ [])
      ∙ ap (λ l. held_in files ++ l) (append-nil file.held.items)),
  this.2 so_far.0 so_far.2,
)
