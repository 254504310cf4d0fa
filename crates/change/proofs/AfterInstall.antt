-- Whatever zone the edits make of the old one is the one that the install asks for.
use Rattle.std.proofs.Common.{◌≡◌, ◌∙◌, List, [], refl, sym, ap, All}
use Rattle.std.specs.Prelude.{find}
use Rattle.std.specs.Option.{option_map_or}
use Rattle.std.specs.Str.{bytes_eq}
use Rattle.terms.specs.declared.kinds.ElemType.{ElemType}
use Rattle.terms.specs.Types.{Text, Id, Element, Zone}
use Rattle.terms.specs.Lookups.{IsRising, IsZone, entry_of, element_of}
use Rattle.terms.specs.Global.{IsGlobal}
use Rattle.zones_maps.specs.Delta.{ZoneEdits, IsEdited}
use Rattle.sorted.specs.Edits.{edit_key, edit_put}
use Rattle.terms.specs.Install.{Installation, cleared, HasInstalled}
use Rattle.sysmods.specs.Choices.{number_in}
use Rattle.change.specs.declared.deleting.Deleting.{Deleting}
use Rattle.change.specs.declared.plan.Plan.{Plan}
use Rattle.change.specs.Deleting.{AreDeletions, choice_of}
use Rattle.change.specs.Plans.{installation, IsPlan}
use Rattle.change.specs.Entries.{entry_after, HasPutEntries}
use Rattle.zones_maps.specs.Differing.{ElementEdit, HasEditedElements, element_after}
use Rattle.change.specs.Elements.{AreElementsAfter}
use Rattle.change.specs.Puts.{less_elements, with_elements}
use Rattle.change.proofs.AfterElements.{element_changed, element_unchanged}
use Rattle.change.proofs.AfterEntries as entries
use Rattle.change.proofs.Removed.{removed_at}

module _ (d : Deleting) (bypassed : List (Id × Id)) (date : Text) (is_global : IsGlobal d.left.vers.now.global.now)
    (is_zone : IsZone d.left.zone.now) (lists : All (λ e. IsRising e.supby × IsRising e.waived) d.left.zone.now.entries)
    (dels : AreDeletions d) where
  abbrev i : Installation
  i = installation d.left.vers.now.global.now (choice_of d) (number_in d.left.vers.now) d.left.zone.now d.kept.now
      bypassed date

  pub installs : (p : Plan) (start between zone_edits : ZoneEdits) (edits : List ElementEdit) (es : List Element)
      → IsPlan i d.left.dels.now p → HasPutEntries d p p.touched start between → AreElementsAfter i es
      → edits ≡ with_elements (less_elements d [] d.left.zone.now.elements) es
      → HasEditedElements d.left.zone.now edits between zone_edits
      → (new : Zone) → IsEdited zone_edits d.left.zone.now new → HasInstalled i new
  installs p start between zone_edits edits es plan put after is done new changed =
      let zone : Zone = d.left.zone.now in
      let less : List ElementEdit = less_elements d [] zone.elements in
      let at_entry : (x : Id) → entry_of new x ≡ entry_after between zone x =
      λ x. changed.entries x
      ∙ ap (λ es. option_map_or edit_put (find (λ e. bytes_eq (edit_key (λ e. e.id) e) x) es) (entry_of zone x))
      done.entries in
      let at_element : (type : ElemType) (name : Text)
      → element_after less zone (type, name) ≡ element_of (cleared i) type name =
      λ type name. removed_at d is_zone type name [] refl
      ∙ ap (λ z. element_of z type name)
      (sym (entries.cleared_is d bypassed date is_global is_zone lists dels)) in
      let at_key : (type : ElemType) (name : Text)
      → element_of new type name ≡ element_after (with_elements less es) zone (type, name) =
      λ type name. changed.elements type name ∙ done.leaves (type, name)
      ∙ ap (λ v. element_after v zone (type, name)) is in
      record {
        rest = changed.rest;
        is_zone = changed.is_zone;
        applied = entries.applied d bypassed date is_global is_zone lists dels p plan start between
            put new at_entry;
        not_applied = entries.not_applied d bypassed date is_global is_zone lists dels p plan start between
            put new at_entry;
        supby_rising = entries.supby_rising d bypassed date is_global is_zone lists dels p plan start between
            put new at_entry;
        supby = entries.supby d bypassed date is_global is_zone lists dels p plan start between
            put new at_entry;
        delby = entries.delby d bypassed date is_global is_zone lists dels p plan start between
            put new at_entry;
        waived_rising = entries.waived_rising d bypassed date is_global is_zone lists dels p plan start between
            put new at_entry;
        waived = entries.waived d bypassed date is_global is_zone lists dels p plan start between
            put new at_entry;
        not_waived = entries.not_waived d bypassed date is_global is_zone lists dels p plan start between
            put new at_entry;
        changed = element_changed i zone es after less at_element new at_key;
        unchanged = element_unchanged i zone es after less at_element new at_key;
      }
