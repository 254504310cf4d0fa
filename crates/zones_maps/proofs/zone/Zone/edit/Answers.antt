use Rattle.terms.specs.Lookups.{element_cmp, element_key}
use Rattle.terms.proofs.ElementOrder.{cmp_keys}
use Rattle.sorted.proofs.Editing.{edited_agree}
use Rattle.terms.specs.Types.{a_zone}
use Rattle.zones_maps.specs.Changed.{delta_of, changed_zone}
use Rattle.zones_maps.specs.Delta.{IsEdited}
use Rattle.zones_maps.proofs.Changing.{zone_changes}
use Rattle.zones_maps.proofs.zone.Zone.edit.Goals as goal

pub invariant_of-self : goal.invariant_of-self
invariant_of-self c =
    let z = c.self.inside in
    let old = a_zone z.kind z.srel z.related z.entries z.elements in
    let p = c.prepared.inside in
    let edits = delta_of (record { entries = p.entries; elements = p.elements }) in
    let is : IsEdited edits old (changed_zone edits old) = zone_changes edits old c.prepared.invariant
    c.self.invariant in
    rw (
      c.edit.ensures.items,
      c.edit-2.ensures.items,
      edited_agree _ element_cmp cmp_keys element_key p.elements.edits z.elements,
    ) is.is_zone

pub returns : goal.returns
returns c =
    let z = c.self.inside in
    let old = a_zone z.kind z.srel z.related z.entries z.elements in
    let p = c.prepared.inside in
    let edits = delta_of (record { entries = p.entries; elements = p.elements }) in
    let is : IsEdited edits old (changed_zone edits old) = zone_changes edits old c.prepared.invariant
    c.self.invariant in
    rw (
      ← c.self.view_is,
      ← c.prepared.view_is,
      c.edit.ensures.items,
      c.edit-2.ensures.items,
      edited_agree _ element_cmp cmp_keys element_key p.elements.edits z.elements,
    ) is
