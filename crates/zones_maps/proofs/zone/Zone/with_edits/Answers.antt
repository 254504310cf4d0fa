use Rattle.terms.specs.Lookups.{element_cmp, element_key}
use Rattle.terms.proofs.ElementOrder.{cmp_keys}
use Rattle.sorted.proofs.Editing.{edited_agree}
use Rattle.terms.specs.Types.{a_zone}
use Rattle.zones_maps.specs.Changed.{changed_zone}
use Rattle.zones_maps.specs.Delta.{IsEdited}
use Rattle.zones_maps.proofs.Changing.{zone_changes}
use Rattle.zones_maps.proofs.zone.Zone.with_edits.Goals as goal

pub invariant_of-result : goal.invariant_of-result
invariant_of-result c =
    let z = c.self.inside in
    let old = a_zone z.kind z.srel z.related z.entries z.elements in
    let edits = c.args.edits.now in
    let is : IsEdited edits old (changed_zone edits old) = zone_changes edits old c.entry_edits.ensures.form
    c.self.invariant in
    rw (
      c.in_ok-edited.ensures.items,
      c.entry_edits.ensures.same,
      c.in_ok-edited-2.ensures.items,
      c.element_edits.ensures,
      edited_agree _ element_cmp cmp_keys element_key edits.elements z.elements,
    ) is.is_zone

pub returns : goal.returns
returns c =
    let z = c.self.inside in
    let old = a_zone z.kind z.srel z.related z.entries z.elements in
    let edits = c.args.edits.now in
    let is : IsEdited edits old (changed_zone edits old) = zone_changes edits old c.entry_edits.ensures.form
    c.self.invariant in
    rw (
      ← c.self.view_is,
      c.in_ok-edited.ensures.items,
      c.entry_edits.ensures.same,
      c.in_ok-edited-2.ensures.items,
      c.element_edits.ensures,
      edited_agree _ element_cmp cmp_keys element_key edits.elements z.elements,
    ) is
