use Rattle.std.proofs.Common.{◌++◌, ◌∙◌, ap, map, sym, take, take_all}
use Rattle.std.specs.List.{flat_map}
use Rattle.std.proofs.lemmas.List.Concat.{flat_map-append}
use Rattle.std.proofs.lemmas.List.Folds.{flat_map-map}
use Rattle.machine.specs.Outcome.{EntryLine, element_lines}
use Rattle.machine.specs.Report.{line_text}
use Rattle.report.proofs.Paging.{paged_then, paged_as}
use Rattle.report.proofs.Texts.{flat_map_more}
use Rattle.report.proofs.Listings.{flat_map_flat_map}
use Rattle.report.proofs.zone_lines.print_zone.Goals as goal

pub loop-entry-preserved : goal.loop-entry-preserved
loop-entry-preserved g c =
    let kind = c.args.zone.now.kind in
    let entries = c.entries-entry-items.result.now in
    paged_as _ _ _ _ _ _
    (ap (λ k. flat_map (λ e. line_text (EntryLine kind e)) (take c.loop-entry.entry-index entries)
    ++ line_text (EntryLine k c.entry-item.result)) c.kind.ensures
    ∙ ap (λ e. flat_map (λ e. line_text (EntryLine kind e)) (take c.loop-entry.entry-index entries)
    ++ line_text (EntryLine kind e)) c.entry-item.is
    ∙ flat_map_more (λ e. line_text (EntryLine kind e)) entries c.loop-entry.entry-index c.entry-item.result
    c.loop-entry-test.true)
    (paged_then _ _ _ _ _ _ _ _ c.loop-entry.invariant
    (paged_as _ _ _ _ _ _ c.entry_words.ensures c.print_words.ensures.paged))

pub loop-element-preserved : goal.loop-element-preserved
loop-element-preserved g c =
    let text = c.args.text in
    let elements = c.elements-element-items.result.now in
    paged_as _ _ _ _ _ _
    (ap (λ e. flat_map (λ e. flat_map line_text (element_lines text e)) (take c.loop-element.element-index elements)
    ++ flat_map line_text (element_lines text e)) c.element-item.is
    ∙ flat_map_more (λ e. flat_map line_text (element_lines text e)) elements c.loop-element.element-index
    c.element-item.result c.loop-element-test.true)
    (paged_then _ _ _ _ _ _ _ _ c.loop-element.invariant c.print_element.ensures)

pub returns : goal.returns
returns g c =
    let z = c.args.zone.now in
    let entries = map (λ e. EntryLine z.kind e) z.entries in
    paged_as _ _ _ _ _ _
    (ap (λ t. flat_map line_text entries ++ t)
    (sym (flat_map_flat_map line_text (λ e. element_lines c.args.text e) z.elements))
    ∙ sym (flat_map-append line_text entries (flat_map (λ e. element_lines c.args.text e) z.elements)))
    (paged_then _ _ _ _ _ _ _ _
    (paged_as _ _ _ _ _ _
    (ap (flat_map (λ e. line_text (EntryLine z.kind e)))
    (take_all c.loop-entry.entry-index c.entries-entry-items.result.now c.loop-entry-test.false
    ∙ c.entries-entry-items.ensures.same)
    ∙ sym (flat_map-map line_text (λ e. EntryLine z.kind e) z.entries)) c.loop-entry.invariant)
    (paged_as _ _ _ _ _ _
    (ap (flat_map (λ e. flat_map line_text (element_lines c.args.text e)))
    (take_all c.loop-element.element-index c.elements-element-items.result.now c.loop-element-test.false
    ∙ c.elements-element-items.ensures)) c.loop-element.invariant))
