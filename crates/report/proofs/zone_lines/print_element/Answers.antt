use Rattle.std.proofs.Common.{◌++◌, ◌∙◌, append-nil, ap, refl, subst, sym, take, take_all}
use Rattle.std.specs.List.{flat_map}
use Rattle.std.proofs.lemmas.List.Folds.{flat_map-map}
use Rattle.terms.specs.Types.{Element}
use Rattle.machine.specs.Outcome.{ElementLine, TextLine, row_of}
use Rattle.machine.specs.Report.{line_text}
use Rattle.report.specs.Paged.{Paged}
use Rattle.report.proofs.Paging.{paged_then, paged_as}
use Rattle.report.proofs.Texts.{flat_map_more}
use Rattle.report.proofs.zone_lines.print_element.Given.{Over}
use Rattle.report.proofs.zone_lines.print_element.Goals.{After-print_words}
use Rattle.report.proofs.zone_lines.print_element.Goals as goal

-- the line of the element
line : (g : Over) (c : After-print_words g)
    → Paged g.W.Sink c.args.page.now c.print_words.new.page (line_text (ElementLine (row_of c.args.element.now)))
line g c =
    subst (λ (x : Element). Paged g.W.Sink c.args.page.now c.print_words.new.page (line_text (ElementLine (row_of x))))
    c.element.view_is
    (paged_as _ _ _ _ _ _
    (rw (
      c.type_text.ensures,
      c.as_bytes.ensures.same,
      c.as_bytes-2.ensures.same,
      c.as_bytes-3.ensures.same,
      c.as_slice.ensures.items,
      c.as_bytes-4.ensures.same,
      c.as_bytes-5.ensures.same,
    ) refl) c.print_words.ensures.paged)

pub loop-record-preserved : goal.loop-record-preserved
loop-record-preserved g c =
    let records = c.as_slice-record-items.result.now in
    paged_as _ _ _ _ _ _
    (ap (λ t. flat_map (λ r. line_text (TextLine r)) (take c.loop-record.record-index records)
    ++ line_text (TextLine t)) (c.bytes.ensures.bytes ∙ c.record-item.is)
    ∙ flat_map_more (λ r. line_text (TextLine r)) records c.loop-record.record-index c.record-item.result
    c.loop-record-test.true)
    (paged_then _ _ _ _ _ _ _ _ c.loop-record.invariant c.print_words-in-loop-record.ensures.paged)

pub returns-after-loop-record : goal.returns-after-loop-record
returns-after-loop-record g c =
    rw c.if-text.true
    (paged_then _ _ _ _ _ _ _ _ (line g (goal.at.returns-after-loop-record g c).After-print_words)
    (paged_as _ _ _ _ _ _
    (ap (flat_map (λ r. line_text (TextLine r)))
    (take_all _ c.as_slice-record-items.result.now c.loop-record-test.false ∙ c.as_slice-record-items.ensures.value
    ∙ ap (λ (e : Element). e.text) c.element.view_is)
    ∙ sym (flat_map-map line_text (λ r. TextLine r) c.args.element.now.text)) c.loop-record.invariant))

pub returns-else-text : goal.returns-else-text
returns-else-text g c =
    rw c.if-text.false
    (paged_as _ _ _ _ _ _ (sym (append-nil _)) (line g (goal.at.returns-else-text g c).After-print_words))
