use Rattle.std.proofs.Common.{◌≡◌, sym, ap, ◌∙◌}
use Rattle.std.specs.List.{join_with_byte, concat}
use Rattle.terms.specs.Types.{Element}
use Rattle.store_schema.specs.Rows.{zelem_row}
use Rattle.zones_maps.specs.contracts.entries.Element.{the_view}
use Rattle.store_rows.proofs.Pieces.{flat_concat}
use Rattle.store_zones.proofs.RowForms.{element_bound}
use Rattle.store_zones.proofs.element.element_values.Goals as goal

pub returns : goal.returns
returns c =
    let e = the_view c.element.inside in
    let view : e ≡ c.args.element.now = c.element.view_is in
    let zone = c.args.zone.now in
    let umids : c.args.umids.now ≡ join_with_byte 44 e.umids =
    c.requires.umids ∙ sym (ap (λ (x : Element). join_with_byte 44 x.umids) view) in
    let text : c.args.text.now ≡ concat e.text = c.requires.text.bytes_are ∙ flat_concat c.args.element.now.text
    ∙ sym (ap (λ (x : Element). concat x.text) view) in
    element_bound c.as_bytes.result.now c.type_text.result.now c.as_bytes-2.result.now c.as_bytes-3.result.now
    c.as_bytes-4.result.now c.args.umids.now c.as_bytes-5.result.now c.as_bytes-6.result.now c.args.text.now zone e
    c.as_bytes.ensures.same c.type_text.ensures c.as_bytes-2.ensures.same c.as_bytes-3.ensures.same
    c.as_bytes-4.ensures.same umids c.as_bytes-5.ensures.same c.as_bytes-6.ensures.same text
    ∙ ap (zelem_row zone) view
