use Rattle.std.proofs.Common.{◌≡◌, sym, ap, ◌∙◌}
use Rattle.std.specs.List.{join_with_byte}
use Rattle.terms.specs.Types.{Entry}
use Rattle.store_schema.specs.Rows.{entry_row}
use Rattle.zones_maps.specs.contracts.entries.Entry.{the_view}
use Rattle.store_zones.proofs.RowForms.{entry_bound}
use Rattle.store_zones.proofs.entry.entry_values.Goals as goal

pub returns : goal.returns
returns c =
    let e = the_view c.entry.inside in
    let view : e ≡ c.args.entry.now = c.entry.view_is in
    let zone = c.args.zone.now in
    entry_bound c.as_bytes.result.now c.as_bytes-2.result.now c.args.supby.now c.args.waived.now
    c.date_value.result c.text_or_null.result zone e c.as_bytes.ensures.same c.as_bytes-2.ensures.same
    c.date_value.ensures (c.requires.supby ∙ sym (ap (λ (x : Entry). join_with_byte 44 x.supby) view))
    c.text_or_null.ensures (c.requires.waived ∙ sym (ap (λ (x : Entry). join_with_byte 44 x.waived) view))
    ∙ ap (entry_row zone) view
