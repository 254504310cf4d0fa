use Rattle.std.proofs.Common.{◌≡◌, ◌∙◌, ap, rules}
use Rattle.std.specs.Prelude.{option_map}
use Rattle.zones_maps.specs.contracts.entries.Entry.{the_view}
use Rattle.machine.specs.Report.{entry_text, optional_text}
use Rattle.report.proofs.Listings.{words_of_entry}
use Rattle.report.proofs.zone_lines.entry_words.Goals as goal

pub returns : goal.returns
returns c =
    let delby : option_map (λ t. t.now) c.map.result ≡ c.entry.inside.delby = search rules in
    words_of_entry c.args.kind (the_view c.entry.inside) c.as_bytes.ensures.same c.as_slice.ensures.items
    (ap optional_text delby) c.as_slice-2.ensures.items
    ∙ ap (entry_text c.args.kind) c.entry.view_is
