use Rattle.std.proofs.Common.{◌∙◌, ap, map}
use Rattle.std.proofs.lemmas.List.{map-append}
use Rattle.mcs.specs.Files.{items}
use Rattle.mcs.specs.HoldItems.{items as hold_items}
use Rattle.report.specs.Views.{line_view}
use Rattle.smpe_session.proofs.Received.{both_taken}
use Rattle.smpe_session.proofs.receive.receive_found_items.Goals as goal

pub returns-clause-taken : goal.returns-clause-taken
returns-clause-taken c =
    let first = c.in_ok-edits.field-0 in
    let more = c.in_ok-from_holds.from_holds in
    both_taken c.args.source (items c.args.found.items.items) (hold_items c.args.found.holds.items) c.args.global.now _
    _ first.edits.items more.edits.items c.append.new.self.items
    (map line_view first.lines.items) (map line_view more.lines.items) (map line_view c.append-2.new.self.items)
    c.in_ok-edits.ensures.receives c.in_ok-from_holds.ensures.receives
    c.in_ok-edits.ensures.written c.in_ok-from_holds.ensures.written
    c.in_ok-edits.ensures.runs c.in_ok-edits.ensures.fits c.in_ok-edits.ensures.edits c.in_ok-from_holds.ensures.runs
    c.in_ok-from_holds.ensures.stays c.in_ok-from_holds.ensures.fits c.in_ok-from_holds.ensures.edits
    c.in_ok-append.ensures.items (ap (map line_view) c.in_ok-append-2.ensures.items
    ∙ map-append line_view first.lines.items more.lines.items)
