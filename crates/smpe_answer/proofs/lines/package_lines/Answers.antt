use Rattle.std.proofs.Common.{map, subst}
use Rattle.std.specs.Prelude.{option_copied}
use Rattle.terms.specs.CommandForms.{no_bypass}
use Rattle.terms.specs.Types.{Bypass, Selection}
use Rattle.machine.specs.Installing.{InstallsSelected}
use Rattle.report.specs.Views.{line_view}
use Rattle.zones_maps.specs.Changed.{changed_zone}
use Rattle.zones_maps.proofs.Changing.{zone_changes}
use Rattle.smpe_answer.proofs.lines.package_lines.Goals as goal

pub returns : goal.returns
returns c =
    let zone = c.args.zone.now in
    let related = option_copied c.args.related in
    let edits = c.in_ok-delta.field-0.delta.edits in
    let lines = map line_view c.in_ok-delta.field-0.lines.items in
    let new = changed_zone edits zone in (
      c.new-date.result,
      new,
      subst (λ (chosen : Selection). InstallsSelected c.args.global.now zone related chosen no_bypass c.new-date.result
          new lines) c.in_ok-selection.ensures
          (subst (λ (bypass : Bypass). InstallsSelected c.args.global.now zone related c.in_ok-selection.selection
          bypass c.new-date.result new lines) c.none-bypass.ensures
          (c.in_ok-delta.ensures.installs new (zone_changes edits zone c.attest.ensures c.attest-2.ensures))),
    )
