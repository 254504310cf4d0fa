use Rattle.zones_maps.specs.Changed.{changed_zone}
use Rattle.zones_maps.proofs.Changing.{zone_changes}
use Rattle.smpe_why.proofs.told.install_lines.Goals as goal

pub returns : goal.returns
returns c =
    let zone = c.args.lookups.now.zone.now in
    let edits = c.in_ok-delta.field-0.delta.edits in
    let new = changed_zone edits zone in (
      c.new-date.result,
      new,
      c.in_ok-delta.ensures.installs new (zone_changes edits zone c.attest.ensures c.args.lookups.now.zone_is),
    )
