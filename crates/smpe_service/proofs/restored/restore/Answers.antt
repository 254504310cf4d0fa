use Rattle.std.proofs.Common.{◌≡◌, ◌∙◌, ap, map, refl}
use Rattle.report.specs.Views.{line_view}
use Rattle.undo.specs.Scopes.{restoring_from}
use Rattle.smpe_service.specs.Lines.{line_in}
use Rattle.smpe_service.proofs.Listed.{listed_are}
use Rattle.smpe_service.proofs.RestoredStatuses.{failed_rises, kept_restored, restore_lines}
use Rattle.smpe_service.proofs.restored.restore.Goals as goal

pub decide_candidates-requires : goal.decide_candidates-requires
decide_candidates-requires c = (c.in_ok-candidates.ensures.listed, c.in_ok-candidates.ensures.ids)

pub listed_lines-requires : goal.listed_lines-requires
listed_lines-requires c =
    let has = c.in_ok-candidates.ensures in
    let decided = c.in_ok-decided.decided in
    failed_rises _ has.listed c.in_ok-candidates.candidates.ids has.are_listed.rising has.ids decided.kept
    decided.failed.items
    (c.in_ok-decided.ensures has.listed has.ids)

pub returns-clause-restores : goal.returns-clause-restores
returns-clause-restores c = λ new changed.
    let g = c.args.global.now in
    let r = restoring_from g c.args.zone.now c.args.accepted.now in
    let has = c.in_ok-candidates.ensures in
    let cands = c.in_ok-candidates.candidates.ids in
    let kept = c.in_ok-decided.decided.kept in
    let failed = c.in_ok-decided.decided.failed.items in
    let decided = c.in_ok-decided.ensures has.listed has.ids in
    let listed = c.in_ok-lines.ensures in
    let ids : listed.ids ≡ has.listed =
    listed_are r _ c.in_ok-candidates.candidates has listed.ids listed.rising listed.members in
    let lines = restore_lines r has.listed cands has.ids kept failed decided g refl
    (map line_view c.in_ok-lines.lines.items) (listed.lines_are ∙ ap (map (line_in g kept failed)) ids) in
    record {
      setting = r;
      setting_is = refl;
      ids = has.listed;
      listed = has.are_listed;
      kept = kept;
      rising = decided.rising;
      members = kept_restored r has.listed cands has.ids kept failed decided;
      restores = c.in_ok-delta.ensures.restores r
          (record { global = refl; zone_is = refl; accepted_is = refl }) new changed;
      status = lines.status;
      lines_are = lines.lines_are;
      each = lines.each;
    }
