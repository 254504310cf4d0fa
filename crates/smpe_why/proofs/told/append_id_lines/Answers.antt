use Rattle.std.proofs.Common.{◌∙◌, ◌+◌, ap, map, subst, sym}
use Rattle.std.proofs.lemmas.Result.{IfOk-weaker}
use Rattle.terms.specs.Choice.{place}
use Rattle.terms.specs.Tests.{Setting}
use Rattle.terms.specs.Types.{Zone}
use Rattle.terms.proofs.Ids.{Contains_from_is_in}
use Rattle.sysmods.specs.Choices.{choice}
use Rattle.report.specs.Views.{line_view}
use Rattle.smpe_why.specs.Telling.{IsToldOf}
use Rattle.smpe_why.proofs.Parts.{setting_is, with_candidate}
use Rattle.smpe_why.proofs.told.append_id_lines.Goals as goal

pub append_candidate_lines-requires-clause-global : goal.append_candidate_lines-requires-clause-global
append_candidate_lines-requires-clause-global c = c.requires.global_is

pub append_candidate_lines-requires-clause-zone : goal.append_candidate_lines-requires-clause-zone
append_candidate_lines-requires-clause-zone c = c.requires.zone_is

pub append_candidate_lines-requires-clause-srel : goal.append_candidate_lines-requires-clause-srel
append_candidate_lines-requires-clause-srel c = c.requires.srel_is ∙ ap (λ (z : Zone). z.srel) (sym c.requires.zone_is)

pub append_candidate_lines-requires-clause-number : goal.append_candidate_lines-requires-clause-number
append_candidate_lines-requires-clause-number c =
    let ids = c.args.scope.now.ids.now in
    ap (λ number. number c.args.id) c.requires.numbers_are
    ∙ ap (λ g. place g c.args.lookups.now.zone.now ids c.args.id + 1) (sym c.requires.global_is)
    ∙ ap (λ (z : Zone). place c.args.scope.now.vers.now.global.now z ids c.args.id + 1) (sym c.requires.zone_is)

pub returns-then-contains : goal.returns-then-contains
returns-then-contains c =
    let scope = c.args.scope.now in
    let x = c.args.id in
    let is = Contains_from_is_in scope.ids.now x (sym c.contains.ensures ∙ c.if-contains.true) in
    let same = setting_is c.args.lookups.now.global.now c.args.lookups.now.zone.now scope.ids.now scope.bypass.now x
    scope.vers.now.global.now (choice scope.vers.now) scope.zone.now scope.ids.now c.requires.global_is
    c.requires.zone_is c.requires.choice_is (sym (with_candidate scope.ids.now x c.requires.rising is)) in
    IfOk-weaker c.append_candidate_lines.result _ _ (λ done is. (
      is.0,
      is.1,
      subst (λ (s : Setting). IsToldOf s (map line_view c.args.lines.now) x is.0 is.1) same is.2,
      is.3,
      is.4,
    )) c.append_candidate_lines.ensures
