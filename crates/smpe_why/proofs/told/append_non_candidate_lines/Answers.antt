use Rattle.std.proofs.Common.{◌≡◌, ◌∙◌, ◌+◌, ap, map, refl, subst, sym}
use Rattle.std.proofs.lemmas.Result.{IfOk-weaker}
use Rattle.terms.specs.Choice.{place}
use Rattle.terms.specs.Tests.{Setting}
use Rattle.sysmods.specs.Choices.{choice}
use Rattle.report.specs.Views.{line_view}
use Rattle.report.specs.Facts.{with_id}
use Rattle.smpe_why.specs.Telling.{IsToldOf}
use Rattle.smpe_why.proofs.Parts.{setting_is}
use Rattle.smpe_why.proofs.told.append_non_candidate_lines.Goals as goal

pub append_candidate_lines-requires-clause-global : goal.append_candidate_lines-requires-clause-global
append_candidate_lines-requires-clause-global c = c.in_ok-vers.ensures.global

pub append_candidate_lines-requires-clause-srel : goal.append_candidate_lines-requires-clause-srel
append_candidate_lines-requires-clause-srel c = c.in_ok-vers.ensures.srel

pub append_candidate_lines-requires-clause-number : goal.append_candidate_lines-requires-clause-number
append_candidate_lines-requires-clause-number c =
    ap (λ number. number c.args.id) c.in_ok-vers.ensures.numbers
    ∙ ap (λ g. place g c.args.lookups.now.zone.now c.insert.new.self c.args.id + 1) (sym c.in_ok-vers.ensures.global)

pub returns : goal.returns
returns c =
    let g = c.args.lookups.now.global.now in
    let zone = c.args.lookups.now.zone.now in
    let cands = c.args.scope.now.ids.now in
    let bypass = c.args.scope.now.bypass.now in
    let x = c.args.id in
    let list : c.insert.new.self ≡ with_id cands x =
    c.in_ok-insert.ensures.ok ∙ ap (λ l. with_id l x) c.in_ok-ids.ensures in
    let same = setting_is g zone cands bypass x c.in_ok-vers.vers.global.now (choice c.in_ok-vers.vers) zone
    c.insert.new.self c.in_ok-vers.ensures.global refl c.in_ok-vers.ensures.counting list in
    IfOk-weaker c.append_candidate_lines.result _ _ (λ done is. (
      is.0,
      is.1,
      subst (λ (s : Setting). IsToldOf s (map line_view c.args.lines.now) x is.0 is.1) same is.2,
      is.3,
      is.4,
    )) c.append_candidate_lines.ensures
