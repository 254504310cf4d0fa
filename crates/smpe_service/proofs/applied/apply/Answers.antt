use Rattle.std.proofs.Common.{◌≡◌, ◌+◌, ◌∙◌, List, Contains, ap, filter, map, refl, subst}
use Rattle.std.specs.Prelude.{◌↔◌, option_copied}
use Rattle.terms.specs.Types.{Text, Id, Global, Zone}
use Rattle.terms.specs.Choice.{place, counting}
use Rattle.terms.specs.Judged.{setting}
use Rattle.terms.specs.Lookups.{is_in}
use Rattle.terms.specs.Needs.{bypassed_ids}
use Rattle.terms.specs.Install.{HasInstalled, TakesEffect}
use Rattle.sysmods.specs.declared.ver_choice.VerChoice.{VerChoice}
use Rattle.sysmods.specs.Choices.{number_in, choice}
use Rattle.report.specs.Views.{line_view}
use Rattle.change.specs.Plans.{installation}
use Rattle.judge_system.specs.Views.{why_failed}
use Rattle.smpe_service.specs.Decided.{IsDecided}
use Rattle.change.specs.Together.{install_by}
use Rattle.smpe_service.specs.Statuses.{all_statuses, AreById}
use Rattle.smpe_service.proofs.Bypassed.{bypassed_kept}
use Rattle.smpe_service.proofs.Deciding.{is_decided}
use Rattle.smpe_service.proofs.Decisions.{decision, decides, install_lines}
use Rattle.smpe_service.proofs.applied.apply.Goals as goal
use Rattle.smpe_service.proofs.applied.apply.Goals.{In_ok-decided}

-- what is installed by the ++VERs that count is what is decided
installation_is : (g : Global) (zone : Zone) (ids kept : List Id) (date : Text) (vers : VerChoice)
    (pairs : List (Id × Id)) → vers.global.now ≡ g → choice vers ≡ counting g zone ids
    → number_in vers ≡ (λ x. place g zone ids x + 1)
    → install_by vers zone kept pairs date
    ≡ installation g (counting g zone ids) (λ x. place g zone ids x + 1) zone kept pairs date
installation_is g zone ids kept date vers pairs global chosen numbers =
    ap (λ h. installation h (choice vers) (number_in vers) zone kept pairs date) global
    ∙ ap (λ c. installation g c (number_in vers) zone kept pairs date) chosen
    ∙ ap (λ n. installation g (counting g zone ids) n zone kept pairs date) numbers

decided : (c : In_ok-decided) → IsDecided (setting c.args.global.now c.args.zone.now (option_copied c.args.related)
    c.in_ok-candidates.candidates.ids c.args.bypass.now) c.in_ok-decided.decided.kept
    (map why_failed c.in_ok-decided.decided.failed.items)
decided c =
    let solved = c.in_ok-decided.ensures in
    is_decided _ c.in_ok-judged.judged c.in_ok-judged.ensures.judged solved.flags solved.are_kept
    c.in_ok-decided.decided.kept c.in_ok-decided.decided.failed.items solved.decided

-- the bypassed requisites of the kept ones
abbrev pairs : In_ok-decided → List (Id × Id)
pairs c = filter (λ (p : Id × Id). is_in c.in_ok-decided.decided.kept p.0) c.in_ok-judged.judged.bypassed.items

bypassed : (c : In_ok-decided) (x z : Id) → Contains (pairs c) (x, z)
    ↔ (Contains c.in_ok-decided.decided.kept x × Contains (bypassed_ids (setting c.args.global.now c.args.zone.now
    (option_copied c.args.related) c.in_ok-candidates.candidates.ids c.args.bypass.now) x) z)
bypassed c =
    bypassed_kept _ c.in_ok-decided.decided.kept (map why_failed c.in_ok-decided.decided.failed.items) (decided c)
    c.in_ok-judged.judged.bypassed.items c.in_ok-judged.ensures.judged.bypassed (pairs c) refl

pub install_judged-requires : goal.install_judged-requires
install_judged-requires c =
    let solved = c.in_ok-decided.ensures in
    c.in_ok-judged.ensures.together c.in_ok-candidates.ensures.installable solved.flags
    c.in_ok-decided.decided.kept c.in_ok-decided.decided.failed.items solved.are_kept solved.decided

pub returns-clause-installs : goal.returns-clause-installs
returns-clause-installs c new changed =
    let at = (goal.at.returns-clause-installs c).In_ok-decided in
    let g = c.args.global.now in
    let zone = c.args.zone.now in
    let related = option_copied c.args.related in
    let sel = c.args.selection.now in
    let bypass = c.args.bypass.now in
    let judged = c.in_ok-judged in
    let candidates = c.in_ok-candidates in
    let ids = candidates.candidates.ids in
    let kept = c.in_ok-decided.decided.kept in
    let failed = map why_failed c.in_ok-decided.decided.failed.items in
    let effective = c.in_ok-delta.field-0.effective in
    let left_out = candidates.candidates.left_out.items in
    let lines : AreById g (all_statuses zone.kind effective kept failed left_out)
    (map line_view c.in_ok-lines.lines.items) =
    subst (λ all. AreById g all (map line_view c.in_ok-lines.lines.items))
    (ap (λ kind. all_statuses kind effective kept failed c.as_slice-left_out.result.now) c.kind.ensures
    ∙ ap (all_statuses zone.kind effective kept failed) c.as_slice-left_out.ensures.value) c.in_ok-lines.ensures in
    let are = candidates.ensures.members in
    let ok = candidates.ensures.installable in
    let same_install = installation_is g zone ids kept c.args.date judged.judged.vers (pairs at) judged.ensures.global
    judged.ensures.counting judged.ensures.numbers in
    let by = decided at in
    record {
      decision = decision g zone related sel bypass c.args.date ids kept failed are ok by (pairs at);
      decides = decides g zone related sel bypass c.args.date ids kept failed are ok by (pairs at) (bypassed at);
      lines_are = install_lines g zone related sel bypass c.args.date ids kept failed are ok by (pairs at) effective
          (subst (λ i. (x : Id) → Contains effective x ↔ TakesEffect i x) same_install c.in_ok-delta.ensures.effective)
          left_out candidates.ensures.rising candidates.ensures.left_out
          (map line_view c.in_ok-lines.lines.items) lines;
      installs = subst (λ i. HasInstalled i new) same_install (c.in_ok-delta.ensures.installs new changed);
    }
