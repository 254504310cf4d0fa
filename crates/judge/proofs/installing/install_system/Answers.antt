use Rattle.std.proofs.Common.{◌≡◌, ◌∙◌, ap, List, sym, subst, subst₂}
use Rattle.std.proofs.lemmas.List.{length-map}
use Rattle.std.specs.Prelude.{option_copied}
use Rattle.terms.specs.Choice.{counting}
use Rattle.terms.specs.Judged.{setting}
use Rattle.terms.specs.Types.{Id}
use Rattle.sysmods.specs.declared.ver_choice.VerChoice.{VerChoice}
use Rattle.sysmods.specs.Choices.{choice, number_in}
use Rattle.sysmods.specs.Overs.{AreOver}
use Rattle.judge_system.specs.TestSets.{tests_of}
use Rattle.judge_system.proofs.Judging.{rows_of}
use Rattle.judge.specs.Installs.{IsInstallJudged}
use Rattle.judge.proofs.Chosen.{same_setting}
use Rattle.judge.proofs.SaidOf.{install_numbered}
use Rattle.judge.proofs.Together.{keeps_together}
use Rattle.judge.proofs.installing.install_system.Goals as goal
use Rattle.judge.proofs.installing.install_system.Goals.{In_ok-judged}

pub new-requires-clause-rows : goal.new-requires-clause-rows
new-requires-clause-rows c =
    let assessment = c.in_ok-assessment.field-0.assessment in
    sym (length-map assessment.tests.items tests_of)
    ∙ rows_of _ _ _ _ _ _ _ _ c.in_ok-assessment.ensures.assessment.are_judged

judged : (c : In_ok-judged) → IsInstallJudged (setting c.args.global.now c.args.zone.now
    (option_copied c.args.related) c.args.candidates.now.ids c.args.bypass.now) c.in_ok-judged.judged
judged c =
    let zone = c.args.zone.now in
    let related = option_copied c.args.related in
    let ids = c.args.candidates.now.ids in
    subst (λ s. IsInstallJudged s c.in_ok-judged.judged)
    (same_setting zone related ids c.args.bypass.now c.args.global.now c.in_ok-vers.vers.global.now
    (choice c.in_ok-vers.vers) c.in_ok-vers.ensures.global c.in_ok-vers.ensures.counting)
    (install_numbered _ c.in_ok-assessment.field-0.assessment c.in_ok-assessment.ensures.assessment
    (rw c.as_slice.ensures.items at c.as_slice.ensures.rising) c.in_ok-judged.judged
    c.in_ok-judged.ensures.numbered)

global : (c : In_ok-judged) → c.in_ok-judged.judged.vers.global.now ≡ c.args.global.now
global c = ap (λ (v : VerChoice). v.global.now) c.in_ok-judged.ensures.vers ∙ c.in_ok-vers.ensures.global

chosen : (c : In_ok-judged) → choice c.in_ok-judged.judged.vers
    ≡ counting c.args.global.now c.args.zone.now c.args.candidates.now.ids
chosen c = ap choice c.in_ok-judged.ensures.vers ∙ c.in_ok-vers.ensures.counting

are_over : (c : In_ok-judged) → AreOver (choice c.in_ok-judged.judged.vers) c.in_ok-judged.judged.overs
are_over c =
    subst₂ (λ (v : VerChoice) (known : List (Id × Id)). AreOver (choice v) known) (sym c.in_ok-judged.ensures.vers)
    (sym c.in_ok-judged.ensures.overs) c.in_ok-assessment.ensures.overs

pub returns-clause-judged : goal.returns-clause-judged
returns-clause-judged c = judged (goal.at.returns-clause-judged c).In_ok-judged

pub returns-clause-global : goal.returns-clause-global
returns-clause-global c = global (goal.at.returns-clause-global c).In_ok-judged

pub returns-clause-counting : goal.returns-clause-counting
returns-clause-counting c = chosen (goal.at.returns-clause-counting c).In_ok-judged

pub returns-clause-numbers : goal.returns-clause-numbers
returns-clause-numbers c = ap number_in c.in_ok-judged.ensures.vers ∙ c.in_ok-vers.ensures.numbers

pub returns-clause-overs : goal.returns-clause-overs
returns-clause-overs c = are_over (goal.at.returns-clause-overs c).In_ok-judged

pub returns-clause-together : goal.returns-clause-together
returns-clause-together c installable =
    let at = (goal.at.returns-clause-together c).In_ok-judged in
    keeps_together c.args.global.now c.args.zone.now (option_copied c.args.related) c.args.candidates.now.ids
    c.args.bypass.now installable c.attest-2.ensures c.attest.ensures c.in_ok-judged.judged (judged at) (global at)
    (chosen at) (are_over at)
