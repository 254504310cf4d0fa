-- The machine has one answer at most: from a state that can be stored each act leads to one state and one list of
-- outcomes, and so do lists of jobs, with one text and one list of answers.
use Rattle.std.proofs.Common.{◌≡◌, ℕ, Bool, List, [], ◌∷◌, ◌++◌, Option, None, Some, sym, ◌∙◌, ap, ap₂, subst}
use Rattle.std.proofs.Common.{inl, inr, map, if◌then◌else◌}
use Rattle.std.specs.List.{AllByRecursion, flat_map}
use Rattle.std.specs.Option.{option_and_then}
use Rattle.std.proofs.lemmas.Option.{same_Some}
use Rattle.terms.specs.Types.{Text, Id, Zone, Global, Install, RestoreList, Command, Set, Receive}
use Rattle.terms.specs.Types.{Reject, Apply, Accept, Restore, ListZone, Report}
use Rattle.machine.specs.Outcome.{Refusal, Outcome, Ran, Refused, header_of, or_nothing}
use Rattle.machine.specs.Outcome.{job_code}
use Rattle.machine.specs.Report.{text}
use Rattle.machine.specs.State.{State, zone_named, with_zone, target_of, misplaced}
use Rattle.machine.specs.Rejecting.{RejectsId}
use Rattle.machine.specs.Installing.{InstallsSelected}
use Rattle.machine.specs.Restoring.{RestoresListed}
use Rattle.machine.specs.Errsysmods.{AreErrsysmods}
use Rattle.machine.specs.Runs.{Runs}
use Rattle.machine.specs.Machine.{Files, Rejects, InstallsThere, RestoresThere, ReportsThere, RunsThere, Performs, Act}
use Rattle.machine.specs.Machine.{Begin, Perform, Faulty, Define, Steps, Job, RunFiles, NewZone, HasActs}
use Rattle.machine.specs.Machine.{Answer, Code, HasAnswer, RunsJob, RunsJobs}
use Rattle.terms.specs.Commands.{CntlFault}
use Rattle.machine_laws.specs.Storable.{IsStorable, HasActForms, HasJobForms}
use Rattle.machine_laws.proofs.StepForms.{step_storable, acts_formed, job_storable}
use Rattle.machine_laws.specs.Answers.{IsOnce}
use Rattle.machine_laws.proofs.RunsOnce.{every_run, runs_once}
use Rattle.machine_laws.proofs.FileAnswers.{command_file_once}
use Rattle.machine_laws.proofs.ReceiveAnswers.{takes_once}
use Rattle.machine_laws.proofs.ReportAnswers.{errsysmods_only}
use Rattle.machine_laws.proofs.InstallLines.{installs_only}
use Rattle.machine_laws.proofs.RestoreAnswers.{restores_only}

-- ---- REJECT and REPORT

rejected_once : (s : State) (g : Global) (x : Id) → IsOnce (RejectsId s.zones) g x
rejected_once s g x t u p q (new, lines) (new', lines') = (new ∙ sym new', lines ∙ sym lines')

rejects_once : (s : State) (ids : List Id) (t u : State) (p q : Outcome) → Rejects s ids t p → Rejects s ids u q
    → (t ≡ u) × (p ≡ q)
rejects_once s ids t u p q a b =
    let same = every_run (RejectsId s.zones) (rejected_once s) ids s.global a.new b.new a.lines b.lines a.runs b.runs
    in (
      a.state ∙ ap (λ g. record s { global = g }) same.0 ∙ sym b.state,
      a.prints ∙ ap (λ ls. Ran (header_of (Reject ids) s.boundary) ls) same.1 ∙ sym b.prints,
    )

reports_once : (s : State) (p q : Outcome) → ReportsThere s p → ReportsThere s q → p ≡ q
reports_once s p q a b =
    let zones : b.zone ≡ a.zone = same_Some b.zone a.zone (sym b.is_there ∙ a.is_there) in
    let lines = errsysmods_only s.global a.zone a.lines b.lines a.lines_are
    (subst (λ z. AreErrsysmods s.global z b.lines) zones b.lines_are) in
    a.prints ∙ ap (λ ls. Ran (header_of Report s.boundary) ls) lines ∙ sym b.prints

-- ---- APPLY, ACCEPT and RESTORE

install_once : (date : Text) (s : State) (c : Command) (i : Install) (related : Text → Option Zone) (t u : State)
    (p q : Outcome) → IsStorable s → InstallsThere date s c i related t p → InstallsThere date s c i related u q
    → (t ≡ u) × (p ≡ q)
install_once date s c i related t u p q is a b =
    let names : b.name ≡ a.name = same_Some b.name a.name (sym b.at ∙ a.at) in
    let zones : b.zone ≡ a.zone =
    same_Some b.zone a.zone (sym b.is_there ∙ ap (zone_named s.zones) names ∙ a.is_there) in
    let moved = subst (λ n. InstallsSelected s.global a.zone (related n) i.selection i.bypass date b.new b.lines)
    names (subst (λ z. InstallsSelected s.global z (related b.name) i.selection i.bypass date b.new b.lines) zones
    b.installs) in
    let same = installs_only s.global is.global a.zone (related a.name) i.selection i.bypass date a.new b.new a.lines
    b.lines a.installs moved in (
      a.state ∙ ap (λ z. if i.check then s else with_zone s a.name z) same.0
          ∙ ap (λ n. if i.check then s else with_zone s n b.new) (sym names) ∙ sym b.state,
      a.prints ∙ ap (λ ls. Ran (header_of c s.boundary) (or_nothing ls)) same.1 ∙ sym b.prints,
    )

restore_once : (s : State) (what : RestoreList) (check : Bool) (t u : State) (p q : Outcome)
    → RestoresThere s what check t p → RestoresThere s what check u q → (t ≡ u) × (p ≡ q)
restore_once s what check t u p q a b =
    let names : b.name ≡ a.name = same_Some b.name a.name (sym b.at ∙ a.at) in
    let zones : b.zone ≡ a.zone =
    same_Some b.zone a.zone (sym b.is_there ∙ ap (zone_named s.zones) names ∙ a.is_there) in
    let beside : b.accepted ≡ a.accepted =
    same_Some b.accepted a.accepted (sym b.related
    ∙ ap (λ (z : Zone). option_and_then (zone_named s.zones) z.related) zones ∙ a.related) in
    let moved = subst (λ y. RestoresListed s.global a.zone y what b.new b.lines) beside
    (subst (λ z. RestoresListed s.global z b.accepted what b.new b.lines) zones b.restores) in
    let same = restores_only s.global a.zone a.accepted what a.new b.new a.lines b.lines a.restores moved in (
      a.state ∙ ap (λ z. if check then s else with_zone s a.name z) same.0
          ∙ ap (λ n. if check then s else with_zone s n b.new) (sym names) ∙ sym b.state,
      a.prints ∙ ap (λ ls. Ran (header_of (Restore what check) s.boundary) ls) same.1 ∙ sym b.prints,
    )

-- ---- each command

run_once : (date : Text) (files : Files) (s : State) (c : Command) (t u : State) (p q : Outcome) → IsStorable s
    → RunsThere date files s c t p → RunsThere date files s c u q → (t ≡ u) × (p ≡ q)
run_once date files s (Set name) t u p q is a b = (a.0 ∙ sym b.0, a.1 ∙ sym b.1)
run_once date files s (Receive what) t u p q is a b = takes_once files s what t u p q a b
run_once date files s (Reject ids) t u p q is a b = rejects_once s ids t u p q a b
run_once date files s (Apply i) t u p q is a b =
    install_once date s (Apply i) i (λ name. None) t u p q is a b
run_once date files s (Accept i) t u p q is a b =
    install_once date s (Accept i) i (target_of s.zones) t u p q is a b
run_once date files s (Restore what check) t u p q is a b = restore_once s what check t u p q a b
run_once date files s (ListZone text) t u p q is a b = (a.0 ∙ sym b.0, a.1 ∙ sym b.1)
run_once date files s Report t u p q is a b = (a.0 ∙ sym b.0, reports_once s p q a.1 b.1)

refused_or_runs : {A : Type 0} (s : State) (c : Command) (why : Refusal) → misplaced s c ≡ Some why
    → misplaced s c ≡ None → A
refused_or_runs s c why at none = absurd (cc (at, none))

pub perform_once : (date : Text) (files : Files) (s : State) (c : Command) (t u : State) (p q : Outcome)
    → IsStorable s → Performs date files s c t p → Performs date files s c u q
    → (t ≡ u) × (p ≡ q)
perform_once date files s c t u p q is (inl (why, at, state, prints)) (inl (why', at', state', prints')) = (
  state ∙ sym state',
  prints ∙ ap (λ w. Refused (header_of c s.boundary) w) (same_Some why why' (sym at ∙ at')) ∙ sym prints',
)
perform_once date files s c t u p q is (inl (why, at, state, prints)) (inr (none, runs)) =
    refused_or_runs s c why at none
perform_once date files s c t u p q is (inr (none, runs)) (inl (why, at, state, prints)) =
    refused_or_runs s c why at none
perform_once date files s c t u p q is (inr (none, runs)) (inr (none', runs')) =
    run_once date files s c t u p q is runs runs'

-- A step leads to one state at most, with one list of outcomes.
pub steps_once : (s : State) (a : Act) → IsStorable s → HasActForms a → IsOnce Steps s a
steps_once s Begin is form t u p q (state, none) (state', none') = (state ∙ sym state', none ∙ sym none')
steps_once s (Perform date files c) is form t u p q (outcome, performs, are) (outcome', performs', are') =
    let same = perform_once date files s c t u outcome outcome' is performs performs' in
    (same.0, are ∙ ap (λ o. o ∷ []) same.1 ∙ sym are')
steps_once s (Faulty fault) is form t u p q (state, are) (state', are') = (state ∙ sym state', are ∙ sym are')
steps_once s (Define d) is form t u p q (state, none) (state', none') = (state ∙ sym state', none ∙ sym none')

-- So do the steps one after the other.
pub acts_once : (acts : List Act) (s : State) → IsStorable s → AllByRecursion HasActForms acts
    → IsOnce (Runs Steps) s acts
acts_once = runs_once Steps IsStorable HasActForms steps_once (λ s t a outcomes is form step.
    step_storable s t a outcomes is form step)

-- ---- jobs

faulty : CntlFault → Act
faulty fault = Faulty (record { number = fault.number; code = fault.code })

-- a job has one list of acts
pub acts_only : (job : Job) (xs ys : List Act) → HasActs job xs → HasActs job ys → xs ≡ ys
unfolding faulty
acts_only (RunFiles date cntl files) xs ys (inl (cs, is, are)) (inl (ds, is', are')) =
    are ∙ ap (λ cs. Begin ∷ map (Perform date files) cs) ((command_file_once cntl).items cs ds is is') ∙ sym are'
acts_only (RunFiles date cntl files) xs ys (inl (cs, is, are)) (inr (fault, at, are')) =
    absurd ((command_file_once cntl).apart cs fault is at)
acts_only (RunFiles date cntl files) xs ys (inr (fault, at, are)) (inl (cs, is, are')) =
    absurd ((command_file_once cntl).apart cs fault is at)
acts_only (RunFiles date cntl files) xs ys (inr (fault, at, are)) (inr (other, at', are')) =
    are ∙ ap (λ f. Begin ∷ faulty f ∷ []) ((command_file_once cntl).faults fault other at at') ∙ sym are'
acts_only (NewZone d) xs ys are are' = are ∙ sym are'

answer_only : (s : State) (job : Job) (p q : List Outcome) (answer other : Answer) → p ≡ q
    → HasAnswer s job p answer → HasAnswer s job q other → answer ≡ other
answer_only s (RunFiles date cntl files) p q answer other same is is' =
    is ∙ ap (λ outcomes. Code (job_code outcomes)) same ∙ sym is'
answer_only s (NewZone d) p q answer other same is is' = is ∙ sym is'

-- A job leads to one state at most, prints one text and has one answer.
pub job_once : (s t u : State) (job : Job) (bytes others : List ℕ) (answer other : Answer) → IsStorable s
    → HasJobForms job → RunsJob s job t bytes answer → RunsJob s job u others other
    → (t ≡ u) × (bytes ≡ others) × (answer ≡ other)
job_once s t u job bytes others answer other is form a b =
    let acts = acts_only job a.acts b.acts a.has_acts b.has_acts in
    let same = acts_once b.acts s is (acts_formed job b.acts form b.has_acts) t u a.outcomes b.outcomes
    (subst (λ acts. Runs Steps s acts t a.outcomes) acts a.runs) b.runs in (
      same.0,
      a.bytes_are ∙ ap (flat_map text) same.1 ∙ sym b.bytes_are,
      answer_only s job a.outcomes b.outcomes answer other same.1 a.answers b.answers,
    )

-- So do jobs one after the other.
pub jobs_once : (jobs : List Job) (s t u : State) (bytes others : List ℕ) (answers more : List Answer)
    → IsStorable s → AllByRecursion HasJobForms jobs → RunsJobs s jobs t bytes answers
    → RunsJobs s jobs u others more → (t ≡ u) × (bytes ≡ others) × (answers ≡ more)
jobs_once [] s t u bytes others answers more is forms (state, none, no_answer) (state', none', no_answer') =
    (state ∙ sym state', none ∙ sym none', no_answer ∙ sym no_answer')
jobs_once (job ∷ jobs) s t u bytes others answers more is forms
    (m, front, back, answer, later, first, rest, are, all)
    (m', front', back', answer', later', first', rest', are', all') =
    let same = job_once s m m' job front front' answer answer' is forms.0 first first' in
    let behind = jobs_once jobs m' t u back back' later later'
    (job_storable s m' job front' answer' is forms.0 first') forms.1
    (subst (λ v. RunsJobs v jobs t back later) same.0 rest) rest' in (
      behind.0,
      are ∙ ap₂ (λ x y. x ++ y) same.1 behind.1 ∙ sym are',
      all ∙ ap₂ (λ x xs. x ∷ xs) same.2 behind.2 ∙ sym all',
    )
