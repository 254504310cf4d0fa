-- Each step of the machine leads from a state that can be stored to one, where its act has the forms that files and
-- the command line give it.
use Rattle.std.proofs.Common.{◌≡◌, ℕ, Bool, true, false, List, [], ◌∷◌, Option, None, IfSome, Result, Ok, Err}
use Rattle.std.proofs.Common.{refl, sym, subst, inl, inr, map, if◌then◌else◌}
use Rattle.std.specs.List.{AllByRecursion}
use Rattle.terms.specs.Types.{Text, Command, Set, Receive, Reject, Apply, Accept, Restore, ListZone, Report}
use Rattle.terms.specs.Types.{Install, ReceiveOperands, RestoreList, Zone}
use Rattle.terms.specs.Forms.{IsSource, IsSrel, IsZoneName, IsDottedDate}
use Rattle.terms.specs.Statement.{Piece}
use Rattle.terms.specs.CommandForms.{IsCommand}
use Rattle.terms.specs.Commands.{BeginsWithCommands}
use Rattle.machine.specs.Outcome.{Outcome}
use Rattle.machine.specs.State.{State, with_zone, target_of, ZoneDefinition, ZoneFault, define_zone}
use Rattle.machine.specs.Runs.{Runs}
use Rattle.machine.specs.Machine.{Files, Takes, TakesAll, TakesNone, TakesNoHold, InstallsThere, RestoresThere}
use Rattle.machine.specs.Machine.{RunsThere, Performs, Act, Begin, Perform, Faulty, Define, state_after, Steps, Job}
use Rattle.machine.specs.Machine.{RunFiles, NewZone, HasActs, Answer, RunsJob, RunsJobs}
use Rattle.machine_laws.specs.Storable.{IsStorable, HasCommandForms, HasActForms, HasJobForms}
use Rattle.machine_laws.proofs.Defined.{definition_kept}
use Rattle.machine_laws.proofs.InstallForms.{apply_kept}
use Rattle.machine_laws.proofs.ReceivingForms.{take_forms}
use Rattle.machine_laws.proofs.RejectingForms.{reject_forms}
use Rattle.machine_laws.proofs.RestoreForms.{restore_kept}
use Rattle.machine_laws.proofs.StatementForms.{optional_form}

-- ---- a command

either_way : (check : Bool) (s t : State) → IsStorable s → IsStorable t → IsStorable (if check then s else t)
either_way true s t before after = before
either_way false s t before after = after

install_storable : (date : Text) (s : State) (c : Command) (i : Install) (related : Text → Option Zone) (t : State)
    (outcome : Outcome) → IsStorable s → IsDottedDate date → InstallsThere date s c i related t outcome → IsStorable t
install_storable date s c i related t outcome is dated there =
    subst IsStorable (sym there.state) (either_way i.check s (with_zone s there.name there.new) is
    (apply_kept (record { global = s.global; zones = s.zones }) there.name there.zone there.new (related there.name)
    i.selection i.bypass date there.lines is there.is_there there.installs dated))

restore_storable : (s : State) (what : RestoreList) (check : Bool) (t : State) (outcome : Outcome) → IsStorable s
    → RestoresThere s what check t outcome → IsStorable t
restore_storable s what check t outcome is there =
    subst IsStorable (sym there.state) (either_way check s (with_zone s there.name there.new) is
    (restore_kept (record { global = s.global; zones = s.zones }) there.name there.zone there.accepted there.new what
    there.lines is there.is_there there.related there.restores))

take_storable : (files : Files) (s : State) (what : ReceiveOperands) (t : State) (outcome : Outcome) → IsStorable s
    → IfSome what.source IsSource → Takes files s what t outcome → IsStorable t
take_storable files s what t outcome is form (TakesAll items holds middle g lines more has has_holds runs runs_holds) =
    take_forms files what items holds (record { global = s.global; zones = s.zones }) middle g lines more form has
    has_holds is runs runs_holds
take_storable files s what t outcome is form (TakesNone fault reads at) = is
take_storable files s what t outcome is form (TakesNoHold items fault has reads at) = is

run_storable : (date : Text) (files : Files) (s : State) (c : Command) (t : State) (outcome : Outcome) → IsStorable s
    → IsDottedDate date → HasCommandForms c → RunsThere date files s c t outcome → IsStorable t
run_storable date files s (Set name) t outcome is dated form runs = subst IsStorable (sym runs.0) is
run_storable date files s (Receive what) t outcome is dated form runs =
    take_storable files s what t outcome is form runs
run_storable date files s (Reject ids) t outcome is dated form runs =
    subst IsStorable (sym runs.state)
    (reject_forms ids (record { global = s.global; zones = s.zones }) runs.new runs.lines is runs.runs)
run_storable date files s (Apply i) t outcome is dated form runs =
    install_storable date s (Apply i) i (λ name. None) t outcome is dated runs
run_storable date files s (Accept i) t outcome is dated form runs =
    install_storable date s (Accept i) i (target_of s.zones) t outcome is dated runs
run_storable date files s (Restore what check) t outcome is dated form runs =
    restore_storable s what check t outcome is runs
run_storable date files s (ListZone text) t outcome is dated form runs = subst IsStorable (sym runs.0) is
run_storable date files s Report t outcome is dated form runs = subst IsStorable (sym runs.0) is

-- ---- a step

perform_storable : (date : Text) (files : Files) (s : State) (c : Command) (t : State) (outcome : Outcome)
    → IsStorable s → IsDottedDate date → HasCommandForms c → Performs date files s c t outcome → IsStorable t
perform_storable date files s c t outcome is dated form (inl refused) = subst IsStorable (sym refused.2) is
perform_storable date files s c t outcome is dated form (inr runs) =
    run_storable date files s c t outcome is dated form runs.1

define_storable : (s : State) (d : ZoneDefinition) → IsStorable s → IsZoneName d.name → IsSrel d.srel
    → IsStorable (state_after s (define_zone s d))
define_storable s d is name srel = by (define_zone s d) refl
  where
    by : (r : Result State ZoneFault) → define_zone s d ≡ r → IsStorable (state_after s r)
    by (Ok new) answers = definition_kept s new d name srel answers is
    by (Err why) answers = is

-- A step leads from a state that can be stored to one.
pub step_storable : (s t : State) (a : Act) (outcomes : List Outcome) → IsStorable s → HasActForms a
    → Steps s a t outcomes → IsStorable t
step_storable s t Begin outcomes is form step = subst IsStorable (sym step.0) is
step_storable s t (Perform date files c) outcomes is form step =
    perform_storable date files s c t step.0 is form.0 form.1 step.1
step_storable s t (Faulty fault) outcomes is form step = subst IsStorable (sym step.0) is
step_storable s t (Define d) outcomes is form step =
    subst IsStorable (sym step.0) (define_storable s d is form.0 form.1)

-- So do the steps one after the other.
pub runs_storable : (acts : List Act) (s t : State) (outcomes : List Outcome) → IsStorable s
    → AllByRecursion HasActForms acts → Runs Steps s acts t outcomes → IsStorable t
runs_storable [] s t outcomes is each (same, none) = subst IsStorable (sym same) is
runs_storable (a ∷ more) s t outcomes is each (m, front, back, step, runs, are) =
    runs_storable more m t back (step_storable s m a front is each.0 step) each.1 runs

-- ---- a job

command_formed : (c : Command) (pieces : List Piece) → IsCommand pieces c → HasCommandForms c
command_formed (Receive what) pieces is = optional_form IsSource _ what.source is.has_operands.source
command_formed (Set name) pieces is = tt
command_formed (Reject ids) pieces is = tt
command_formed (Apply i) pieces is = tt
command_formed (Accept i) pieces is = tt
command_formed (Restore what check) pieces is = tt
command_formed (ListZone text) pieces is = tt
command_formed Report pieces is = tt

commands_formed : (date : Text) (files : Files) (cs : List Command) (n m : ℕ) (records rest : List (List ℕ))
    → IsDottedDate date → BeginsWithCommands n records cs m rest
    → AllByRecursion HasActForms (map (Perform date files) cs)
commands_formed date files [] n m records rest dated begins = tt
commands_formed date files (c ∷ cs) n m records rest dated (pieces, number, next, after, takes, is, more) =
    ((dated, command_formed c pieces is), commands_formed date files cs next m after rest dated more)

-- The acts of a job have their forms: the grammar of a command file gives them.
pub acts_formed : (job : Job) (acts : List Act) → HasJobForms job → HasActs job acts → AllByRecursion HasActForms acts
acts_formed (RunFiles date cntl files) acts dated (inl (cs, is, are)) =
    subst (AllByRecursion HasActForms) (sym are)
    (tt, commands_formed date files cs 1 is.2 is.0 is.1 dated is.4)
acts_formed (RunFiles date cntl files) acts dated (inr (fault, at, are)) =
    subst (AllByRecursion HasActForms) (sym are) (tt, (tt, tt))
acts_formed (NewZone d) acts form are = subst (AllByRecursion HasActForms) (sym are) (form, tt)

-- A job leads from a state that can be stored to one, and so do jobs one after the other.
pub job_storable : (s t : State) (job : Job) (bytes : List ℕ) (answer : Answer) → IsStorable s → HasJobForms job
    → RunsJob s job t bytes answer → IsStorable t
job_storable s t job bytes answer is form runs =
    runs_storable runs.acts s t runs.outcomes is (acts_formed job runs.acts form runs.has_acts) runs.runs

pub jobs_storable : (jobs : List Job) (s t : State) (bytes : List ℕ) (answers : List Answer) → IsStorable s
    → AllByRecursion HasJobForms jobs → RunsJobs s jobs t bytes answers → IsStorable t
jobs_storable [] s t bytes answers is forms runs = subst IsStorable (sym runs.0) is
jobs_storable (job ∷ more) s t bytes answers is forms (m, front, back, answer, later, first, rest, are, all) =
    jobs_storable more m t back later (job_storable s m job front answer is forms.0 first) forms.1 rest
