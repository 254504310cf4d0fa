-- Which states can be stored, and that what a step makes of one can be stored too.
use Rattle.std.specs.Prelude.{ℕ, List, IfSome}
use Rattle.std.specs.List.{AllByRecursion}
use Rattle.terms.specs.Types.{Command, Receive}
use Rattle.terms.specs.Forms.{IsSource, IsSrel, IsZoneName, IsDottedDate}
use Rattle.store_schema.specs.Inventory.{IsInventory}
use Rattle.machine.specs.Outcome.{Outcome}
use Rattle.machine.specs.State.{State}
use Rattle.machine.specs.Machine.{Act, Begin, Perform, Faulty, Define, Steps, Job, RunFiles, NewZone, Answer}
use Rattle.machine.specs.Machine.{RunsJob, RunsJobs}

-- what is kept of the state is an inventory
abbrev pub IsStorable : State → Type 0
IsStorable s = IsInventory (record { global = s.global; zones = s.zones })

-- SOURCEID of RECEIVE has its form. Other operands only choose.
abbrev pub HasCommandForms : Command → Type 0
HasCommandForms (Receive what) = IfSome what.source IsSource
HasCommandForms _ = Unit {0}

-- an act's date and command, and a new zone's name and SREL, have their forms
abbrev pub HasActForms : Act → Type 0
HasActForms Begin = Unit {0}
HasActForms (Perform date files c) = IsDottedDate date × HasCommandForms c
HasActForms (Faulty fault) = Unit {0}
HasActForms (Define d) = IsZoneName d.name × IsSrel d.srel

-- so do those of a job, whose command file has its own
abbrev pub HasJobForms : Job → Type 0
HasJobForms (RunFiles date cntl files) = IsDottedDate date
HasJobForms (NewZone d) = IsZoneName d.name × IsSrel d.srel

-- ---- the laws

-- A step leads from a state that can be stored to another one.
abbrev pub StepStaysStorable : Type 0
StepStaysStorable =
    (s t : State) (a : Act) (outcomes : List Outcome) → IsStorable s → HasActForms a → Steps s a t outcomes
    → IsStorable t

-- A job does so too.
abbrev pub JobStaysStorable : Type 0
JobStaysStorable =
    (s t : State) (job : Job) (bytes : List ℕ) (answer : Answer) → IsStorable s → HasJobForms job
    → RunsJob s job t bytes answer → IsStorable t

-- A list of jobs does so too.
abbrev pub JobsStayStorable : Type 0
JobsStayStorable =
    (jobs : List Job) (s t : State) (bytes : List ℕ) (answers : List Answer) → IsStorable s
    → AllByRecursion HasJobForms jobs → RunsJobs s jobs t bytes answers → IsStorable t
