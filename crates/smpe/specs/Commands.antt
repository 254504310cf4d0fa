-- How commands of one job end, inside it.
use Rattle.std.specs.Prelude.{◌≡◌, ℕ, List, map, Option, Result, Ok, Err}
use Rattle.std.specs.List.{flat_map}
use Rattle.std.specs.Io.KnownBytes.{Appends}
use Rattle.sqlite.specs.Store.{Ghosts}
use Rattle.sqlite.specs.Held.{Held}
use Rattle.terms.specs.Types.{Text, Command}
use Rattle.machine.specs.State.{State}
use Rattle.machine.specs.Outcome.{Outcome, job_code}
use Rattle.machine.specs.Report.{text}
use Rattle.machine.specs.Machine.{Files, Perform, Steps}
use Rattle.machine.specs.Runs.{Runs}
use Rattle.store.specs.Kept.{Keeps}
use Rattle.smpe_session.specs.declared.session.Session.{Session}
use Rattle.smpe_session.specs.Sessions.{IsSessionOf}
use Rattle.smpe_jobs.specs.declared.error.JobError.{JobError}
use Rattle.smpe_jobs.specs.Ending.{EndsEarly}

-- The commands ran from s, with this as their greatest code, and the session is the job's at the state to which they
-- led.
abbrev pub EndsCommands : {S : Type 0} → Ghosts S → Held S → Held S → State → Session → Text → Files → List Command
    → Option (List ℕ) → Option (List ℕ) → Result ℕ JobError → Type 0
EndsCommands g began at s session date files commands old new (Ok code) =
    (t : State) × (outcomes : List Outcome) × Runs Steps s (map (Perform date files) commands) t outcomes
    × IsSessionOf t session × Keeps g at t × Appends old new (flat_map text outcomes) × (code ≡ job_code outcomes)
EndsCommands g began at s session date files commands old new (Err error) =
    EndsEarly g began at s (map (Perform date files) commands) old new error
