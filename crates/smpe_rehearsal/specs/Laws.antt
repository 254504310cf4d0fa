-- What a rehearsal has loaded.
use Rattle.std.specs.Prelude.{◌≡◌, ℕ, List, Ok}
use Rattle.sqlite.specs.Store.{Ghosts}
use Rattle.sqlite.specs.Held.{Held, state}
use Rattle.sqlite.specs.State.{HasCleanDisk}
use Rattle.terms.specs.Types.{Text}
use Rattle.machine.specs.State.{State}
use Rattle.machine.specs.Machine as machine
use Rattle.machine.specs.Machine.{RunsJobs}
use Rattle.store.specs.View.{IsFound}
use Rattle.store.specs.Kept.{kept}
use Rattle.smpe_why.specs.Telling.{IsFoundIn}
use Rattle.smpe_rehearsal.specs.declared.receiving.Rehearsed.{Rehearsed}
use Rattle.smpe_rehearsal.specs.Rehearsed.{RehearsedOver}
use Rattle.smpe_rehearsal.specs.ServiceSet.{greatest}

-- The machine runs the jobs from this state. The zones are those of the state to which they lead, and the status is the
-- greatest of their answers.
pub record IsReceived (name : Text) (jobs : List machine.Job) (s : State) (z : Rehearsed) : Type 0 where
  pub end : State
  pub bytes : List ℕ
  pub answers : List machine.Answer
  pub runs : RunsJobs s jobs end bytes answers
  pub zones : IsFoundIn name (kept end) z.zones
  pub status : z.status ≡ greatest answers

-- If the disk does not fail, what a rehearsal has loaded is what the machine's jobs leave of the state that was found.
abbrev pub LoadsReceived : {S : Type 0} → Ghosts S → Type 0
LoadsReceived {S} g =
    (name : Text) (jobs : List machine.Job) (conn begun : Held S) (z : Rehearsed)
    → RehearsedOver g name jobs conn begun (Ok z) → ((at : Held S) → HasCleanDisk (state g at))
    → (s : State) → IsFound g conn (kept s) → IsReceived name jobs s z
