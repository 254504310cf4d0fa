-- How actions are left out, one group after the other.
use Rattle.std.specs.Prelude.{◌≡◌, ◌⊎◌, ◌++◌, ℕ, List, take, drop}
use Rattle.terms.specs.Types.{Global}
use Rattle.machine.specs.Outcome.{Line}
use Rattle.smpe_mend.specs.declared.leaving_out.Course.{Course}
use Rattle.smpe_mend.specs.declared.action.Action.{Action}
use Rattle.smpe_mend.specs.Runs.{Asked, DoesNot}
use Rattle.smpe_mend.specs.Growth.{Repairs}

-- the actions without those from the place up to end
abbrev pub less : Course → ℕ → List Action
less c end = take c.place c.tried.actions.items ++ drop end c.tried.actions.items

-- They are left out, or they are needed and the place is behind them.
abbrev pub IsNext : Global → Asked → Course → ℕ → Course → Type 0
IsNext g a c end next =
    Repairs g a next.tried
    × (((next.place ≡ c.place) × (next.tried.actions.items ≡ less c end))
    ⊎ ((next.place ≡ end) × (next.tried.actions.items ≡ c.tried.actions.items)
    × ((lines : List Line) × DoesNot g a (less c end) lines)))
