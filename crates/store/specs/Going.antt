-- How a call goes over a store, whatever its tables hold: they need not stand for anything.
--
-- Few words say how calls go, here and in the crates above:
--   Goes..   what a call has done to a store, whatever its tables hold; to the end or not
--   Ends..   what a call has done if the tables stood for a state: for what they stand now, and what a crash may leave
--   ..Ran    acts and jobs that went to their end, over a store; Steps and Runs are the same for the machine's states
--   Course   acts that ran, and the last step of a call that stopped early: EndsLast or GoesLast
--   Fails..  a call or an act that ended by an error
-- Act, Job, Jobs and Commands name what it was; Early is a call that stopped, and Among says so of its first jobs.
use Rattle.std.specs.Prelude.{◌⊎◌, Result, OnOk}
use Rattle.sqlite.specs.Store.{Ghosts}
use Rattle.sqlite.specs.Held.{Held, state}
use Rattle.sqlite.specs.State.{HasCleanDisk, KeepsCommit, Survives}
use Rattle.store.specs.declared.change.Change.{Change}
use Rattle.store.specs.BadRows.{OnlyLoads}
use Rattle.store.specs.Calls.{calls_of}
use Rattle.store.specs.Commits.{OnlyCommits}

module _ {S : Type 0} (g : Ghosts S) (old new : Held S) where
  -- It has only loaded. After success all is as it was, and after an error what was last committed is. A crash has no
  -- new outcome.
  pub record LoadsAlone {X E : Type 0} (result : Result X E) : Type 0 where
    pub same : OnOk result (OnlyLoads g old new)
    pub kept : HasCleanDisk (state g new) → KeepsCommit (state g old) (state g new)
    pub crash : Survives (state g old) (state g new) (λ _. ⊥)

  -- It has loaded, and then made this change in one transaction, or failed to.
  pub record CommitsOnce {X E : Type 0} (change : Change) (result : Result X E) : Type 0 where
    pub before : Held S
    pub loads : OnlyLoads g old before
    pub commits : OnlyCommits g (calls_of change) before new result

  -- It has loaded, or made one of its own changes besides.
  abbrev pub GoesOver : (Change → Type 0) → {X E : Type 0} → Result X E → Type 0
  GoesOver IsOwn result = LoadsAlone result ⊎ ((change : Change) × IsOwn change × CommitsOnce change result)
