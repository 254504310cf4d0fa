-- What a call that only looks at a database leaves.
use Rattle.std.specs.Prelude.{Result, OnOk}
use Rattle.sqlite.specs.Store.{Ghosts}
use Rattle.sqlite.specs.Held.{Held, state}
use Rattle.sqlite.specs.State.{HasCleanDisk, IsUnchanged, KeepsCommit, Survives}

module _ {S : Type 0} (g : Ghosts S) (old new : Held S) where
  -- after an answer all is as it was
  abbrev pub LeavesAll : {X E : Type 0} → Result X E → Type 0
  LeavesAll result = HasCleanDisk (state g new) → OnOk result (IsUnchanged (state g old) (state g new))

  -- what was last committed stays, whatever the answer is
  abbrev pub KeepsLast : Type 0
  KeepsLast = HasCleanDisk (state g new) → KeepsCommit (state g old) (state g new)

  -- and a crash has no new outcome
  abbrev pub SurvivesAs : Type 0
  SurvivesAs = Survives (state g old) (state g new) (λ _. ⊥)
