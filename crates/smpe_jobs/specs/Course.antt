-- The course of acts: those that ran, and the last step of the call.
use Rattle.std.specs.Prelude.{◌≡◌, ℕ, List, [], ◌∷◌, ◌++◌, Option}
use Rattle.std.specs.List.{flat_map}
use Rattle.std.specs.Io.KnownBytes.{Appends}
use Rattle.machine.specs.Machine.{Act}
use Rattle.machine.specs.Outcome.{Outcome}
use Rattle.machine.specs.Report.{text}
use Rattle.machine.specs.Runs.{Runs}
use Rattle.report.specs.Sent.{WrotePart}

-- `Steps` says where an act leads, and with which outcomes: for the machine's states, or for a store.
module _ {W : Type 0} (Steps : W → Act → W → List Outcome → Type 0) where
  -- The acts ran one after the other, and the sink took the report of each.
  pub record AllRan (start : W) (acts : List Act) (end : W) (old new : Option (List ℕ)) : Type 0 where
    pub outcomes : List Outcome
    pub runs : Runs Steps start acts end outcomes
    pub appends : Appends old new (flat_map text outcomes)

  -- Some first acts ran, and are reported. `Last` says how the call ended then, given where they led, what the sink had
  -- taken, and the remaining acts.
  pub record Course (Last : W → Option (List ℕ) → List Act → Type 0) (start : W) (acts : List Act)
      (old : Option (List ℕ)) : Type 0 where
    pub done : List Act
    pub rest : List Act
    pub acts_are : acts ≡ done ++ rest
    pub before : W
    pub had : Option (List ℕ)
    pub ran : AllRan start done before old had
    pub last : Last before had rest

  -- The sink failed: the act ran, and a beginning of its report went out.
  abbrev pub Unreported : (W → Type 0) → Option (List ℕ) → W → Option (List ℕ) → Act → Type 0
  Unreported IsLeft new before had act = (after : W) × (outcomes : List Outcome) × Steps before act after outcomes
      × IsLeft after × WrotePart had new (flat_map text outcomes)

-- The call ended by the next act in this way.
abbrev pub AtNext : {W : Type 0} → (W → Option (List ℕ) → Act → Type 0) → W → Option (List ℕ) → List Act → Type 0
AtNext Ended before had [] = ⊥
AtNext Ended before had (next ∷ rest) = Ended before had next
