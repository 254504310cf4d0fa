-- Runs of a machine, which is given by its steps: from a state, by an act, to a state, with what it prints.
use Rattle.std.specs.Prelude.{◌≡◌, List, [], ◌∷◌, ◌++◌}

-- The acts lead from s to t, and print all this: bytes, or lines.
abbrev pub Runs : {S A B : Type 0} → (S → A → S → List B → Type 0) → S → List A → S → List B → Type 0
Runs Steps s [] t printed = (t ≡ s) × (printed ≡ [])
Runs {S} {A} {B} Steps s (a ∷ more) t printed =
    (m : S) × (front back : List B) × Steps s a m front × Runs Steps m more t back × (printed ≡ front ++ back)

-- The tables stand for this, and so does each database that a crash may leave. `Leaves` says that each such database
-- stands for one of some such states.
pub record Stands {C : Type 0} (Tables : C → Type 0) (Leaves : (C → Type 0) → Type 0) (c : C) : Type 0 where
  pub now : Tables c
  pub crash : Leaves (λ d. d ≡ c)
