-- Runs have one answer where each step has one, and keeps what that takes.
use Rattle.std.proofs.Common.{List, [], ◌∷◌, ◌++◌, sym, ◌∙◌, ap₂, subst}
use Rattle.std.specs.List.{AllByRecursion}
use Rattle.machine.specs.Runs.{Runs}
use Rattle.machine_laws.proofs.Lists.{each_alike}
use Rattle.machine_laws.specs.Answers.{IsOnce}

module _ {S A B : Type 0} (Steps : S → A → S → List B → Type 0) (Good : S → Type 0) (Fine : A → Type 0)
    (once : (s : S) (a : A) → Good s → Fine a → IsOnce Steps s a)
    (keeps : (s t : S) (a : A) (printed : List B) → Good s → Fine a → Steps s a t printed → Good t) where
  pub runs_once : (acts : List A) (s : S) → Good s → AllByRecursion Fine acts → IsOnce (Runs Steps) s acts
  runs_once [] s good fine t u p q (same, none) (same', none') = (same ∙ sym same', none ∙ sym none')
  runs_once (a ∷ more) s good fine t u p q (m, front, back, step, runs, are) (m', front', back', step', runs', are') =
      let first = once s a good fine.0 m m' front front' step step' in
      let rest = runs_once more m' (keeps s m' a front' good fine.0 step') fine.1 t u back back'
      (subst (λ v. Runs Steps v more t back) first.0 runs) runs' in
      (rest.0, are ∙ ap₂ (λ x y. x ++ y) first.1 rest.1 ∙ sym are')

-- where nothing has to be kept
pub every_run : {S A B : Type 0} → (Steps : S → A → S → List B → Type 0) → ((s : S) (a : A) → IsOnce Steps s a)
    → (acts : List A) (s : S) → IsOnce (Runs Steps) s acts
every_run Steps once acts s =
    runs_once Steps (λ s. Unit {0}) (λ a. Unit {0}) (λ s a good fine. once s a) (λ s t a printed good fine step. tt)
    acts s tt (each_alike (Unit {0}) tt acts)
