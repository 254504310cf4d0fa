-- Runs have an answer where each step has one, and keeps what that takes; and what can be decided of lists.
use Rattle.std.proofs.Common.{◌⊎◌, inl, inr, Bool, true, false, IsTrue, List, [], ◌∷◌, ◌++◌, All, Contains}
use Rattle.std.proofs.Common.{ℕ, ◌≤◌, refl, arith}
use Rattle.std.specs.List.{AllByRecursion}
use Rattle.std.proofs.lemmas.Bool.{cases_lt}
use Rattle.std.proofs.lemmas.List.Elements.{All-head, All-tail, All-cons}
use Rattle.terms.proofs.ListMembers.{here, there, here_or, none_in}
use Rattle.std.proofs.Common.{subst, sym}
use Rattle.machine.specs.Runs.{Runs}
use Rattle.machine_laws.proofs.Lists.{each_alike}
use Rattle.machine_laws.specs.Answers.{IsAnswered}

module _ {S A B : Type 0} (Steps : S → A → S → List B → Type 0) (Good : S → Type 0) (Fine : A → Type 0)
    (some : (s : S) (a : A) → Good s → Fine a → IsAnswered Steps s a)
    (keeps : (s t : S) (a : A) (printed : List B) → Good s → Fine a → Steps s a t printed → Good t) where
  pub runs_answered : (acts : List A) (s : S) → Good s → AllByRecursion Fine acts → IsAnswered (Runs Steps) s acts
  runs_answered [] s good fine = (s, [], (refl, refl))
  runs_answered (a ∷ more) s good fine =
      let first = some s a good fine.0 in
      let rest = runs_answered more first.0 (keeps s first.0 a first.1 good fine.0 first.2) fine.1 in
      (rest.0, first.1 ++ rest.1, (first.0, first.1, rest.1, first.2, rest.2, refl))

-- where nothing has to be kept
pub every_answered : {S A B : Type 0} → (Steps : S → A → S → List B → Type 0)
    → ((s : S) (a : A) → IsAnswered Steps s a) → (acts : List A) (s : S) → IsAnswered (Runs Steps) s acts
every_answered Steps some acts s =
    runs_answered Steps (λ s. Unit {0}) (λ a. Unit {0}) (λ s a good fine. some s a)
    (λ s t a printed good fine step. tt) acts s tt (each_alike (Unit {0}) tt acts)

-- ---- what can be decided

abbrev pub Decided : Type 0 → Type 0
Decided P = P ⊎ (¬ P)

pub decided_true : (b : Bool) → Decided (IsTrue b)
decided_true true = inl refl
decided_true false = inr (λ e. cc e)

pub decided_le : (a b : ℕ) → Decided (a ≤ b)
decided_le a b = elim (cases_lt b a) [
  | inl over ↦ inr (λ le. omega (arith, over, le))
  | inr within ↦ inl within
]

-- an item of a list that has a property, or none
pub decided_some : {X : Type 0} (P : X → Type 0) → ((x : X) → Decided (P x)) → (xs : List X)
    → ((x : X) × Contains xs x × P x) ⊎ ((x : X) → Contains xs x → ¬ P x)
decided_some P each [] = inr (λ x is has. none_in x is)
decided_some {X} P each (x ∷ xs) = elim (each x) [
  | inl has ↦ inl (x, here x xs, has)
  | inr not ↦ elim (decided_some P each xs) [
    | inl found ↦ inl (found.0, there x xs found.0 found.1, found.2)
    | inr none ↦ inr (λ y is has. elim (here_or x xs y is) [
      | inl same ↦ not (subst P (sym same) has)
      | inr later ↦ none y later has
    ])
  ]
]

pub decided_all : {X : Type 0} (P : X → Type 0) → ((x : X) → Decided (P x)) → (xs : List X) → Decided (All P xs)
decided_all P each [] = inl (λ k d below. absurd (omega (arith, below)))
decided_all P each (x ∷ xs) = elim (each x) [
  | inl has ↦ elim (decided_all P each xs) [
    | inl all ↦ inl (All-cons P x xs has all)
    | inr not ↦ inr (λ all. not (All-tail P x xs all))
  ]
  | inr not ↦ inr (λ all. not (All-head P x xs all))
]
