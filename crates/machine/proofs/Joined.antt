-- Runs one after another.
use Rattle.std.proofs.Common.{◌≡◌, List, [], ◌∷◌, ◌++◌, refl, sym, ◌∙◌, ap, subst, append_assoc}
use Rattle.std.proofs.lemmas.List.{append-nil}
use Rattle.machine.specs.Runs.{Runs}

module _ {S A B : Type 0} (Steps : S → A → S → List B → Type 0) where
  -- two runs are one
  pub runs_append : (s t u : S) (xs ys : List A) (front back : List B) → Runs Steps s xs t front
      → Runs Steps t ys u back → Runs Steps s (xs ++ ys) u (front ++ back)
  runs_append s t u [] ys front back r q =
      subst (λ printed. Runs Steps s ys u (printed ++ back)) (sym r.1) (subst (λ v. Runs Steps v ys u back) r.0 q)
  runs_append s t u (x ∷ xs) ys front back (m, first, later, step, r, is) q = (
    m,
    first,
    later ++ back,
    step,
    runs_append m t u xs ys later back r q,
    ap (λ printed. printed ++ back) is
        ∙ append_assoc first later back,
  )

  -- one step is a run
  pub runs_one : (s t : S) (a : A) (printed : List B) → Steps s a t printed → Runs Steps s (a ∷ []) t printed
  runs_one s t a printed step = (t, printed, [], step, (refl, refl), sym (append-nil printed))
