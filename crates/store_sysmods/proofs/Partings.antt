-- Lists of items of which each has some rows, when one item comes, goes or changes.
use Rattle.std.proofs.Common.{◌≡◌, inl, inr, List, [], ◌∷◌, ◌++◌, map, filter, Bool, true, false, not, IsPermutation}
use Rattle.std.proofs.Common.{refl, sym, ap, ap₂, subst, ◌∙◌}
use Rattle.std.specs.List.{AllByRecursion, flat_map}
use Rattle.std.proofs.lemmas.List.{append_assoc}
use Rattle.std.proofs.lemmas.List.Elements.{filter-append}
use Rattle.std.proofs.lemmas.List.Sorted.{IsPermutation-refl, IsPermutation-trans}
use Rattle.std.proofs.lemmas.List.Sorted.{IsPermutation-append_right}
use Rattle.std.proofs.lemmas.Grind.{flat_map-append}
use Rattle.terms.proofs.Each.{recursion_append}
use Rattle.sqlite_rules.specs.Lists.{Has}
use Rattle.store_rows.proofs.Parts.{moved_front}

-- ---- one item comes

module _ {A B : Type 0} (f : A → List B) where
  -- of two tests each item passes one
  pub parted : (p q : A → Bool) (xs : List A) → ((x : A) → Has xs x → q x ≡ not (p x))
      → IsPermutation (flat_map f (filter p xs) ++ flat_map f (filter q xs)) (flat_map f xs)
  parted p q [] other = IsPermutation-refl []
  parted p q (x ∷ xs) other = go (p x) refl (parted p q xs (λ y h. other y (inr h)))
    where
      go : (b : Bool) → p x ≡ b → IsPermutation (flat_map f (filter p xs) ++ flat_map f (filter q xs)) (flat_map f xs)
          → IsPermutation (flat_map f (filter p (x ∷ xs)) ++ flat_map f (filter q (x ∷ xs))) (f x ++ flat_map f xs)
      go true e later =
          let fails : q x ≡ false = other x (inl refl) ∙ ap not e in
          rw (e, fails) (subst (λ l. IsPermutation l (f x ++ flat_map f xs))
          (sym (append_assoc (f x) (flat_map f (filter p xs)) (flat_map f (filter q xs))))
          (IsPermutation-append_right (f x) _ _ later))
      go false e later =
          let passes : q x ≡ true = other x (inl refl) ∙ ap not e in
          rw (e, passes) (IsPermutation-trans _ _ _ (moved_front (flat_map f (filter p xs)) (f x)
          (flat_map f (filter q xs))) (IsPermutation-append_right (f x) _ _ later))

  -- the rows of an item that stands between the two parts come first
  pub between : (p q : A → Bool) (xs : List A) (new : A) → ((x : A) → Has xs x → q x ≡ not (p x))
      → IsPermutation (flat_map f ((filter p xs ++ new ∷ []) ++ filter q xs)) (f new ++ flat_map f xs)
  between p q xs new other =
      let parts : flat_map f ((filter p xs ++ new ∷ []) ++ filter q xs) ≡ flat_map f (filter p xs)
      ++ (f new ++ flat_map f (filter q xs)) =
      ap (flat_map f) (append_assoc (filter p xs) (new ∷ []) (filter q xs))
      ∙ flat_map-append f (filter p xs) (new ∷ filter q xs) in
      subst (λ l. IsPermutation l (f new ++ flat_map f xs)) (sym parts)
      (IsPermutation-trans _ _ _ (moved_front (flat_map f (filter p xs)) (f new) (flat_map f (filter q xs)))
      (IsPermutation-append_right (f new) _ _ (parted p q xs other)))

-- ---- one item goes

pub all_map : {A B : Type 0} (P : B → Type 0) (f : A → B) → ((x : A) → P (f x)) → (xs : List A)
    → AllByRecursion P (map f xs)
all_map P f h [] = tt
all_map P f h (x ∷ xs) = (h x, all_map P f h xs)

pub all_flat : {A B : Type 0} (P : B → Type 0) (f : A → List B) → ((x : A) → AllByRecursion P (f x)) → (xs : List A)
    → AllByRecursion P (flat_map f xs)
all_flat P f h [] = tt
all_flat P f h (x ∷ xs) = recursion_append P (f x) (flat_map f xs) (h x) (all_flat P f h xs)

filter_gone : {B : Type 0} (p : B → Bool) (xs : List B) → AllByRecursion (λ x. p x ≡ true) xs
    → filter (λ x. not (p x)) xs ≡ []
filter_gone p [] h = refl
filter_gone p (x ∷ xs) h = rw h.0 (filter_gone p xs h.1)

filter_left : {B : Type 0} (p : B → Bool) (xs : List B) → AllByRecursion (λ x. p x ≡ false) xs
    → filter (λ x. not (p x)) xs ≡ xs
filter_left p [] h = refl
filter_left p (x ∷ xs) h = rw h.0 (ap (λ ys. x ∷ ys) (filter_left p xs h.1))

-- The rows of each item that passes a test pass another, and no others do.
pub without_items : {A B : Type 0} (f : A → List B) (test : A → Bool) (p : B → Bool)
    → ((x : A) → AllByRecursion (λ r. p r ≡ test x) (f x)) → (xs : List A)
    → flat_map f (filter (λ x. not (test x)) xs) ≡ filter (λ r. not (p r)) (flat_map f xs)
without_items f test p own [] = refl
without_items f test p own (x ∷ xs) = go (test x) refl (own x) (without_items f test p own xs)
  where
    go : (b : Bool) → test x ≡ b → AllByRecursion (λ r. p r ≡ test x) (f x)
        → flat_map f (filter (λ x. not (test x)) xs) ≡ filter (λ r. not (p r)) (flat_map f xs)
        → flat_map f (filter (λ x. not (test x)) (x ∷ xs)) ≡ filter (λ r. not (p r)) (f x ++ flat_map f xs)
    go true e all later =
        let gone = filter_gone p (f x) (subst (λ b. AllByRecursion (λ r. p r ≡ b) (f x)) e all) in
        rw e (later ∙ sym (filter-append (λ r. not (p r)) (f x) (flat_map f xs)
        ∙ ap (λ rows. rows ++ filter (λ r. not (p r)) (flat_map f xs)) gone))
    go false e all later =
        let left = filter_left p (f x) (subst (λ b. AllByRecursion (λ r. p r ≡ b) (f x)) e all) in
        rw e (ap (λ rows. f x ++ rows) later ∙ sym (filter-append (λ r. not (p r)) (f x) (flat_map f xs)
        ∙ ap (λ rows. rows ++ filter (λ r. not (p r)) (flat_map f xs)) left))

-- ---- items change, and their rows do not

pub flat_kept : {A B : Type 0} (f : A → List B) (change : A → A) → ((x : A) → f (change x) ≡ f x) → (xs : List A)
    → flat_map f (map change xs) ≡ flat_map f xs
flat_kept f change same [] = refl
flat_kept f change same (x ∷ xs) = ap₂ ◌++◌ (same x) (flat_kept f change same xs)
