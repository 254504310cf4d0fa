-- Lists in which one element becomes another, and the rows that they give.
use Rattle.std.proofs.Common.{◌≡◌, List, [], ◌∷◌, ◌++◌, map, filter, Bool, IsPermutation, refl, sym, ap}
use Rattle.std.proofs.Common.{subst, subst₂, ◌∙◌}
use Rattle.std.specs.List.{AllByRecursion, flat_map}
use Rattle.std.proofs.lemmas.List.{append_assoc}
use Rattle.std.proofs.lemmas.List.Elements.{filter-append}
use Rattle.std.proofs.lemmas.List.Sorted.{IsPermutation-trans, IsPermutation-append_left}
use Rattle.std.proofs.lemmas.List.Sorted.{IsPermutation-append_right, IsPermutation-append_comm}
use Rattle.terms.proofs.Each.{recursion_front, recursion_back}

-- nothing of it changes
pub map_same : {A B : Type 0} (f : A → B) (before : List A) (a b : A) (after : List A) → f a ≡ f b
    → map f (before ++ a ∷ after) ≡ map f (before ++ b ∷ after)
map_same f [] a b after e = ap (λ x. x ∷ map f after) e
map_same f (z ∷ before) a b after e = ap (λ xs. f z ∷ xs) (map_same f before a b after e)

pub flat_same : {A B : Type 0} (f : A → List B) (before : List A) (a b : A) (after : List A) → f a ≡ f b
    → flat_map f (before ++ a ∷ after) ≡ flat_map f (before ++ b ∷ after)
flat_same f [] a b after e = ap (λ x. x ++ flat_map f after) e
flat_same f (z ∷ before) a b after e = ap (λ xs. f z ++ xs) (flat_same f before a b after e)

-- what comes in between may stand first
pub moved_front : {B : Type 0} (xs news ys : List B) → IsPermutation (xs ++ (news ++ ys)) (news ++ (xs ++ ys))
moved_front xs news ys =
    subst₂ IsPermutation (append_assoc xs news ys) (append_assoc news xs ys)
    (IsPermutation-append_left ys (xs ++ news) (news ++ xs) (IsPermutation-append_comm xs news))

module _ {A B : Type 0} (f : A → List B) (p : B → Bool) where
  all_pass : (xs : List A) → AllByRecursion (λ x. filter p (f x) ≡ f x) xs → filter p (flat_map f xs) ≡ flat_map f xs
  all_pass [] h = refl
  all_pass (x ∷ xs) h = filter-append p (f x) (flat_map f xs) ∙ ap (λ ys. ys ++ filter p (flat_map f xs)) h.0
      ∙ ap (λ ys. f x ++ ys) (all_pass xs h.1)

  changed_by : (before : List A) (a b : A) (after : List A) (news : List B)
      → AllByRecursion (λ x. filter p (f x) ≡ f x) before → AllByRecursion (λ x. filter p (f x) ≡ f x) after
      → IsPermutation (f b) (news ++ filter p (f a)) → IsPermutation (flat_map f (before ++ b ∷ after))
      (news ++ filter p (flat_map f (before ++ a ∷ after)))
  changed_by [] a b after news none pass h =
      let rest = flat_map f after in
      let all : news ++ filter p (f a ++ rest) ≡ (news ++ filter p (f a)) ++ rest =
      ap (λ ys. news ++ ys) (filter-append p (f a) rest ∙ ap (λ ys. filter p (f a) ++ ys) (all_pass after pass))
      ∙ sym (append_assoc news (filter p (f a)) rest) in
      subst (IsPermutation (f b ++ rest)) (sym all) (IsPermutation-append_left rest _ _ h)
  changed_by (z ∷ before) a b after news first pass h =
      let rest = filter p (flat_map f (before ++ a ∷ after)) in
      let later = changed_by before a b after news first.1 pass h in
      let all : news ++ filter p (f z ++ flat_map f (before ++ a ∷ after)) ≡ news ++ (f z ++ rest) =
      ap (λ ys. news ++ ys) (filter-append p (f z) (flat_map f (before ++ a ∷ after)) ∙ ap (λ ys. ys ++ rest) first.0)
      in
      subst (IsPermutation (f z ++ flat_map f (before ++ b ∷ after))) (sym all)
      (IsPermutation-trans _ _ _ (IsPermutation-append_right (f z) _ _ later) (moved_front (f z) news rest))

  -- one element becomes another, of which some rows are new and the others are left, and all rows of the other
  -- elements are left
  pub changed : (before : List A) (a b : A) (after : List A) (news : List B)
      → AllByRecursion (λ x. filter p (f x) ≡ f x) (before ++ after)
      → IsPermutation (f b) (news ++ filter p (f a)) → IsPermutation (flat_map f (before ++ b ∷ after))
      (news ++ filter p (flat_map f (before ++ a ∷ after)))
  changed before a b after news pass = changed_by before a b after news (recursion_front _ before after pass)
      (recursion_back _ before after pass)
