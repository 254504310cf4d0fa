-- Searches in a filtered list that rises by a key.
use Rattle.std.proofs.Common.{◌≡◌, Bool, true, false, not, List, [], ◌∷◌, filter, find, cond, refl, ap, ◌∙◌}
use Rattle.std.proofs.Common.{Option, None, Some, IsTrue}
use Rattle.std.specs.Prelude.{◌||◌, if◌then◌else◌}
use Rattle.std.specs.List.{list_any}
use Rattle.std.specs.declared.cmp.Ordering.{Ordering}
use Rattle.std.specs.Ordering.{is_lt, is_eq}
use Rattle.std.specs.Cmp.{IsTotalOrder}
use Rattle.terms.proofs.Pairs.{AllPairs_rest}
use Rattle.terms.specs.Rising.{Rises}
use Rattle.terms.specs.Lookups.{is_nil}
use Rattle.terms.proofs.SameLists.{none_behind}

-- the value, if it passes
abbrev pub passing : {X : Type 0} → (X → Bool) → Option X → Option X
passing q None = None
passing q (Some x) = if q x then Some x else None

-- some item passes exactly if the filter keeps one
pub any_filter : {X : Type 0} (q : X → Bool) (xs : List X) → list_any q xs ≡ not (is_nil (filter q xs))
any_filter q [] = refl
any_filter q (x ∷ xs) = by (any_filter q xs) (q x)
  where
    by : list_any q xs ≡ not (is_nil (filter q xs)) → (b : Bool)
        → (b || list_any q xs) ≡ not (is_nil (cond b (x ∷ filter q xs) (filter q xs)))
    by rest true = refl
    by rest false = rest

module _ {X K : Type 0} {R : K → K → Ordering} (o : IsTotalOrder R) (key : X → K) (E : K → K → Bool)
    (ties : (a b : K) → E a b ≡ is_eq (R a b)) where
  -- a filter that the item of a key passes keeps it, and else nothing has the key
  pub find_filter : (q : X → Bool) (k : K) (xs : List X) → Rises R key xs
      → find (λ x. E (key x) k) (filter q xs) ≡ passing q (find (λ x. E (key x) k) xs)
  find_filter q k [] rises = refl
  find_filter q k (x ∷ xs) rises =
      by (find_filter q k xs (AllPairs_rest (λ a b. IsTrue (is_lt (R (key a) (key b)))) x xs rises))
      (E (key x) k) refl (q x) refl
    where
      p : X → Bool
      p y = E (key y) k

      by : find (λ x. E (key x) k) (filter q xs) ≡ passing q (find (λ x. E (key x) k) xs)
          → (b : Bool) → E (key x) k ≡ b → (c : Bool) → q x ≡ c
          → find (λ x. E (key x) k) (filter q (x ∷ xs)) ≡ passing q (find (λ x. E (key x) k) (x ∷ xs))
      by rest true e true f = rw (f, e, f) refl
      by rest true e false f = rw (f, e, f) (rest ∙ ap (passing q) (none_behind o key E ties x xs k rises e))
      by rest false e true f = rw (f, e) rest
      by rest false e false f = rw (f, e) rest
