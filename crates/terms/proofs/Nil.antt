-- Lists without items, by the test of it.
use Rattle.std.proofs.Common.{◌≡◌, Bool, true, false, not, List, [], ◌∷◌, filter, find, cond, Some, is_some, refl, sym}
use Rattle.std.proofs.Common.{true≢false}
use Rattle.terms.specs.Lookups.{is_nil}

pub nil_from : {X : Type 0} (xs : List X) → is_nil xs ≡ true → xs ≡ []
nil_from [] nil = refl
nil_from (x ∷ xs) nil = absurd (true≢false (sym nil))

-- some item passes exactly if the filter keeps one
pub is_some_find : {X : Type 0} (p : X → Bool) (xs : List X) → is_some (find p xs) ≡ not (is_nil (filter p xs))
is_some_find p [] = refl
is_some_find p (x ∷ xs) = by (is_some_find p xs) (p x)
  where
    by : is_some (find p xs) ≡ not (is_nil (filter p xs)) → (b : Bool)
        → is_some (cond b (Some x) (find p xs)) ≡ not (is_nil (cond b (x ∷ filter p xs) (filter p xs)))
    by rest true = refl
    by rest false = rest
