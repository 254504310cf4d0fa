-- Lists with the same members.
use Rattle.std.proofs.Common.{◌≡◌, ◌&&◌, Bool, true, false, List, [], ◌∷◌, Contains, IsTrue, refl, sym, ap₂}
use Rattle.std.specs.Prelude.{◌↔◌}
use Rattle.std.specs.List.{list_all}
use Rattle.terms.specs.Types.{Id}
use Rattle.terms.specs.Lookups.{is_in}
use Rattle.terms.proofs.Ids.{is_in_from_Contains, Contains_from_is_in}

same_flags : (a b : Bool) → (IsTrue a → IsTrue b) → (IsTrue b → IsTrue a) → a ≡ b
same_flags true true f g = refl
same_flags false false f g = refl
same_flags true false f g = sym (f refl)
same_flags false true f g = g refl

pub same_in : (xs ys : List Id) → ((x : Id) → Contains xs x ↔ Contains ys x) → (x : Id) → is_in xs x ≡ is_in ys x
same_in xs ys same x =
    same_flags (is_in xs x) (is_in ys x)
    (λ h. is_in_from_Contains ys x ((same x).0 (Contains_from_is_in xs x h)))
    (λ h. is_in_from_Contains xs x ((same x).1 (Contains_from_is_in ys x h)))

-- whether all ids of a list are in them
pub same_all : (ids xs ys : List Id) → ((x : Id) → Contains xs x ↔ Contains ys x)
    → list_all (is_in xs) ids ≡ list_all (is_in ys) ids
same_all [] xs ys same = refl
same_all (x ∷ ids) xs ys same = ap₂ (λ a b. a && b) (same_in xs ys same x) (same_all ids xs ys same)
