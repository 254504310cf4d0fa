-- Tests on the elements of a list.
use Rattle.std.proofs.Common.{◌≡◌, Bool, true, false, List, get_or, ◌∙◌, ap}
use Rattle.std.specs.Prelude.{IsTrue}
use Rattle.std.specs.List.{All, Any}

-- a test does not hold of some and fail at each
pub clash : {X : Type 0} (p : X → Bool) (xs : List X) → Any (λ x. IsTrue (p x)) xs → All (λ x. p x ≡ false) xs → ⊥
clash p xs some none =
    let failing = none some.0 some.1 some.2 in
    let holding : p (get_or xs some.0 some.1) ≡ true = ap p some.3 ∙ some.4 in
    cc
