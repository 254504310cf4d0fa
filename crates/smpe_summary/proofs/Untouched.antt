-- Without deletions nothing is taken out.
use Rattle.std.proofs.Common.{◌≡◌, Bool, true, false, List, [], ◌∷◌, filter, length, refl, arith, subst, sym}
use Rattle.std.specs.Prelude.{◌&&◌}
use Rattle.terms.specs.Types.{Id, Global, Zone}
use Rattle.terms.specs.Lookups.{is_applied, meets}
use Rattle.terms.specs.Choice.{Choice}
use Rattle.terms.specs.Over.{chain}
use Rattle.terms.specs.Deleted.{is_taken_out}

meets_none : (xs : List Id) → meets xs [] ≡ false
meets_none [] = refl
meets_none (x ∷ xs) = meets_none xs

and_false : (a b : Bool) → b ≡ false → (a && b) ≡ false
and_false true b fails = fails
and_false false b fails = refl

none_at_all : (g : Global) (c : Choice) (zone : Zone) (ids : List Id) → [] ≡ filter (is_taken_out g c [] zone) ids
none_at_all g c zone [] = refl
none_at_all g c zone (y ∷ ys) =
    rw (and_false (is_applied zone y) (meets (chain g c y) []) (meets_none (chain g c y))) (none_at_all g c zone ys)

pub none_taken : (g : Global) (c : Choice) (zone : Zone) (dels ids : List Id) → dels ≡ []
    → [] ≡ filter (is_taken_out g c dels zone) ids
none_taken g c zone dels ids none =
    subst (λ d. [] ≡ filter (is_taken_out g c d zone) ids) (sym none) (none_at_all g c zone ids)

pub nil_of : {X : Type 0} (xs : List X) → length xs ≡ 0 → xs ≡ []
nil_of [] none = refl
nil_of (x ∷ xs) none = absurd (omega (arith, none))
