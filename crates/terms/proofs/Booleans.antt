-- Booleans, beyond what std has on them.
use Rattle.std.proofs.Common.{◌≡◌, ◌&&◌, Bool, refl, true, false, ◌||◌, not, sym, IsTrue, true≢false, List, [], ◌∷◌}
use Rattle.std.proofs.Common.{map, ap, cond}

pub and_assoc : (a b c : Bool) → (a && (b && c)) ≡ ((a && b) && c)
and_assoc true b c = refl
and_assoc false b c = refl

pub or_assoc : (a b c : Bool) → (a || (b || c)) ≡ ((a || b) || c)
or_assoc true b c = refl
or_assoc false b c = refl

pub or_false : (b : Bool) → (b || false) ≡ b
or_false true = refl
or_false false = refl

-- two denials together
pub neither : (a b : Bool) → IsTrue (not a && not b) → (a ≡ false) × (b ≡ false)
neither true b fits = absurd (true≢false (sym fits))
neither false true fits = absurd (true≢false (sym fits))
neither false false fits = (refl, refl)

pub both_none : (a b : Bool) → a ≡ false → b ≡ false → IsTrue (not a && not b)
both_none a b e f = rw (e, f) refl

-- what a denial says
pub false_from_not : (b : Bool) → not b ≡ true → b ≡ false
false_from_not true e = absurd (true≢false (sym e))
false_from_not false e = refl

pub true_from_not : (b : Bool) → not b ≡ false → b ≡ true
true_from_not true e = refl
true_from_not false e = absurd (true≢false e)

-- tests that hold of the same are the same
pub same_truth : (a b : Bool) → (a ≡ true → b ≡ true) → (b ≡ true → a ≡ true) → a ≡ b
same_truth true b up down = sym (up refl)
same_truth false true up down = down refl
same_truth false false up down = refl

-- flags turned round twice
pub turned_twice : (flags : List Bool) → map not (map not flags) ≡ flags
turned_twice [] = refl
turned_twice (true ∷ bs) = ap (λ cs. true ∷ cs) (turned_twice bs)
turned_twice (false ∷ bs) = ap (λ cs. false ∷ cs) (turned_twice bs)

-- either way the same
pub cond_same : {X : Type 0} (b : Bool) (x : X) → cond b x x ≡ x
cond_same true x = refl
cond_same false x = refl
