-- Lists beside each other: one after another, seen through a function, and along what is left of an iterator.
use Rattle.std.proofs.Common.{◌≡◌, ◌∙◌, ℕ, zero, suc, List, [], ◌∷◌, ◌++◌, map}
use Rattle.std.proofs.Common.{Some, refl, sym, ap, subst, slice_get}
use Rattle.std.proofs.Common.{append_assoc, append-nil, subst₂}
use Rattle.terms.specs.Beside.{Beside}
use Rattle.terms.proofs.BesideLists.{beside_more}

module _ {X Y : Type 0} (R : X → Y → Type 0) where
  abbrev pub By : ℕ → X → Y → Type 0
  By n x y = R x y

  pub beside_nil : Beside By [] []
  beside_nil = record { lengths = refl; each = λ n x y at other. absurd (cc at) }

  -- what a loop over an iterator has gone through, beside what it has made
  pub record BesideFront (all rest : List X) (ys : List Y) : Type 0 where
    pub front : List X
    pub split : front ++ rest ≡ all
    pub beside : Beside By front ys

  pub front_nil : (all : List X) → BesideFront all all []
  front_nil all = record { front = []; split = refl; beside = beside_nil }

  pub front_next : (all rest more : List X) (ys new : List Y) (x : X) (y : Y) → BesideFront all rest ys
      → rest ≡ x ∷ more → new ≡ ys ++ y ∷ [] → R x y → BesideFront all more new
  front_next all rest more ys new x y b is made r = record {
    front = b.front ++ x ∷ [];
    split = append_assoc b.front (x ∷ []) more ∙ ap (λ l. b.front ++ l) (sym is) ∙ b.split;
    beside = subst (Beside By (b.front ++ x ∷ [])) (sym made) (beside_more By b.front ys x y b.beside r);
  }

  pub front_all : (all rest : List X) (ys : List Y) → BesideFront all rest ys → rest ≡ [] → Beside By all ys
  front_all all rest ys b none =
      subst (λ l. Beside By l ys) (sym (append-nil b.front) ∙ ap (λ l. b.front ++ l) (sym none) ∙ b.split) b.beside

  -- one more in front
  cons_beside : (x : X) (xs : List X) (y : Y) (ys : List Y) → R x y → Beside By xs ys → Beside By (x ∷ xs) (y ∷ ys)
  cons_beside x xs y ys r b = record {
    lengths = ap suc b.lengths;
    each = each;
  }
    where
      each : (n : ℕ) (v : X) (w : Y) → slice_get (x ∷ xs) n ≡ Some v → slice_get (y ∷ ys) n ≡ Some w → R v w
      each zero v w at other = subst₂ R (cc at) (cc other) r
      each (suc n) v w at other = b.each n v w at other

  pub tail_beside : (x : X) (xs : List X) (y : Y) (ys : List Y) → Beside By (x ∷ xs) (y ∷ ys) → Beside By xs ys
  tail_beside x xs y ys b = record {
    lengths = cc b.lengths;
    each = λ n v w at other. b.each (suc n) v w at other;
  }

  pub beside_cons : (x : X) (xs : List X) (y : Y) (ys : List Y) → R x y → Beside By xs ys
      → Beside By (x ∷ xs) (y ∷ ys)
  beside_cons = cons_beside

  -- one pair of lists behind another
  pub beside_append : (xs more : List X) (ys new : List Y) → Beside By xs ys → Beside By more new
      → Beside By (xs ++ more) (ys ++ new)
  beside_append [] more [] new b c = c
  beside_append [] more (y ∷ ys) new b c = absurd (cc b.lengths)
  beside_append (x ∷ xs) more [] new b c = absurd (cc b.lengths)
  beside_append (x ∷ xs) more (y ∷ ys) new b c =
      cons_beside x (xs ++ more) y (ys ++ new) (b.each zero x y refl refl)
      (beside_append xs more ys new (tail_beside x xs y ys b) c)

-- beside a list of which a function is seen
pub beside_map : {X Y Z : Type 0} (R : X → Z → Type 0) (f : Y → Z) (xs : List X) (ys : List Y)
    → Beside (λ n x y. R x (f y)) xs ys → Beside (λ n x z. R x z) xs (map f ys)
beside_map R f [] [] b = beside_nil R
beside_map R f [] (y ∷ ys) b = absurd (cc b.lengths)
beside_map R f (x ∷ xs) [] b = absurd (cc b.lengths)
beside_map R f (x ∷ xs) (y ∷ ys) b =
    beside_cons R x xs (f y) (map f ys) (b.each zero x y refl refl)
    (beside_map R f xs ys (tail_beside (λ x y. R x (f y)) x xs y ys b))
