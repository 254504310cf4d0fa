-- Lists that rise by a key and have the same at each key are one, and so are zones.
use Rattle.std.proofs.Common.{◌≡◌, Bool, true, false, IsTrue, List, [], ◌∷◌, refl, sym, ap, ◌∙◌, cond, true≢false}
use Rattle.std.proofs.Common.{subst}
use Rattle.std.specs.Prelude.{Contains, find, Option, Some, None}
use Rattle.std.specs.declared.cmp.Ordering.{Ordering}
use Rattle.std.specs.declared.cmp.Ordering.TheVariants.{Equal}
use Rattle.std.specs.Ordering.{is_lt, is_eq, ordering_reverse}
use Rattle.std.specs.Cmp.{IsTotalOrder}
use Rattle.std.proofs.lemmas.Cmp.{tied_itself, alike_right}
use Rattle.terms.proofs.Orderings.{Equal_from_is_eq, Less_from_is_lt}
use Rattle.terms.proofs.Searches.{find_gives}
use Rattle.terms.specs.Rising.{Rises}
use Rattle.terms.proofs.Pairs.{AllPairs_first, AllPairs_rest}

module _ {X K : Type 0} {R : K → K → Ordering} (o : IsTotalOrder R) (key : X → K) (E : K → K → Bool)
    (ties : (a b : K) → E a b ≡ is_eq (R a b)) where
  itself : (k : K) → E k k ≡ true
  itself k = ties k k ∙ ap is_eq (tied_itself o k)

  not_below : {A : Type 0} (r : Ordering) → r ≡ Equal → is_lt r ≡ true → A
  not_below r e l = absurd (true≢false (sym l ∙ ap is_lt e))

  -- an item behind the first one has a greater key
  above : (x : X) (xs : List X) (y : X) → Rises R key (x ∷ xs) → Contains xs y → is_lt (R (key x) (key y)) ≡ true
  above x xs y rises there =
      subst (λ v. is_lt (R (key x) (key v)) ≡ true) there.2
      (AllPairs_first (λ a b. IsTrue (is_lt (R (key a) (key b)))) x xs rises there.0 y there.1)

  -- so behind the first one nothing has its key
  pub none_behind : (x : X) (xs : List X) (k : K) → Rises R key (x ∷ xs) → E (key x) k ≡ true
      → find (λ y. E (key y) k) xs ≡ None
  none_behind x xs k rises tie = by_found (find (λ y. E (key y) k) xs) refl
    where
      by_found : (found : Option X) → find (λ y. E (key y) k) xs ≡ found → find (λ y. E (key y) k) xs ≡ None
      by_found None f = f
      by_found (Some y) f =
          let g = find_gives (λ v. E (key v) k) xs y f in
          let at_x = Equal_from_is_eq (R (key x) k) (sym (ties (key x) k) ∙ tie) in
          let at_y = Equal_from_is_eq (R (key y) k) (sym (ties (key y) k) ∙ g.0) in
          not_below (R (key x) (key y)) (alike_right o (key y) k (key x) at_y ∙ at_x) (above x xs y rises g.1)

  abbrev pub Same : List X → List X → Type 0
  Same xs ys = (k : K) → find (λ x. E (key x) k) xs ≡ find (λ y. E (key y) k) ys

  first : (x : X) (xs : List X) → find (λ y. E (key y) (key x)) (x ∷ xs) ≡ Some x
  first x xs = ap (λ b. cond b (Some x) (find (λ y. E (key y) (key x)) xs)) (itself (key x))

  past : (x : X) (xs : List X) (k : K) → E (key x) k ≡ false
      → find (λ y. E (key y) k) (x ∷ xs) ≡ find (λ y. E (key y) k) xs
  past x xs k e = ap (λ b. cond b (Some x) (find (λ y. E (key y) k) xs)) e

  -- the first ones are the same
  heads : (x y : X) (xs ys : List X) → Rises R key (x ∷ xs) → Rises R key (y ∷ ys) → Same (x ∷ xs) (y ∷ ys) → x ≡ y
  heads x y xs ys rx ry same = by_tie (E (key y) (key x)) refl (E (key x) (key y)) refl
    where
      at_x : find (λ v. E (key v) (key x)) (y ∷ ys) ≡ Some x
      at_x = sym (same (key x)) ∙ first x xs

      at_y : find (λ v. E (key v) (key y)) (x ∷ xs) ≡ Some y
      at_y = same (key y) ∙ first y ys

      by_tie : (b : Bool) → E (key y) (key x) ≡ b → (c : Bool) → E (key x) (key y) ≡ c → x ≡ y
      by_tie true e c f = let is : Some y ≡ Some x = sym (ap (λ b. cond b (Some y) (find (λ v. E (key v) (key x)) ys))
          e) ∙ at_x in cc is
      by_tie false e true f = let is : Some x ≡ Some y = sym
          (ap (λ b. cond b (Some x) (find (λ v. E (key v) (key y)) xs)) f) ∙ at_y in cc is
      by_tie false e false f =
          let g = find_gives (λ v. E (key v) (key x)) ys x (sym (past y ys (key x) e) ∙ at_x) in
          let h = find_gives (λ v. E (key v) (key y)) xs y (sym (past x xs (key y) f) ∙ at_y) in
          let less = Less_from_is_lt (R (key x) (key y)) (above x xs y rx h.1) in
          let more = above y ys x ry g.1 in
          absurd (true≢false (sym more ∙ ap is_lt (o.antisymm (key y) (key x))
          ∙ ap (λ r. is_lt (ordering_reverse r)) less))

  -- two lists that rise and in which each key finds the same are one
  pub rising_same : (xs ys : List X) → Rises R key xs → Rises R key ys → Same xs ys → xs ≡ ys
  rising_same [] [] rx ry same = refl
  rising_same [] (y ∷ ys) rx ry same = let is : None ≡ Some y = same (key y) ∙ first y ys in cc is
  rising_same (x ∷ xs) [] rx ry same = let is : Some x ≡ None = sym (first x xs) ∙ same (key x) in cc is
  rising_same (x ∷ xs) (y ∷ ys) rx ry same =
      let is = heads x y xs ys rx ry same in
      let Below : X → X → Type 0 = λ a b. IsTrue (is_lt (R (key a) (key b))) in
      ap (λ v. v ∷ xs) is ∙ ap (λ vs. y ∷ vs) (rising_same xs ys (AllPairs_rest Below x xs rx)
      (AllPairs_rest Below y ys ry) (rest is))
    where
      rest : x ≡ y → Same xs ys
      rest is k = by_tie (E (key x) k) refl
        where
          by_tie : (b : Bool) → E (key x) k ≡ b → find (λ v. E (key v) k) xs ≡ find (λ v. E (key v) k) ys
          by_tie true e = none_behind x xs k rx e ∙ sym (none_behind y ys k ry (subst (λ v. E (key v) k ≡ true) is e))
          by_tie false e = sym (past x xs k e) ∙ same k ∙ past y ys k (subst (λ v. E (key v) k ≡ false) is e)
