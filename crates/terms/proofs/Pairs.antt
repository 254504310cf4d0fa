-- Lists of which each two items stand in a relation, the earlier one first.
use Rattle.std.proofs.Common.{suc, List, ◌∷◌, arith, [], ◌++◌, All, map}
use Rattle.std.specs.Prelude.{AllPairs}
use Rattle.std.proofs.lemmas.List.Elements.{All-head, All-tail, All-cons, All-append, All-map, All-weaker}
use Rattle.std.proofs.lemmas.List.Kept.{AllPairs-cons}
use Rattle.terms.proofs.Each.{All_between, All_skip, All_middle, All_unmap}
use Rattle.std.proofs.Common.{get_or, length-append, subst}
use Rattle.std.proofs.lemmas.List.{get_or_append_left}

pub AllPairs_first : {X : Type 0} (R : X → X → Type 0) (x : X) (xs : List X) → AllPairs R (x ∷ xs) → All (R x) xs
AllPairs_first R x xs h = λ k d below. h 0 (suc k) d (omega arith) (omega arith)

pub AllPairs_rest : {X : Type 0} (R : X → X → Type 0) (x : X) (xs : List X) → AllPairs R (x ∷ xs) → AllPairs R xs
AllPairs_rest R x xs h = λ i j d less below. h (suc i) (suc j) d (omega arith) (omega arith)

-- a list in order stays so when an item comes in between that fits
pub AllPairs_between : {X : Type 0} (R : X → X → Type 0) (xs ys : List X) (x : X) → AllPairs R (xs ++ ys)
    → All (λ y. R y x) xs → All (R x) ys → AllPairs R (xs ++ x ∷ ys)
AllPairs_between R [] ys x h low high = AllPairs-cons R x ys high h
AllPairs_between R (y ∷ xs) ys x h low high =
    AllPairs-cons R y (xs ++ x ∷ ys) (All_between (R y) xs ys x (AllPairs_first R y (xs ++ ys) h)
    (All-head (λ y. R y x) y xs low)) (AllPairs_between R xs ys x (AllPairs_rest R y (xs ++ ys) h)
    (All-tail (λ y. R y x) y xs low) high)

-- and when one goes
pub AllPairs_without : {X : Type 0} (R : X → X → Type 0) (xs ys : List X) (x : X) → AllPairs R (xs ++ x ∷ ys)
    → AllPairs R (xs ++ ys)
AllPairs_without R [] ys x h = AllPairs_rest R x ys h
AllPairs_without R (y ∷ xs) ys x h =
    AllPairs-cons R y (xs ++ ys) (All_skip (R y) xs ys x (AllPairs_first R y (xs ++ x ∷ ys) h))
    (AllPairs_without R xs ys x (AllPairs_rest R y (xs ++ x ∷ ys) h))

-- what stands before the first of two parts, and behind the second
pub AllPairs_parts : {X : Type 0} (R : X → X → Type 0) (xs ys : List X) (x : X) → AllPairs R (xs ++ x ∷ ys)
    → All (λ y. R y x) xs × All (R x) ys
AllPairs_parts R [] ys x h = (λ k d below. absurd (omega arith), AllPairs_first R x ys h)
AllPairs_parts R (y ∷ xs) ys x h =
    let rest = AllPairs_parts R xs ys x (AllPairs_rest R y (xs ++ x ∷ ys) h) in
    (All-cons (λ y. R y x) y xs (All_middle (R y) xs x ys (AllPairs_first R y (xs ++ x ∷ ys) h)) rest.0, rest.1)

-- the front of a list in order
pub AllPairs_front : {X : Type 0} (R : X → X → Type 0) (xs ys : List X) → AllPairs R (xs ++ ys) → AllPairs R xs
AllPairs_front R xs ys all = λ i j d less below.
    let first = get_or_append_left xs ys d i (omega (arith, less, below)) in
    let second = get_or_append_left xs ys d j below in
    subst (λ a. R a (get_or xs j d)) first (subst (R (get_or (xs ++ ys) i d)) second
    (all i j d less (omega (arith, below, length-append xs ys))))

-- lists in order, one behind the other
pub AllPairs_join : {X : Type 0} (R : X → X → Type 0) (xs ys : List X) → AllPairs R xs → AllPairs R ys
    → All (λ x. All (R x) ys) xs → AllPairs R (xs ++ ys)
AllPairs_join R [] ys front back cross = back
AllPairs_join R (x ∷ xs) ys front back cross =
    AllPairs-cons R x (xs ++ ys)
    (All-append (R x) xs ys (AllPairs_first R x xs front) (All-head (λ x. All (R x) ys) x xs cross))
    (AllPairs_join R xs ys (AllPairs_rest R x xs front) back (All-tail (λ x. All (R x) ys) x xs cross))

-- an image in order, from the list and back
pub pairs_map : {X Y : Type 0} (R : X → X → Type 0) (S : Y → Y → Type 0) (f : X → Y)
    → ((x y : X) → R x y → S (f x) (f y)) → (xs : List X) → AllPairs R xs → AllPairs S (map f xs)
pairs_map R S f more [] h = λ i j d before below. absurd (omega (arith, below))
pairs_map R S f more (x ∷ xs) h =
    AllPairs-cons S (f x) (map f xs) (All-map (S (f x)) f xs
    (All-weaker (R x) (λ y. S (f x) (f y)) (more x) xs (AllPairs_first R x xs h)))
    (pairs_map R S f more xs (AllPairs_rest R x xs h))

pub pairs_unmap : {X Y : Type 0} (R : X → X → Type 0) (S : Y → Y → Type 0) (f : X → Y)
    → ((x y : X) → S (f x) (f y) → R x y) → (xs : List X) → AllPairs S (map f xs) → AllPairs R xs
pairs_unmap R S f more [] h = λ i j d before below. absurd (omega (arith, below))
pairs_unmap R S f more (x ∷ xs) h =
    AllPairs-cons R x xs (All-weaker (λ y. S (f x) (f y)) (R x) (more x) xs
    (All_unmap (S (f x)) f xs (AllPairs_first S (f x) (map f xs) h)))
    (pairs_unmap R S f more xs (AllPairs_rest S (f x) (map f xs) h))
