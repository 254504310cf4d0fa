-- Some item of a list that grows or is put in another order.
use Rattle.std.proofs.Common.{◌≡◌, ◌<◌, ℕ, List, ◌++◌, Some, IsPermutation, Contains, slice_get, sym, ap, ◌∙◌}
use Rattle.std.proofs.Common.{◌+◌, length, get_or, take, map, subst}
use Rattle.std.specs.List.{All, Any}
use Rattle.std.proofs.lemmas.List.Elements.{Contains-append_right, All-contains}
use Rattle.std.proofs.lemmas.List.Sorted.{Contains-permutation, IsPermutation-sym}
use Rattle.std.proofs.lemmas.Option.{slice_get_within, get_or_from_slice_get}
use Rattle.terms.proofs.Each.{any_in, in_any, All_from_each}
use Rattle.terms.proofs.Places.{at_place}
use Rattle.terms.proofs.ListMembers.{in_map}
use Rattle.terms.proofs.BesideLists.{all_next}
use Rattle.std.proofs.lemmas.List.{get_or_default}

pub Any_append_right : {X : Type 0} (P : X → Type 0) (xs ys : List X) → Any P ys → Any P (xs ++ ys)
Any_append_right P xs ys any =
    let m = in_any P ys any in any_in P (xs ++ ys) m.0 (Contains-append_right xs ys m.0 m.1) m.2

pub Any_permuted : {X : Type 0} (P : X → Type 0) (xs ys : List X) → IsPermutation xs ys → Any P xs → Any P ys
Any_permuted P xs ys same any =
    let m = in_any P xs any in any_in P ys m.0 (Contains-permutation xs ys m.0 same m.1) m.2

pub All_permuted : {X : Type 0} (P : X → Type 0) (xs ys : List X) → IsPermutation xs ys → All P xs → All P ys
All_permuted P xs ys same all =
    All_from_each P ys (λ x h. All-contains P xs x all (Contains-permutation ys xs x (IsPermutation-sym xs ys same) h))

pub contains_at : {X : Type 0} (xs : List X) (n : ℕ) (x : X) → slice_get xs n ≡ Some x → Contains xs x
contains_at xs n x e = (n, slice_get_within xs n x e, get_or_from_slice_get xs n x x e)

pub stands_at : {X : Type 0} (xs : List X) (x : X) (h : Contains xs x) → slice_get xs h.0 ≡ Some x
stands_at xs x h =
    let p = at_place xs h.0 h.1 in
    let same : p.0 ≡ x = sym (get_or_from_slice_get xs h.0 p.0 x p.1) ∙ h.2 in
    p.1 ∙ ap (λ t. Some t) same

-- an item that a loop is at
pub contains_here : {X : Type 0} (xs : List X) (i : ℕ) (x : X) → i < length xs → x ≡ get_or xs i x → Contains xs x
contains_here xs i x below at = (i, below, sym at)

pub contains_place : {X : Type 0} (xs : List X) (i : ℕ) (d : X) → i < length xs → Contains xs (get_or xs i d)
contains_place xs i d below = (i, below, get_or_default xs i (get_or xs i d) d below)

-- what all in front of a place have, and the one there has too
pub all_more : {X : Type 0} (P : X → Type 0) (xs : List X) (i : ℕ) (d : X) → i < length xs → P (get_or xs i d)
    → All P (take i xs) → All P (take (i + 1) xs)
all_more P xs i d below p all =
    all_next P xs i (get_or xs i d) below (get_or_default xs i d (get_or xs i d) below) p all

-- the same of what a list is seen as
pub place_seen : {X Y : Type 0} (now : X → Y) (xs : List X) (ys : List Y) (i : ℕ) (d : X) → map now xs ≡ ys
    → i < length xs → Contains ys (now (get_or xs i d))
place_seen now xs ys i d are below =
    subst (λ l. Contains l (now (get_or xs i d))) are (in_map now xs (get_or xs i d) (contains_place xs i d below))

pub more_seen : {X Y : Type 0} (now : X → Y) (P : Y → Type 0) (xs : List X) (i : ℕ) (d : X) → i < length xs
    → P (now (get_or xs i d)) → All (λ x. P (now x)) (take i xs) → All (λ x. P (now x)) (take (i + 1) xs)
more_seen now P xs i d below p all = all_more (λ x. P (now x)) xs i d below p all
