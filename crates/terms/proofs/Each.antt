-- What holds of each item of a list, or of some item.
use Rattle.std.proofs.Common.{List, [], ◌∷◌, ◌++◌, ◌<◌, map, subst, sym, refl, arith, suc, ◌≡◌, ◌⊎◌, ℕ, zero, length}
use Rattle.std.proofs.Common.{inl, inr, get_or, ◌∙◌, ap}
use Rattle.std.specs.List.{All, AllByRecursion, Any}
use Rattle.std.specs.Prelude.{Contains}
use Rattle.std.proofs.Math.ListN.{get_or-map}
use Rattle.std.proofs.lemmas.List.{length-map, length-append, get_or_append_left}
use Rattle.std.proofs.lemmas.List.Elements.{All-head, All-tail, All-cons, All-nil, Contains-get_or}

-- what each item of a list has, they all have
pub All_from_each : {X : Type 0} (P : X → Type 0) (xs : List X) → ((x : X) → Contains xs x → P x) → All P xs
All_from_each P xs each = λ k d below. each (get_or xs k d) (Contains-get_or xs k d below)

pub All_middle : {X : Type 0} (P : X → Type 0) (before : List X) (x : X) (after : List X) → All P (before ++ x ∷ after)
    → P x
All_middle P [] x after h = All-head P x after h
All_middle P (y ∷ before) x after h = All_middle P before x after (All-tail P y (before ++ x ∷ after) h)

-- a fact of all items stays when one comes in between that has it
pub All_between : {X : Type 0} (P : X → Type 0) (xs ys : List X) (x : X) → All P (xs ++ ys) → P x → All P (xs ++ x ∷ ys)
All_between P [] ys x h p = All-cons P x ys p h
All_between P (y ∷ xs) ys x h p =
    All-cons P y (xs ++ x ∷ ys) (All-head P y (xs ++ ys) h) (All_between P xs ys x (All-tail P y (xs ++ ys) h) p)

-- and when one goes
pub All_skip : {X : Type 0} (P : X → Type 0) (xs ys : List X) (x : X) → All P (xs ++ x ∷ ys) → All P (xs ++ ys)
All_skip P [] ys x h = All-tail P x ys h
All_skip P (y ∷ xs) ys x h =
    All-cons P y (xs ++ ys) (All-head P y (xs ++ x ∷ ys) h) (All_skip P xs ys x (All-tail P y (xs ++ x ∷ ys) h))

pub All_front : {X : Type 0} (P : X → Type 0) (xs ys : List X) → All P (xs ++ ys) → All P xs
All_front P [] ys h = All-nil P
All_front P (x ∷ xs) ys h = All-cons P x xs (All-head P x (xs ++ ys) h) (All_front P xs ys (All-tail P x (xs ++ ys) h))

pub All_back : {X : Type 0} (P : X → Type 0) (xs ys : List X) → All P (xs ++ ys) → All P ys
All_back P [] ys h = h
All_back P (x ∷ xs) ys h = All_back P xs ys (All-tail P x (xs ++ ys) h)

-- the converse of `All-map`
pub All_unmap : {X Y : Type 0} (P : Y → Type 0) (f : X → Y) (xs : List X) → All P (map f xs) → All (λ x. P (f x)) xs
All_unmap P f xs h k d below =
    subst P (get_or-map f xs k d) (h k (f d) (subst (λ n. k < n) (sym (length-map xs f)) below))

-- the same of facts that are stated by recursion over the list
pub recursion_weaker : {X : Type 0} (P Q : X → Type 0) → ((x : X) → P x → Q x) → (xs : List X) → AllByRecursion P xs
    → AllByRecursion Q xs
recursion_weaker P Q h [] all = tt
recursion_weaker P Q h (x ∷ xs) all = (h x all.0, recursion_weaker P Q h xs all.1)

pub recursion_append : {X : Type 0} (P : X → Type 0) → (xs ys : List X) → AllByRecursion P xs → AllByRecursion P ys
    → AllByRecursion P (xs ++ ys)
recursion_append P [] ys all more = more
recursion_append P (x ∷ xs) ys all more = (all.0, recursion_append P xs ys all.1 more)

pub recursion_front : {A : Type 0} (P : A → Type 0) (xs ys : List A) → AllByRecursion P (xs ++ ys) → AllByRecursion P xs
recursion_front P [] ys h = tt
recursion_front P (x ∷ xs) ys h = (h.0, recursion_front P xs ys h.1)

pub recursion_back : {A : Type 0} (P : A → Type 0) (xs ys : List A) → AllByRecursion P (xs ++ ys) → AllByRecursion P ys
recursion_back P [] ys h = h
recursion_back P (x ∷ xs) ys h = recursion_back P xs ys h.1

pub recursion_map : {X Y : Type 0} (f : X → Y) (P : Y → Type 0) (xs : List X) → AllByRecursion (λ x. P (f x)) xs
    → AllByRecursion P (map f xs)
recursion_map f P [] h = tt
recursion_map f P (x ∷ xs) h = (h.0, recursion_map f P xs h.1)

pub recursion_unmap : {X Y : Type 0} (f : X → Y) (P : Y → Type 0) (xs : List X) → AllByRecursion P (map f xs)
    → AllByRecursion (λ x. P (f x)) xs
recursion_unmap f P [] h = tt
recursion_unmap f P (x ∷ xs) h = (h.0, recursion_unmap f P xs h.1)

-- some item
pub any_here : {X : Type 0} (P : X → Type 0) (x : X) (xs : List X) → P x → Any P (x ∷ xs)
any_here P x xs p = (0, x, omega arith, refl, p)

pub any_later : {X : Type 0} (P : X → Type 0) (x : X) (xs : List X) → Any P xs → Any P (x ∷ xs)
any_later P x xs a = (suc a.0, a.1, omega (arith, a.2), a.3, a.4)

pub any_at_place : {X : Type 0} (P : X → Type 0) (x : X) (xs : List X) (k : ℕ) (y : X) → k < length (x ∷ xs)
    → get_or (x ∷ xs) k y ≡ y → P y → P x ⊎ Any P xs
any_at_place P x xs zero y below at p = inl (subst P (sym at) p)
any_at_place P x xs (suc k) y below at p = inr (k, y, omega (arith, below), at, p)

pub any_cases : {X : Type 0} (P : X → Type 0) (x : X) (xs : List X) → Any P (x ∷ xs) → P x ⊎ Any P xs
any_cases P x xs a = any_at_place P x xs a.0 a.1 a.2 a.3 a.4

pub any_none : {X : Type 0} (P : X → Type 0) → Any P [] → ⊥
any_none P a = let below = a.2 in omega arith

pub Any_append_left : {X : Type 0} (P : X → Type 0) (xs ys : List X) → Any P xs → Any P (xs ++ ys)
Any_append_left P xs ys a =
    let len = length-append xs ys in
    let below = a.2 in
    (a.0, a.1, omega (arith, len, below), get_or_append_left xs ys a.1 a.0 below ∙ a.3, a.4)

pub Any_push_cases : {X : Type 0} (P : X → Type 0) (xs : List X) (y : X) → Any P (xs ++ y ∷ []) → Any P xs ⊎ P y
Any_push_cases P [] y a = elim (any_cases P y [] a) [ inl here ↦ inr here | inr none ↦ absurd (any_none P none) ]
Any_push_cases P (x ∷ xs) y a =
    elim (any_cases P x (xs ++ y ∷ []) a) [
      | inl here ↦ inl (any_here P x xs here)
      | inr rest ↦ elim (Any_push_cases P xs y rest) [ inl later ↦ inl (any_later P x xs later) | inr last ↦ inr last ]
    ]

-- an item that has it, and a list that has such an item
pub any_in : {X : Type 0} (P : X → Type 0) (xs : List X) (x : X) → Contains xs x → P x → Any P xs
any_in P xs x h p = (h.0, x, h.1, h.2, p)

pub in_any : {X : Type 0} (P : X → Type 0) (xs : List X) → Any P xs → (x : X) × Contains xs x × P x
in_any P xs any = (any.1, (any.0, any.2, any.3), any.4)

pub any_weaker : {X : Type 0} (P Q : X → Type 0) → ((x : X) → P x → Q x) → (xs : List X) → Any P xs → Any Q xs
any_weaker P Q more xs any = (any.0, any.1, any.2, any.3, more any.1 any.4)

-- some image, and some item at its image
pub any_map : {X Y : Type 0} (P : Y → Type 0) (f : X → Y) (xs : List X) → Any (λ x. P (f x)) xs → Any P (map f xs)
any_map P f xs a = (a.0, f a.1, rw length-map a.2, get_or-map f xs a.0 a.1 ∙ ap f a.3, a.4)

pub any_unmap : {X Y : Type 0} (P : Y → Type 0) (f : X → Y) (xs : List X) → Any P (map f xs) → Any (λ x. P (f x)) xs
any_unmap P f [] a = absurd (any_none P a)
any_unmap P f (x ∷ xs) a = elim (any_cases P (f x) (map f xs) a) [
  | inl here ↦ any_here (λ x. P (f x)) x xs here
  | inr later ↦ any_later (λ x. P (f x)) x xs (any_unmap P f xs later)
]
