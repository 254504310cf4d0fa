-- Searches, tests of all items and filters.
use Rattle.std.proofs.Common.{◌≡◌, Bool, true, List, [], ◌∷◌, refl, ap, false, filter, ◌++◌, find, None, cond, Some}
use Rattle.std.proofs.Common.{subst, suc, IsTrue, arith, All, sym, ◌∙◌, map, true≢false, get_or, inl, inr}
use Rattle.std.specs.List.{AllByRecursion, list_any}
use Rattle.std.specs.Option.{option_map}
use Rattle.std.specs.Prelude.{Contains, ◌||◌}
use Rattle.std.proofs.lemmas.Bool.{false≢true, cases_Bool}
use Rattle.std.proofs.lemmas.List.Elements.{All-head, All-tail}
use Rattle.std.proofs.lemmas.List.Folds.{list_any_at}
use Rattle.std.proofs.Common.{ℕ, ◌<◌, ◌≤◌, ◌+◌, length, take, is_some, slice_get, unwrap_or}
use Rattle.std.specs.Prelude.{◌&&◌, position}
use Rattle.std.specs.List.{list_all, prefix_len}
use Rattle.std.proofs.lemmas.Bool.{and_parts}
use Rattle.std.proofs.lemmas.List.{get_or-take, length-take-le}
use Rattle.std.proofs.lemmas.List.Elements.{All-contains, filter_more}
use Rattle.std.proofs.lemmas.List.Folds.{Any-from_list_any}
use Rattle.std.proofs.lemmas.List.Sums.{prefix_len_passes, prefix_len-le-length, length-filter, count_by-le-length}
use Rattle.terms.proofs.ListMembers.{here, here_or, there, none_in}

-- a filter that each item passes, or none
pub filter_all : {X : Type 0} (p : X → Bool) (xs : List X) → All (λ x. p x ≡ true) xs → filter p xs ≡ xs
filter_all p [] h = refl
filter_all p (x ∷ xs) h =
    rw (All-head (λ x. p x ≡ true) x xs h) (ap (λ ys. x ∷ ys) (filter_all p xs (All-tail (λ x. p x ≡ true) x xs h)))

pub filter_none : {X : Type 0} (p : X → Bool) (xs : List X) → All (λ x. p x ≡ false) xs → filter p xs ≡ []
filter_none p [] h = refl
filter_none p (x ∷ xs) h =
    rw (All-head (λ x. p x ≡ false) x xs h) (filter_none p xs (All-tail (λ x. p x ≡ false) x xs h))

pub filter_all_recursion : {X : Type 0} (p : X → Bool) (xs : List X) → AllByRecursion (λ x. p x ≡ true) xs
    → filter p xs ≡ xs
filter_all_recursion p [] all = refl
filter_all_recursion p (x ∷ xs) all = rw all.0 (ap (λ ys. x ∷ ys) (filter_all_recursion p xs all.1))

pub filter_none_recursion : {X : Type 0} (p : X → Bool) (xs : List X) → AllByRecursion (λ x. p x ≡ false) xs
    → filter p xs ≡ []
filter_none_recursion p [] all = refl
filter_none_recursion p (x ∷ xs) all = rw all.0 (filter_none_recursion p xs all.1)

-- a search passes over what fails its test
pub find_over : {X : Type 0} (p : X → Bool) (xs ys : List X) → All (λ x. p x ≡ false) xs → find p (xs ++ ys) ≡ find p ys
find_over p [] ys h = refl
find_over p (x ∷ xs) ys h =
    rw (All-head (λ x. p x ≡ false) x xs h) (find_over p xs ys (All-tail (λ x. p x ≡ false) x xs h))

pub find_append_rest : {X : Type 0} (p : X → Bool) (xs ys : List X) → AllByRecursion (λ x. p x ≡ false) xs
    → find p (xs ++ ys) ≡ find p ys
find_append_rest p [] ys none = refl
find_append_rest p (x ∷ xs) ys none = rw none.0 (find_append_rest p xs ys none.1)

pub find_none : {X : Type 0} (p : X → Bool) (xs : List X) → AllByRecursion (λ x. p x ≡ false) xs → find p xs ≡ None
find_none p [] none = refl
find_none p (x ∷ xs) none = rw none.0 (find_none p xs none.1)

pub find_append_first : {X : Type 0} (p : X → Bool) (xs ys : List X) → AllByRecursion (λ x. p x ≡ false) ys
    → find p (xs ++ ys) ≡ find p xs
find_append_first p [] ys none = find_none p ys none
find_append_first p (x ∷ xs) ys none = ap (cond (p x) (Some x)) (find_append_first p xs ys none)

-- where one of two lists has nothing, the other one decides
pub find_second : {X : Type 0} (p : X → Bool) (xs ys : List X) → find p xs ≡ None → find p (xs ++ ys) ≡ find p ys
find_second p [] ys e = refl
find_second p (x ∷ xs) ys e = by_found (find_second p xs ys) (p x) refl
  where
    by_found : (find p xs ≡ None → find p (xs ++ ys) ≡ find p ys) → (found : Bool) → p x ≡ found
        → find p ((x ∷ xs) ++ ys) ≡ find p ys
    by_found rest true f = let impossible : Some x ≡ None = rw f at e in cc
    by_found rest false f = let none : find p xs ≡ None = rw f at e in rw f (rest none)

pub find_first : {X : Type 0} (p : X → Bool) (xs ys : List X) → find p ys ≡ None → find p (xs ++ ys) ≡ find p xs
find_first p [] ys e = e
find_first p (x ∷ xs) ys e = ap (λ found. cond (p x) (Some x) found) (find_first p xs ys e)

-- what a search finds passes its test, stands in the list, and has what all items have
pub find_passes : {X : Type 0} (p : X → Bool) (xs : List X) (x : X) → find p xs ≡ Some x → p x ≡ true
find_passes p [] x found = cc
find_passes p (y ∷ xs) x found = by (find_passes p xs x) (p y) refl
  where
    by : (find p xs ≡ Some x → p x ≡ true) → (b : Bool) → p y ≡ b → p x ≡ true
    by again true e = let now = rw e at found in let same : y ≡ x = cc in subst (λ z. p z ≡ true) same e
    by again false e = let now = rw e at found in again now

pub find_gives : {X : Type 0} (p : X → Bool) (xs : List X) (x : X) → find p xs ≡ Some x → IsTrue (p x) × Contains xs x
find_gives p [] x e = absurd (cc e)
find_gives {X} p (y ∷ ys) x e = by_found (find_gives p ys x) (p y) refl
  where
    by_found : (find p ys ≡ Some x → IsTrue (p x) × Contains ys x) → (found : Bool) → p y ≡ found
        → IsTrue (p x) × Contains (y ∷ ys) x
    by_found rest true f =
        let same : Some y ≡ Some x = rw f at e in
        let is : y ≡ x = cc same in
        (subst (λ v. IsTrue (p v)) is f, (0, omega arith, is))
    by_found rest false f =
        let later : find p ys ≡ Some x = rw f at e in
        let g = rest later in
        (g.0, (suc g.1.0, omega (arith, g.1.1), g.1.2))

pub All_find : {X : Type 0} (P : X → Type 0) (p : X → Bool) (xs : List X) (x : X) → All P xs → find p xs ≡ Some x → P x
All_find P p [] x all found = absurd (none_some found)
  where
    none_some : None ≡ Some x → ⊥
    none_some e = cc
All_find P p (y ∷ xs) x all found = by (All_find P p xs x (All-tail P y xs all)) (p y) refl
  where
    by : (find p xs ≡ Some x → P x) → (b : Bool) → p y ≡ b → P x
    by again true e = let now = rw e at found in let same : y ≡ x = cc in subst P same (All-head P y xs all)
    by again false e = let now = rw e at found in again now

-- a filter that lets through what a search looks for changes nothing for it, and one that does not leaves nothing
pub find_filter_all : {X : Type 0} (p q : X → Bool) → ((x : X) → p x ≡ true → q x ≡ true) → (xs : List X)
    → find p (filter q xs) ≡ find p xs
find_filter_all p q h [] = refl
find_filter_all {X} p q h (x ∷ xs) = by_found (find_filter_all p q h xs) (p x) (q x) refl refl
  where
    by_found : find p (filter q xs) ≡ find p xs → (found passes : Bool) → p x ≡ found → q x ≡ passes
        → find p (filter q (x ∷ xs)) ≡ find p (x ∷ xs)
    by_found rest true true e f = rw (f, e) refl
    by_found rest true false e f = absurd (false≢true (sym f ∙ h x e))
    by_found rest false true e f = rw (f, e) rest
    by_found rest false false e f = rw (f, e) rest

pub find_filter_none : {X : Type 0} (p q : X → Bool) → ((x : X) → p x ≡ true → q x ≡ false) → (xs : List X)
    → find p (filter q xs) ≡ None
find_filter_none p q h [] = refl
find_filter_none {X} p q h (x ∷ xs) = by_found (find_filter_none p q h xs) (p x) (q x) refl refl
  where
    by_found : find p (filter q xs) ≡ None → (found passes : Bool) → p x ≡ found → q x ≡ passes
        → find p (filter q (x ∷ xs)) ≡ None
    by_found rest true true e f = absurd (false≢true (sym (h x e) ∙ f))
    by_found rest true false e f = rw f rest
    by_found rest false true e f = rw (f, e) rest
    by_found rest false false e f = rw f rest

-- what is found among the images, by a test that asks for the same
pub find_mapped : {X Y : Type 0} (p : X → Bool) (q : Y → Bool) (f : X → Y) → ((x : X) → q (f x) ≡ p x) → (xs : List X)
    → find q (map f xs) ≡ option_map f (find p xs)
find_mapped p q f same [] = refl
find_mapped p q f same (x ∷ xs) = by (find_mapped p q f same xs) (p x) refl
  where
    by : find q (map f xs) ≡ option_map f (find p xs) → (b : Bool) → p x ≡ b
        → find q (map f (x ∷ xs)) ≡ option_map f (find p (x ∷ xs))
    by again true e = rw (same x, e) refl
    by again false e = rw (same x, e) again

-- a search that does not see the difference
pub find_map : {X : Type 0} (p : X → Bool) (f : X → X) → ((x : X) → p (f x) ≡ p x) → (xs : List X)
    → find p (map f xs) ≡ option_map f (find p xs)
find_map p f = find_mapped p p f

pub find_agree : {X : Type 0} (p q : X → Bool) → ((x : X) → p x ≡ q x) → (xs : List X) → find p xs ≡ find q xs
find_agree p q same [] = refl
find_agree p q same (x ∷ xs) = ap (λ b. cond b (Some x) (find p xs)) (same x)
    ∙ ap (λ found. cond (q x) (Some x) found) (find_agree p q same xs)

pub list_any_map : {X Y : Type 0} (p : Y → Bool) (f : X → Y) (xs : List X)
    → list_any p (map f xs) ≡ list_any (λ x. p (f x)) xs
list_any_map p f [] = refl
list_any_map p f (x ∷ xs) = ap (λ b. p (f x) || b) (list_any_map p f xs)

-- fewer pass
pub list_any_fewer : {X : Type 0} (p q : X → Bool) (xs : List X) → ((x : X) → p x ≡ false → q x ≡ false)
    → list_any p xs ≡ false → list_any q xs ≡ false
list_any_fewer p q [] fewer none = refl
list_any_fewer p q (x ∷ xs) fewer none = by (list_any_fewer p q xs fewer) (p x) refl
  where
    by : (list_any p xs ≡ false → list_any q xs ≡ false) → (b : Bool) → p x ≡ b → list_any q (x ∷ xs) ≡ false
    by again true e = absurd (true≢false (rw e at none))
    by again false e = let rest = rw e at none in rw (fewer x e) (again rest)

pub All_from_no_list_any : {X : Type 0} (p : X → Bool) (xs : List X) → list_any p xs ≡ false → All (λ x. p x ≡ false) xs
All_from_no_list_any p xs none k d below =
    elim (cases_Bool (p (get_or xs k d))) [
      | inl holding ↦ absurd (cc (none, list_any_at p xs k d below holding))
      | inr failing ↦ failing
    ]

-- a test of all items, of some and of none, by the items
pub passes_all : {X : Type 0} (p : X → Bool) (xs : List X) (x : X) → list_all p xs ≡ true → Contains xs x → p x ≡ true
passes_all p [] x all h = absurd (none_in x h)
passes_all p (y ∷ ys) x all h =
    let parts = and_parts (p y) (list_all p ys) all in
    elim (here_or y ys x h) [
      | inl same ↦ subst (λ v. p v ≡ true) same parts.0
      | inr later ↦ passes_all p ys x parts.1 later
    ]

pub all_pass : {X : Type 0} (p : X → Bool) (xs : List X) → ((x : X) → Contains xs x → p x ≡ true) → list_all p xs ≡ true
all_pass p [] each = refl
all_pass p (x ∷ xs) each = rw (each x (here x xs)) (all_pass p xs (λ y h. each y (there x xs y h)))

pub some_passes : {X : Type 0} (p : X → Bool) (xs : List X) → list_any p xs ≡ true
    → (x : X) × Contains xs x × (p x ≡ true)
some_passes p xs h = let a = Any-from_list_any p xs h in (a.1, (a.0, a.2, a.3), a.4)

pub passes_some : {X : Type 0} (p : X → Bool) (xs : List X) (x : X) → Contains xs x → p x ≡ true
    → list_any p xs ≡ true
passes_some p xs x at passes = list_any_at p xs at.0 x at.1 (ap p at.2 ∙ passes)

pub none_passes : {X : Type 0} (p : X → Bool) (xs : List X) (x : X) → list_any p xs ≡ false → Contains xs x
    → p x ≡ false
none_passes p xs x none at = All-contains (λ x. p x ≡ false) xs x (All_from_no_list_any p xs none) at

-- a search finds something just where some item passes
pub is_some_find : {X : Type 0} (p : X → Bool) (xs : List X) → is_some (find p xs) ≡ list_any p xs
is_some_find p [] = refl
is_some_find p (x ∷ xs) = by (is_some_find p xs) (p x)
  where
    by : is_some (find p xs) ≡ list_any p xs → (b : Bool)
        → is_some (cond b (Some x) (find p xs)) ≡ (b || list_any p xs)
    by rest true = refl
    by rest false = rest

pub find_some : {X : Type 0} (p : X → Bool) (xs : List X) (x : X) → Contains xs x → p x ≡ true
    → is_some (find p xs) ≡ true
find_some p xs x at passes = is_some_find p xs ∙ passes_some p xs x at passes

-- what is found is the first that a filter keeps
pub first_kept : {X : Type 0} (p : X → Bool) (xs : List X) → slice_get (filter p xs) 0 ≡ find p xs
first_kept p [] = refl
first_kept p (x ∷ xs) = by (first_kept p xs) (p x) refl
  where
    by : slice_get (filter p xs) 0 ≡ find p xs → (b : Bool) → p x ≡ b
        → slice_get (filter p (x ∷ xs)) 0 ≡ find p (x ∷ xs)
    by rest true e = rw e refl
    by rest false e = rw e rest

-- of one item or none the first that passes, if one does, stands at the front
pub first_of_one : {X : Type 0} (p : X → Bool) (xs : List X) → length xs ≤ 1 → unwrap_or (position p xs) 0 ≡ 0
first_of_one p [] short = refl
first_of_one p (x ∷ []) short = by (p x) refl
  where
    by : (b : Bool) → p x ≡ b → unwrap_or (position p (x ∷ [])) 0 ≡ 0
    by true e = rw e refl
    by false e = rw e refl
first_of_one p (x ∷ y ∷ xs) short = absurd (omega (arith, short))

-- a filter keeps no more than there are
pub filter_le : {X : Type 0} (p : X → Bool) (xs : List X) → length (filter p xs) ≤ length xs
filter_le p xs = rw (length-filter p xs) (count_by-le-length p xs)

-- two filters are one
pub filter_twice : {X : Type 0} (p q : X → Bool) (xs : List X) → filter q (filter p xs) ≡ filter (λ x. p x && q x) xs
filter_twice p q [] = refl
filter_twice p q (x ∷ xs) = by (filter_twice p q xs) (p x) refl
  where
    by : filter q (filter p xs) ≡ filter (λ x. p x && q x) xs → (b : Bool) → p x ≡ b
        → filter q (filter p (x ∷ xs)) ≡ filter (λ x. p x && q x) (x ∷ xs)
    by rest true e = rw e (ap (λ ys. cond (q x) (x ∷ ys) ys) rest)
    by rest false e = rw e rest

-- what a filter keeps so far, at one item more
pub filter_next : {X : Type 0} (p : X → Bool) (xs : List X) (i : ℕ) (x : X) → i < length xs → x ≡ get_or xs i x
    → filter p (take (i + 1) xs) ≡ filter p (take i xs) ++ cond (p x) (x ∷ []) []
filter_next p xs i x below at =
    filter_more p xs i x below ∙ ap (λ y. filter p (take i xs) ++ cond (p y) (y ∷ []) []) (sym at)

-- the longest front whose items pass: they do, and what comes behind it does not
pub prefix_passes : {X : Type 0} (p : X → Bool) (xs : List X) → All (λ x. p x ≡ true) (take (prefix_len p xs) xs)
prefix_passes p xs k d below =
    let within = prefix_len-le-length p xs in
    let len = length-take-le (prefix_len p xs) xs within in
    let lower : k < prefix_len p xs = omega (arith, below, len) in
    subst (λ x. p x ≡ true) (sym (get_or-take (prefix_len p xs) xs k d lower)) (prefix_len_passes p xs k d lower)
