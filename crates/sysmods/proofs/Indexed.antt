-- What the index has as it grows.
use Rattle.std.proofs.Common.{◌≡◌, ◌<◌, ◌+◌, ℕ, Bool, true, false, ◌||◌, List, [], ◌∷◌, ◌++◌, map, take, length, get_or}
use Rattle.std.proofs.Common.{refl, sym, ap, ◌∙◌, subst, IsTrue, None, Some, cond, ◌≤◌}
use Rattle.std.specs.List.{list_any}
use Rattle.std.specs.Str.{bytes_eq}
use Rattle.std.specs.Option.{option_map_or}
use Rattle.std.specs.declared.cmp.Ordering.{Ordering}
use Rattle.std.specs.Ordering.{is_eq, nat_cmp}
use Rattle.std.specs.Cmp.Lexicographic.{slice_cmp}
use Rattle.std.specs.BTreeMap.{is_at, get, UpdatesBy}
use Rattle.std.specs.BTreeSet.{BTreeSet, contains, Updates}
use Rattle.std.proofs.lemmas.Map.Text.{is_eq-slice_cmp}
use Rattle.std.proofs.lemmas.List.{take_all}
use Rattle.std.proofs.lemmas.List.Folds.{list_any_more, list_any-append}
use Rattle.terms.specs.Types.{Id, Ver}
use Rattle.terms.specs.Lookups.{is_in, at_most_one}
use Rattle.terms.specs.Global.{named, named_functions}
use Rattle.terms.proofs.Booleans.{or_false}
use Rattle.terms.proofs.TextOrder.{same_from}
use Rattle.sysmods.specs.declared.index.IndexEntry.{IndexEntry}
use Rattle.sysmods.specs.declared.index.IndexEntry.TheVariants.{One, More}
use Rattle.sysmods.specs.Index.{Sets, members, has, HasAll, Grows, KeepsMembers, KeepsMembersBut, KeepsOthers, mentions}

-- one of two tests passes
pub either : {P : Type 0} (a b : Bool) → IsTrue (a || b) → (IsTrue a → P) → (IsTrue b → P) → P
either true b h left right = left refl
either false b h left right = right h

pub grows_same : (old : Sets) → Grows old old
grows_same old z y h = h

pub grows_then : (a b c : Sets) → Grows a b → Grows b c → Grows a c
grows_then a b c first second z y h = second z y (first z y h)

-- what it has under each id of a test it has still
pub has_all_grows : (old new : Sets) (y : Id) (test : Id → Bool) → Grows old new → HasAll old y test → HasAll new y test
has_all_grows old new y test grows all z h = grows z y (all z h)

-- a loop's step: under the ids that the first ones name, and under those that the next names
pub has_all_more : {X : Type 0} (old new : Sets) (y : Id) (p : Id → X → Bool) (xs : List X) (i : ℕ) (d : X)
    → i < length xs
    → Grows old new → HasAll old y (λ z. list_any (p z) (take i xs)) → HasAll new y (λ z. p z (get_or xs i d))
    → HasAll new y (λ z. list_any (p z) (take (i + 1) xs))
has_all_more old new y p xs i d below grows first next z h =
    let two : IsTrue (list_any (p z) (take i xs) || p z (get_or xs i d)) = sym (list_any_more (p z) xs i d below) ∙ h in
    either (list_any (p z) (take i xs)) (p z (get_or xs i d)) two (λ was. grows z y (first z was)) (next z)

-- one id
pub has_all_one : (sets : Sets) (y x : Id) → IsTrue (has sets x y) → HasAll sets y (λ z. bytes_eq z x)
has_all_one sets y x h z same = subst (λ w. IsTrue (has sets w y)) (sym (same_from z x same)) h

-- the parts of a ++VER
pub has_all_ver : (sets : Sets) (y : Id) (v : Ver) → HasAll sets y (is_in v.pre) → HasAll sets y (is_in v.sup)
    → HasAll sets y (is_in v.del)
    → HasAll sets y (is_in (map (λ i. i.function) v.ifs)) → HasAll sets y (is_in (at_most_one v.fmid))
    → HasAll sets y (mentions v)
has_all_ver sets y v pre sup del ifs fmid z h =
    either (is_in (named v) z) (is_in (named_functions v) z) h
    (λ one. either (is_in (v.pre ++ v.sup) z) (is_in (at_most_one v.fmid) z)
    (sym (list_any-append (bytes_eq z) (v.pre ++ v.sup) (at_most_one v.fmid)) ∙ one)
    (λ listed. either (is_in v.pre z) (is_in v.sup z) (sym (list_any-append (bytes_eq z) v.pre v.sup) ∙ listed) (pre z)
    (sup z))
    (fmid z))
    (λ one. either (is_in (v.del ++ at_most_one v.fmid) z) (is_in (map (λ i. i.function) v.ifs) z)
    (sym (list_any-append (bytes_eq z) (v.del ++ at_most_one v.fmid) (map (λ i. i.function) v.ifs)) ∙ one)
    (λ listed. either (is_in v.del z) (is_in (at_most_one v.fmid) z)
    (sym (list_any-append (bytes_eq z) v.del (at_most_one v.fmid)) ∙ listed) (del z) (fmid z))
    (ifs z))

abbrev C : Id → Id → Ordering
C = slice_cmp nat_cmp

-- an entry is put in place of another whose ids it has
pub grows_update : (old new : Sets) (k : Id) (w : IndexEntry) → UpdatesBy C (C k) old new (Some w)
    → ((y : Id) → IsTrue (has old k y) → IsTrue (is_in (members w) y)) → Grows old new
grows_update old new k w updates within z y h = by (is_eq (C k z)) refl
  where
    now : (b : Bool) → is_eq (C k z) ≡ b → has new z y ≡ option_map_or (λ n. is_in (members n) y)
        (cond b (Some w) (get C old z)) false
    now b e = ap (λ o. option_map_or (λ n. is_in (members n) y) o false)
        (updates.0 z ∙ ap (λ a. cond a (Some w) (get C old z)) e)

    by : (b : Bool) → is_eq (C k z) ≡ b → IsTrue (has new z y)
    by true e = now true e ∙ within y (subst (λ x. IsTrue (has old x y))
        (sym (same_from k z (sym (is_eq-slice_cmp k z) ∙ e))) h)
    by false e = now false e ∙ h

-- what the entry of an id is
pub has_at : (sets : Sets) (k : Id) (n : IndexEntry) → get C sets k ≡ Some n → (y : Id)
    → has sets k y ≡ is_in (members n) y
has_at sets k n there y = ap (λ o. option_map_or (λ m. is_in (members m) y) o false) there

pub has_none : (sets : Sets) (k : Id) → get C sets k ≡ None → (y : Id) → has sets k y ≡ false
has_none sets k there y = ap (λ o. option_map_or (λ m. is_in (members m) y) o false) there

-- what a set has
any_same : (p q : Id → Bool) (ks : List Id) → ((k : Id) → p k ≡ q k) → list_any p ks ≡ list_any q ks
any_same p q [] same = refl
any_same p q (k ∷ ks) same = rw (same k, any_same p q ks same) refl

in_set : (s : BTreeSet Id) (y : Id) → is_in s.keys y ≡ contains C s y
in_set s y = any_same (bytes_eq y) (is_at (C y)) s.keys (λ k. sym (is_eq-slice_cmp y k))

-- a set with one more
pub in_more : (old new : BTreeSet Id) (k : Id) → Updates C old new k true → IsTrue (is_in new.keys k)
in_more old new k updates = in_set new k ∙ updates.1

pub keeps_more : (old new : BTreeSet Id) (k : Id) → Updates C old new k true → KeepsMembers (More old) (More new)
keeps_more old new k updates y h = in_set new y ∙ updates.0 y ∙ by (is_eq (C k y))
  where
    by : (b : Bool) → cond b true (contains C old y) ≡ true
    by true = refl
    by false = sym (in_set old y) ∙ h

-- a set in place of a single id
pub keeps_one : (x : Id) (s : BTreeSet Id) → IsTrue (is_in s.keys x) → KeepsMembers (One x) (More s)
keeps_one x s there y h = subst (λ w. IsTrue (is_in s.keys w)) (sym (same_from y x (sym (or_false (bytes_eq y x)) ∙ h)))
    there

-- the same ids in another list that is no other
pub carried : (a b : Sets) (y : Id) (xs ys : List Id) → Grows a b → xs ≡ ys → HasAll a y (is_in xs)
    → HasAll b y (is_in ys)
carried a b y xs ys grows same all = subst (λ zs. HasAll b y (is_in zs)) same (has_all_grows a b y (is_in xs) grows all)

-- the functions of ++IFs
any_map : {X : Type 0} (f : X → Id) (z : Id) (xs : List X) → is_in (map f xs) z ≡ list_any (λ x. bytes_eq z (f x)) xs
any_map f z [] = refl
any_map f z (x ∷ xs) = ap (λ b. bytes_eq z (f x) || b) (any_map f z xs)

pub has_all_map : {X : Type 0} (sets : Sets) (y : Id) (f : X → Id) (xs : List X) (i : ℕ) → length xs ≤ i
    → HasAll sets y (λ z. list_any (λ x. bytes_eq z (f x)) (take i xs)) → HasAll sets y (is_in (map f xs))
has_all_map sets y f xs i all has z h = has z (ap (list_any (λ x. bytes_eq z (f x))) (take_all i xs all)
    ∙ sym (any_map f z xs) ∙ h)

-- an entry is put in place of another whose ids it has, all but x
pub keeps_update : (old new : Sets) (k : Id) (w : IndexEntry) (x : Id) → UpdatesBy C (C k) old new (Some w)
    → ((y : Id) → bytes_eq x y ≡ false → IsTrue (has old k y) → IsTrue (is_in (members w) y)) → KeepsOthers x old new
keeps_update old new k w x updates within z y other h = by (is_eq (C k z)) refl
  where
    now : (b : Bool) → is_eq (C k z) ≡ b → has new z y ≡ option_map_or (λ n. is_in (members n) y)
        (cond b (Some w) (get C old z)) false
    now b e = ap (λ o. option_map_or (λ n. is_in (members n) y) o false)
        (updates.0 z ∙ ap (λ a. cond a (Some w) (get C old z)) e)

    by : (b : Bool) → is_eq (C k z) ≡ b → IsTrue (has new z y)
    by true e = now true e ∙ within y other (subst (λ q. IsTrue (has old q y))
        (sym (same_from k z (sym (is_eq-slice_cmp k z) ∙ e))) h)
    by false e = now false e ∙ h

-- a set with one less
pub keeps_less : (old new : BTreeSet Id) (x : Id) → Updates C old new x false → KeepsMembersBut x (More old) (More new)
keeps_less old new x updates y other h =
    in_set new y ∙ updates.0 y ∙ ap (λ b. cond b false (contains C old y)) (is_eq-slice_cmp x y ∙ other)
    ∙ sym (in_set old y) ∙ h
