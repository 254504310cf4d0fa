-- Those that name an id are found among those that the index has for it.
use Rattle.std.proofs.Common.{◌≡◌, Bool, true, false, List, [], ◌∷◌, ◌++◌, find, refl, sym, ap, ◌∙◌, Option, None}
use Rattle.std.proofs.Common.{Some, All, IsTrue, true≢false}
use Rattle.std.specs.List.{list_any}
use Rattle.std.specs.Option.{option_map_or}
use Rattle.std.specs.Ordering.{nat_cmp}
use Rattle.std.specs.Cmp.Lexicographic.{slice_cmp}
use Rattle.std.specs.Str.{bytes_eq}
use Rattle.std.specs.BTreeMap.{get}
use Rattle.std.proofs.lemmas.List.Folds.{list_any-append}
use Rattle.std.proofs.lemmas.List.Elements.{All-head, All-tail}
use Rattle.terms.specs.Types.{Id, Ver, Sysmod}
use Rattle.terms.specs.Lookups.{is_in, at_most_one}
use Rattle.terms.specs.Global.{named, named_functions}
use Rattle.terms.proofs.TextOrder.{same_from}
use Rattle.terms.proofs.Searches.{list_any_fewer}
use Rattle.sysmods.specs.declared.ways.Way.{Way}
use Rattle.sysmods.specs.declared.ways.Way.TheVariants.{Named, Superseded, AsFunction}
use Rattle.sysmods.specs.declared.index.IndexEntry.{IndexEntry}
use Rattle.sysmods.specs.Index.{Sets, members, has, mentions, IsIndexed}
use Rattle.sysmods.specs.Held.{found}
use Rattle.sysmods.specs.Ways.{names_so}
use Rattle.sysmods.proofs.Indexed.{has_at, has_none}
use Rattle.std.proofs.lemmas.Bool.{or_parts}

-- what a ++VER does not mention it names in no way
sup_none : (v : Ver) (z : Id) → is_in (named v) z ≡ false → is_in v.sup z ≡ false
sup_none v z none =
    let listed = (or_parts (is_in (v.pre ++ v.sup) z) (is_in (at_most_one v.fmid) z)
    (sym (list_any-append (bytes_eq z) (v.pre ++ v.sup) (at_most_one v.fmid)) ∙ none)).0 in
    (or_parts (is_in v.pre z) (is_in v.sup z) (sym (list_any-append (bytes_eq z) v.pre v.sup) ∙ listed)).1

unmentioned : (way : Way) (z : Id) (s : Sysmod) → list_any (λ v. mentions v z) s.vers ≡ false → names_so way z s ≡ false
unmentioned Named z s none = list_any_fewer (λ v. mentions v z) (λ v. is_in (named v) z) s.vers
    (λ v e. (or_parts (is_in (named v) z) (is_in (named_functions v) z) e).0) none
unmentioned Superseded z s none =
    list_any_fewer (λ v. mentions v z) (λ v. is_in v.sup z) s.vers
    (λ v e. sup_none v z (or_parts (is_in (named v) z) (is_in (named_functions v) z) e).0) none
unmentioned AsFunction z s none = list_any_fewer (λ v. mentions v z) (λ v. is_in (named_functions v) z) s.vers
    (λ v e. (or_parts (is_in (named v) z) (is_in (named_functions v) z) e).1) none

pub mentioned : (way : Way) (z : Id) (s : Sysmod) → names_so way z s ≡ true
    → IsTrue (list_any (λ v. mentions v z) s.vers)
mentioned way z s names = by (list_any (λ v. mentions v z) s.vers) refl
  where
    by : (b : Bool) → list_any (λ v. mentions v z) s.vers ≡ b → list_any (λ v. mentions v z) s.vers ≡ true
    by true e = e
    by false e = absurd (true≢false (sym names ∙ unmentioned way z s e))

-- a test that one element passes
any_at : (p : Id → Bool) (y : Id) (ks : List Id) → is_in ks y ≡ true → p y ≡ true → list_any p ks ≡ true
any_at p y [] here passes = absurd (true≢false (sym here))
any_at p y (k ∷ ks) here passes = by (any_at p y ks) (bytes_eq y k) refl (p k) refl
  where
    by : (is_in ks y ≡ true → p y ≡ true → list_any p ks ≡ true) → (b : Bool) → bytes_eq y k ≡ b → (d : Bool) → p k ≡ d
        → list_any p (k ∷ ks) ≡ true
    by again b e true f = rw f refl
    by again true e false f = absurd (true≢false (sym passes ∙ ap p (same_from y k e) ∙ f))
    by again false e false f = let rest = rw e at here in rw f (again rest passes)

pub any_found : (p q : Sysmod → Bool) (xs : List Sysmod) (s : Sysmod) → find q xs ≡ Some s → p s ≡ true
    → list_any p xs ≡ true
any_found p q [] s e passes = absurd (none_some e)
  where
    none_some : None ≡ Some s → ⊥
    none_some e = cc
any_found p q (x ∷ xs) s e passes = by (any_found p q xs s) (q x) refl (p x) refl
  where
    by : (find q xs ≡ Some s → p s ≡ true → list_any p xs ≡ true) → (b : Bool) → q x ≡ b → (d : Bool) → p x ≡ d
        → list_any p (x ∷ xs) ≡ true
    by again b f true g = rw g refl
    by again true f false g = let now = rw f at e in let same : x ≡ s = cc
        in absurd (true≢false (sym passes ∙ ap p (sym same) ∙ g))
    by again false f false g = let now = rw f at e in rw g (again now passes)

module _ (xs : List Sysmod) (sets : Sets) (way : Way) (z : Id) (ks : List Id) where
  abbrev Test : Id → Bool
  Test y = option_map_or (names_so way z) (found xs y) false

  to_some : (ys : List Id) → list_any Test ys ≡ true → list_any (names_so way z) xs ≡ true
  to_some [] h = absurd (true≢false (sym h))
  to_some (y ∷ ys) h = by (to_some ys) (found xs y) refl
    where
      by : (list_any Test ys ≡ true → list_any (names_so way z) xs ≡ true) → (o : Option Sysmod) → found xs y ≡ o
          → list_any (names_so way z) xs ≡ true
      by again None e = let rest = rw e at h in again rest
      by again (Some s) e = at (names_so way z s) refl
        where
          at : (b : Bool) → names_so way z s ≡ b → list_any (names_so way z) xs ≡ true
          at true f = any_found (names_so way z) (λ r. bytes_eq r.id y) xs s e f
          at false f = let rest = rw (e, f) at h in again rest

  module _ (complete : (y : Id) → IsTrue (has sets z y) → is_in ks y ≡ true) where
    from_some : (ys : List Sysmod) → All (IsIndexed sets) ys → All (λ s. found xs s.id ≡ Some s) ys
        → list_any (names_so way z) ys ≡ true → list_any Test ks ≡ true
    from_some [] indexed itself h = absurd (true≢false (sym h))
    from_some (s ∷ ys) indexed itself h =
        by (from_some ys (All-tail (IsIndexed sets) s ys indexed) (All-tail (λ s. found xs s.id ≡ Some s) s ys itself))
        (names_so way z s) refl
      where
        by : (list_any (names_so way z) ys ≡ true → list_any Test ks ≡ true) → (b : Bool) → names_so way z s ≡ b
            → list_any Test ks ≡ true
        by again true e =
            any_at Test s.id ks (complete s.id (All-head (IsIndexed sets) s ys indexed z (mentioned way z s e)))
            (ap (λ o. option_map_or (names_so way z) o false) (All-head (λ s. found xs s.id ≡ Some s) s ys itself) ∙ e)
        by again false e = let rest = rw e at h in again rest

    pub some_names : All (IsIndexed sets) xs → All (λ s. found xs s.id ≡ Some s) xs
        → list_any (λ y. option_map_or (names_so way z) (found xs y) false) ks ≡ list_any (names_so way z) xs
    some_names indexed itself = by (list_any Test ks) (list_any (names_so way z) xs) refl refl
      where
        by : (a b : Bool) → list_any Test ks ≡ a → list_any (names_so way z) xs ≡ b → a ≡ b
        by true true e f = refl
        by true false e f = absurd (true≢false (sym (to_some ks e) ∙ f))
        by false true e f = absurd (true≢false (sym (from_some xs indexed itself f) ∙ e))
        by false false e f = refl

-- what the entry of an id has
pub complete_at : (sets : Sets) (z : Id) (n : IndexEntry) → get (slice_cmp nat_cmp) sets z ≡ Some n → (y : Id)
    → IsTrue (has sets z y) → is_in (members n) y ≡ true
complete_at sets z n there y h = sym (has_at sets z n there y) ∙ h

pub complete_none : (sets : Sets) (z : Id) → get (slice_cmp nat_cmp) sets z ≡ None → (y : Id) → IsTrue (has sets z y)
    → is_in [] y ≡ true
complete_none sets z there y h = absurd (true≢false (sym h ∙ has_none sets z there y))
