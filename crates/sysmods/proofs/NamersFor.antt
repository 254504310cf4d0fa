-- Those that name an id in the ++VERs for one SREL are among those that the index has for it, in order.
use Rattle.std.proofs.Common.{◌≡◌, ◌||◌, ◌&&◌, Bool, true, false, List, [], ◌∷◌, map, filter, find, refl, sym, ap, ◌∙◌}
use Rattle.std.proofs.Common.{subst, Option, None, Some, All, IsTrue, true≢false}
use Rattle.std.specs.List.{flat_map, list_any}
use Rattle.std.specs.Option.{option_map_or}
use Rattle.std.specs.Ordering.{is_lt, nat_cmp}
use Rattle.std.specs.Cmp.Lexicographic.{slice_cmp}
use Rattle.std.specs.Str.{bytes_eq}
use Rattle.std.proofs.lemmas.Cmp.{nat_list_cmp_total}
use Rattle.std.proofs.lemmas.List.Folds.{list_any-append}
use Rattle.std.proofs.lemmas.List.Kept.{AllPairs-filter}
use Rattle.std.proofs.lemmas.Map.Text.{is_eq-slice_cmp}
use Rattle.terms.specs.Types.{Text, Id, Ver, Sysmod}
use Rattle.terms.specs.Lookups.{is_in}
use Rattle.terms.specs.Rising.{Rises}
use Rattle.terms.specs.Global.{named, names_for}
use Rattle.terms.proofs.ListMembers.{in_map}
use Rattle.terms.proofs.Pairs.{pairs_map}
use Rattle.terms.proofs.TextOrder.{same_from, same_back}
use Rattle.terms.proofs.Searches.{find_passes, find_filter_all, find_filter_none, All_find, find_gives}
use Rattle.terms.proofs.Ids.{is_in_from_Contains, Contains_from_is_in}
use Rattle.terms.proofs.Loops.{named_by_all}
use Rattle.terms.proofs.SameLists.{rising_same}
use Rattle.sysmods.specs.declared.ways.Way.TheVariants.{Named, AsFunction}
use Rattle.sysmods.specs.Index.{Sets, has, IsIndexed}
use Rattle.sysmods.specs.Held.{found, zone_of}
use Rattle.sysmods.specs.Namers.{namers_for, names_as_function, function_namers}
use Rattle.sysmods.specs.Ways.{names_so}
use Rattle.sysmods.proofs.Named.{any_flat}
use Rattle.sysmods.proofs.Namers.{mentioned}

-- whether one of the ++VERs that a test chooses names the id
pub named_for : (p : Ver → Bool) (vs : List Ver) (x : Id) → is_in (flat_map named (filter p vs)) x ≡ list_any
    (λ v. p v && is_in (named v) x) vs
named_for p [] x = refl
named_for p (v ∷ vs) x = by (named_for p vs x) (p v) refl
  where
    by : is_in (flat_map named (filter p vs)) x ≡ list_any (λ v. p v && is_in (named v) x) vs
        → (b : Bool) → p v ≡ b → is_in (flat_map named (filter p (v ∷ vs))) x ≡ list_any (λ v. p v && is_in (named v) x)
        (v ∷ vs)
    by rest true e = rw e (list_any-append (bytes_eq x) (named v) (flat_map named (filter p vs))
        ∙ ap (λ b. is_in (named v) x || b) rest)
    by rest false e = rw e rest

-- an id that is there is found
find_there : (ks : List Id) (k : Id) → is_in ks k ≡ true → find (λ y. bytes_eq y k) ks ≡ Some k
find_there [] k here = absurd (true≢false (sym here))
find_there (x ∷ ks) k here = by (find_there ks k) (bytes_eq x k) refl
  where
    by : (is_in ks k ≡ true → find (λ y. bytes_eq y k) ks ≡ Some k) → (b : Bool) → bytes_eq x k ≡ b
        → find (λ y. bytes_eq y k) (x ∷ ks) ≡ Some k
    by again true e = rw e (ap (λ y. Some y) (same_from x k e))
    by again false e = let rest = rw (same_back k x ∙ e) at here in rw e (again rest)

-- Of two rising lists that each have all that pass a test, the same ones pass it.
module _ (test : Id → Bool) (xs ys : List Id) where
  abbrev Below : Id → Id → Type 0
  Below a b = IsTrue (is_lt (slice_cmp nat_cmp a b))

  passing : (ks : List Id) (k : Id) → test k ≡ true → is_in ks k ≡ true
      → find (λ y. bytes_eq y k) (filter test ks) ≡ Some k
  passing ks k passes here = find_filter_all (λ y. bytes_eq y k) test (λ y same. ap test (same_from y k same) ∙ passes)
      ks ∙ find_there ks k here

  failing : (ks : List Id) (k : Id) → test k ≡ false → find (λ y. bytes_eq y k) (filter test ks) ≡ None
  failing ks k fails = find_filter_none (λ y. bytes_eq y k) test (λ y same. ap test (same_from y k same) ∙ fails) ks

  pub same_passing : Rises (slice_cmp nat_cmp) (λ k. k) xs → Rises (slice_cmp nat_cmp) (λ k. k) ys
      → ((k : Id) → test k ≡ true → is_in xs k ≡ true) → ((k : Id) → test k ≡ true → is_in ys k ≡ true)
      → filter test xs ≡ filter test ys
  same_passing rising_xs rising_ys in_xs in_ys =
      rising_same nat_list_cmp_total (λ k. k) bytes_eq (λ a b. sym (is_eq-slice_cmp a b)) (filter test xs)
      (filter test ys)
      (AllPairs-filter Below test xs rising_xs) (AllPairs-filter Below test ys rising_ys) (λ k. by k (test k) refl)
    where
      by : (k : Id) (b : Bool) → test k ≡ b → find (λ y. bytes_eq y k) (filter test xs) ≡ find (λ y. bytes_eq y k)
          (filter test ys)
      by k true e = passing xs k e (in_xs k e) ∙ sym (passing ys k e (in_ys k e))
      by k false e = failing xs k e ∙ sym (failing ys k e)

module _ (xs : List Sysmod) (srel : Text) (z : Id) where
  -- whether what is found names it
  abbrev From : Option Sysmod → Bool
  From o = is_in (flat_map named (option_map_or (λ r. filter (λ v. bytes_eq v.srel srel) r.vers) o [])) z

  pub names_at : (y : Id) (o : Option Sysmod) → o ≡ found xs y
      → option_map_or (λ s. list_any (λ v. bytes_eq v.srel srel && is_in (named v) z) s.vers) o false ≡ is_in
      (names_for (zone_of xs) srel y) z
  names_at y None there = ap From there
  names_at y (Some s) there = sym (named_for (λ v. bytes_eq v.srel srel) s.vers z) ∙ ap From there

  -- what names it is received
  pub named_by : (y : Id) → is_in (names_for (zone_of xs) srel y) z ≡ true
      → (s : Sysmod) × (found xs y ≡ Some s) × (s.id ≡ y)
  named_by y names = by (found xs y) refl
    where
      by : (o : Option Sysmod) → found xs y ≡ o → (s : Sysmod) × (found xs y ≡ Some s) × (s.id ≡ y)
      by None there = absurd (true≢false (sym names ∙ ap From there))
      by (Some s) there = (s, there, same_from s.id y (find_passes (λ r. bytes_eq r.id y) xs s there))

  pub named_by_received : (y : Id) → is_in (names_for (zone_of xs) srel y) z ≡ true
      → is_in (map (λ s. s.id) xs) y ≡ true
  named_by_received y names =
      let s = named_by y names in
      subst (λ w. is_in (map (λ r. r.id) xs) w ≡ true) s.2
      (is_in_from_Contains (map (λ r. r.id) xs) s.0.id (in_map (λ r. r.id) xs s.0
      (find_gives (λ r. bytes_eq r.id y) xs s.0 s.1).1))

  -- and the index has it
  named_by_indexed : (sets : Sets) → All (IsIndexed sets) xs → (y : Id) → is_in (names_for (zone_of xs) srel y) z ≡ true
      → IsTrue (has sets z y)
  named_by_indexed sets indexed y names =
      let s = named_by y names in
      let some : Bool = is_in (flat_map named (filter (λ v. bytes_eq v.srel srel) s.0.vers)) z in
      let here : some ≡ true = sym (ap From s.1) ∙ names in
      let all = named_by_all srel s.0.vers z (Contains_from_is_in
      (flat_map named (filter (λ v. bytes_eq v.srel srel) s.0.vers)) z here) in
      subst (λ w. IsTrue (has sets z w)) s.2
      (All_find (IsIndexed sets) (λ r. bytes_eq r.id y) xs s.0 indexed s.1 z
      (mentioned Named z s.0 (sym (any_flat s.0.vers z) ∙ is_in_from_Contains (flat_map named s.0.vers) z all)))

  -- so those of a rising list that has all that the index has are all
  pub namers_among : (sets : Sets) (ks : List Id) → All (IsIndexed sets) xs → Rises (slice_cmp nat_cmp) (λ s. s.id) xs
      → Rises (slice_cmp nat_cmp) (λ k. k) ks → ((y : Id) → IsTrue (has sets z y) → is_in ks y ≡ true)
      → filter (λ y. is_in (names_for (zone_of xs) srel y) z) ks ≡ namers_for xs srel z
  namers_among sets ks indexed rising rising_ks complete =
      same_passing (λ y. is_in (names_for (zone_of xs) srel y) z) ks (map (λ s. s.id) xs) rising_ks
      (pairs_map (λ a b. IsTrue (is_lt (slice_cmp nat_cmp a.id b.id))) (λ a b. IsTrue (is_lt (slice_cmp nat_cmp a b)))
      (λ s. s.id) (λ a b less. less) xs rising)
      (λ y names. complete y (named_by_indexed sets indexed y names)) named_by_received

-- The same of those that name an id as a function.
module _ (xs : List Sysmod) (z : Id) where
  abbrev Of : Option Sysmod → Bool
  Of o = option_map_or (names_so AsFunction z) o false

  function_namer : (y : Id) → names_as_function xs z y ≡ true
      → (s : Sysmod) × (found xs y ≡ Some s) × (s.id ≡ y) × (names_so AsFunction z s ≡ true)
  function_namer y names = by (found xs y) refl
    where
      by : (o : Option Sysmod) → found xs y ≡ o
          → (s : Sysmod) × (found xs y ≡ Some s) × (s.id ≡ y) × (names_so AsFunction z s ≡ true)
      by None there = absurd (true≢false (sym names ∙ ap Of there))
      by (Some s) there = (
        s,
        there,
        same_from s.id y (find_passes (λ r. bytes_eq r.id y) xs s there),
        sym (ap Of there) ∙ names,
      )

  function_namer_received : (y : Id) → names_as_function xs z y ≡ true → is_in (map (λ s. s.id) xs) y ≡ true
  function_namer_received y names =
      let s = function_namer y names in
      subst (λ w. is_in (map (λ r. r.id) xs) w ≡ true) s.2
      (is_in_from_Contains (map (λ r. r.id) xs) s.0.id (in_map (λ r. r.id) xs s.0
      (find_gives (λ r. bytes_eq r.id y) xs s.0 s.1).1))

  function_namer_indexed : (sets : Sets) → All (IsIndexed sets) xs → (y : Id) → names_as_function xs z y ≡ true
      → IsTrue (has sets z y)
  function_namer_indexed sets indexed y names =
      let s = function_namer y names in
      subst (λ w. IsTrue (has sets z w)) s.2
      (All_find (IsIndexed sets) (λ r. bytes_eq r.id y) xs s.0 indexed s.1 z (mentioned AsFunction z s.0 s.3))

  pub function_namers_among : (sets : Sets) (ks : List Id) → All (IsIndexed sets) xs
      → Rises (slice_cmp nat_cmp) (λ s. s.id) xs
      → Rises (slice_cmp nat_cmp) (λ k. k) ks → ((y : Id) → IsTrue (has sets z y) → is_in ks y ≡ true)
      → filter (names_as_function xs z) ks ≡ function_namers xs z
  function_namers_among sets ks indexed rising rising_ks complete =
      same_passing (names_as_function xs z) ks (map (λ s. s.id) xs) rising_ks
      (pairs_map (λ a b. IsTrue (is_lt (slice_cmp nat_cmp a.id b.id))) (λ a b. IsTrue (is_lt (slice_cmp nat_cmp a b)))
      (λ s. s.id) (λ a b less. less) xs rising)
      (λ y names. complete y (function_namer_indexed sets indexed y names)) function_namer_received
