-- The elements of an install: what deletions leave of them, and the SYSMODs that change each.
use Rattle.std.proofs.Common.{◌≡◌, ◌≢◌, ◌⊎◌, inl, inr, List, [], ◌∷◌, ◌++◌, Option, Some, None, refl, sym}
use Rattle.std.proofs.Common.{ap, ap₂, ◌∙◌, subst, subst₂, IsTrue, All, Any, Contains, arith, IsPermutation, AllPairs}
use Rattle.std.proofs.Common.{map, IsSome, append_assoc, append-nil, Vec, true}
use Rattle.std.specs.Prelude.{IfSome, filter, get_or}
use Rattle.std.specs.declared.alloc.Global.{Global as Heap}
use Rattle.std.specs.declared.cmp.Ordering.TheVariants.{Less}
use Rattle.std.specs.List.{AllByRecursion}
use Rattle.std.specs.List.Sorted.{IsStrictlySortedBy}
use Rattle.std.specs.Option.{option_map_or}
use Rattle.std.specs.Ordering.{is_eq, is_lt}
use Rattle.std.specs.Map.{keys_of, lookup}
use Rattle.std.specs.BTreeMap.{IsOrdered, get, is_at}
use Rattle.std.proofs.lemmas.List.{map-append}
use Rattle.std.proofs.lemmas.List.Elements.{filter_passes, Contains-get_or, All-cons, All-nil, All-push, All-head}
use Rattle.std.proofs.lemmas.List.Elements.{All-tail}
use Rattle.std.proofs.lemmas.List.Kept.{AllPairs-cons, AllPairs-filter}
use Rattle.std.proofs.lemmas.List.Sorted.{Contains-permutation, IsPermutation-sym}
use Rattle.std.proofs.lemmas.Map.Keys.{sorted_head, sorted_tail}
use Rattle.std.proofs.lemmas.Map.Views.{Contains-from_lookup}
use Rattle.terms.proofs.ListMembers.{here, none_in, in_filter, filter_in, in_map, map_in}
use Rattle.terms.proofs.Pairs.{pairs_unmap}
use Rattle.terms.proofs.Searches.{find_gives}
use Rattle.terms.specs.declared.kinds.ElemType.{ElemType}
use Rattle.terms.specs.Types.{Text, Id, Global, Element, Zone}
use Rattle.terms.specs.Lookups.{element_cmp, element_key, has_change, element_of}
use Rattle.terms.specs.Choice.{Choice}
use Rattle.terms.specs.Deleted.{zone_less}
use Rattle.terms.specs.Lookups.{element_eq}
use Rattle.terms.specs.Install.{Installation, TakesEffect, HasElementAfter}
use Rattle.terms.specs.Changes.{has_replacement}
use Rattle.terms.specs.Over.{IsOver}
use Rattle.terms.specs.Tests.{ShareElement}
use Rattle.terms.proofs.ChangedElements.{replaces_changes}
use Rattle.terms.proofs.ElementOrder.{cmp_keys, same_key}
use Rattle.terms.proofs.Each.{any_in, in_any}
use Rattle.change.specs.Elements.{IsInstallOf, AreElementsAfter}
use Rattle.change.specs.Folding.{AreChangers}
use Rattle.sorted.specs.ElementKeys.{Key, key_cmp}
use Rattle.sorted.specs.MultiMap.{MultiMap}
use Rattle.zones.specs.Grouping.{AreByElement}
use Rattle.sorted.proofs.ElementKeys.{key_ties}
use Rattle.sorted.proofs.Listing.{listed_at}
use Rattle.std.proofs.lemmas.List.Elements.{All-contains}

module _ (zone : Zone) (type : ElemType) (name : Text) where
  found_key : (e : Element) → element_of zone type name ≡ Some e → (e.elem_type ≡ type) × (e.name ≡ name)
  found_key e at =
      let found = find_gives (λ d. element_eq (element_key d) (type, name)) zone.elements e at in
      let same = same_key (element_key e) (type, name) found.0 in
      (ap (λ k. k.0) same, ap (λ k. k.1) same)

  -- what a zone has there is of this type and name
  pub key_of_found : (o : Option Element) → o ≡ element_of zone type name
      → IfSome o (λ e. (e.elem_type ≡ type) × (e.name ≡ name))
  key_of_found None at = tt
  key_of_found (Some e) at = found_key e (sym at)

-- ---- the changers in another order

pub permuted_any : {X : Type 0} (P : X → Type 0) (xs ys : List X) → IsPermutation xs ys → Any P xs → Any P ys
permuted_any P xs ys same any =
    let m = in_any P xs any in any_in P ys m.0 (Contains-permutation xs ys m.0 same m.1) m.2

pub permuted_changers : (i : Installation) (g : Global) (c : Choice) (type : ElemType) (name : Text)
    (o : Option Element)
    (xs ys : List Id) → IsPermutation xs ys → AreChangers i g c type name o xs → AreChangers i g c type name o ys
permuted_changers i g c type name o xs ys same are = record {
  global = are.global;
  choice = are.choice;
  base_is = are.base_is;
  members = λ x. (
    λ h. (are.members x).0 (Contains-permutation ys xs x (IsPermutation-sym xs ys same) h),
    λ h. Contains-permutation xs ys x same ((are.members x).1 h),
  );
}

-- ---- the changers of one element, among all that take effect

module _ (g : Global) (c : Choice) (type : ElemType) (name : Text) (ids xs : List Id)
    (same : xs ≡ filter (λ x. has_change g x type name) ids) where
  pub all_change : All (λ x. IsTrue (has_change g x type name)) xs
  all_change = subst (All (λ x. IsTrue (has_change g x type name))) (sym same)
      (filter_passes (λ x. has_change g x type name) ids)

  pub all_ordered : AllPairs (λ x y. ShareElement g x y → IsOver c x y ⊎ IsOver c y x) ids
      → AllPairs (λ x y. IsOver c x y ⊎ IsOver c y x) xs
  all_ordered order i j d less below =
      subst (AllPairs (λ x y. ShareElement g x y → IsOver c x y ⊎ IsOver c y x)) (sym same)
      (AllPairs-filter (λ x y. ShareElement g x y → IsOver c x y ⊎ IsOver c y x) (λ x. has_change g x type name) ids
      order)
      i j d less below (type, name, all_change i d (omega (arith, less, below)), all_change j d below)

  pub all_based : (o : Option Element) → xs ≢ []
      → (Any (λ x. IsTrue (has_change g x type name)) ids
      → IsSome o ⊎ Any (λ x. IsTrue (has_replacement g x type name)) ids)
      → IsSome o ⊎ Any (λ x. IsTrue (has_replacement g x type name)) xs
  all_based o some based =
      elim (based (any_in (λ x. IsTrue (has_change g x type name)) ids (first xs some).0
      (within (first xs some).0 (first xs some).1).0 (within (first xs some).0 (first xs some).1).1)) [
        | inl is ↦ inl is
        | inr any ↦ inr (replaced (in_any (λ x. IsTrue (has_replacement g x type name)) ids any))
      ]
    where
      first : (l : List Id) → l ≢ [] → (x : Id) × Contains l x
      first [] some = absurd (some refl)
      first (x ∷ l) some = (x, here x l)

      within : (x : Id) → Contains xs x → Contains ids x × (has_change g x type name ≡ true)
      within x h = filter_in (λ y. has_change g y type name) ids x (subst (λ l. Contains l x) same h)

      replaced : (x : Id) × Contains ids x × IsTrue (has_replacement g x type name)
          → Any (λ x. IsTrue (has_replacement g x type name)) xs
      replaced m =
          any_in (λ x. IsTrue (has_replacement g x type name)) xs m.0
          (subst (λ l. Contains l m.0) (sym same)
          (in_filter (λ y. has_change g y type name) ids m.0 m.1 (replaces_changes g m.0 type name m.2))) m.2

  pub install_changers : (i : Installation) (zone : Zone) (deletions : List Id) → IsInstallOf i g c zone deletions ids
      → AreChangers i g c type name (element_of (zone_less g c deletions zone) type name) xs
  install_changers i zone deletions is = record {
    global = is.global;
    choice = is.choice;
    base_is = ap (λ z. element_of z type name) (sym is.cleared_is);
    members = λ x. (
      λ h. let f = filter_in (λ y. has_change g y type name) ids x (subst (λ l. Contains l x) same h) in
          ((is.members x).0 f.0, f.1),
      λ h. subst (λ l. Contains l x) (sym same)
          (in_filter (λ y. has_change g y type name) ids x ((is.members x).1 h.0) h.1),
    );
  }

-- an element after any such install
abbrev pub IsAfter : Global → Choice → Zone → List Id → List Id → Element → Type 0
IsAfter g c zone deletions ids e = (i : Installation) → IsInstallOf i g c zone deletions ids
    → HasElementAfter i e.elem_type e.name e

-- one element more
pub one_after : (g : Global) (c : Choice) (zone : Zone) (deletions ids : List Id) (k : Key) (xs : List Id)
    (e : Element) → xs ≡ filter (λ x. has_change g x k.0 k.1) ids
    → (e.elem_type ≡ k.0) × (e.name ≡ k.1)
    → ((i : Installation) → AreChangers i g c k.0 k.1 (element_of (zone_less g c deletions zone) k.0 k.1) xs
    → HasElementAfter i k.0 k.1 e)
    → IsAfter g c zone deletions ids e
one_after g c zone deletions ids k xs e same key after i is =
    subst₂ (λ t n. HasElementAfter i t n e) (sym key.0) (sym key.1)
    (after i (install_changers g c k.0 k.1 ids xs same i zone deletions is))

-- the keys of the lists rise
keys_rise : (ks : List Key) → IsStrictlySortedBy key_cmp ks → AllPairs (λ k l. IsTrue (is_lt (element_cmp k l))) ks
keys_rise [] sorted = λ i j d less below. absurd (omega arith)
keys_rise (k ∷ ks) sorted =
    AllPairs-cons (λ k l. IsTrue (is_lt (element_cmp k l))) k ks (all_from ks (sorted_head key_cmp k ks sorted))
    (keys_rise ks (sorted_tail key_cmp k ks sorted))
  where
    all_from : (ls : List Key) → AllByRecursion (λ l. key_cmp k l ≡ Less) ls
        → All (λ l. IsTrue (is_lt (element_cmp k l))) ls
    all_from [] all = All-nil (λ l. IsTrue (is_lt (element_cmp k l)))
    all_from (l ∷ ls) all =
        All-cons (λ l. IsTrue (is_lt (element_cmp k l))) l ls (ap is_lt (sym (cmp_keys k l) ∙ all.0))
        (all_from ls all.1)

abbrev pub Item : Type 0
Item = Key × Vec Id Heap

module _ (g : Global) (c : Choice) (zone : Zone) (deletions ids : List Id) where
  -- what is made of all these items, of which some are left
  pub record AreMade (all rest : List Item) (es : List Element) : Type 0 where
    pub keys : map element_key es ++ keys_of rest ≡ keys_of all
    pub after : All (IsAfter g c zone deletions ids) es
    pub found : All (λ r. lookup (is_at (key_cmp r.0)) all ≡ Some r.1) rest

  pub made_none : (all : MultiMap Key Id) (items : List Item) (es : List Element) → items ≡ all.entries → es ≡ []
      → All (λ r. get key_cmp all r.0 ≡ Some r.1) all.entries → AreMade items items es
  made_none all items es same empty found = record {
    keys = ap (λ l. map element_key l ++ keys_of items) empty;
    after = subst (All (IsAfter g c zone deletions ids)) (sym empty) (All-nil (IsAfter g c zone deletions ids));
    found = subst (λ l. All (λ r. lookup (is_at (key_cmp r.0)) l ≡ Some r.1) l) (sym same) found;
  }

  -- the first that is left is taken
  module _ (items left rest : List Item) (r : Item) (es : List Element) (first : left ≡ r ∷ rest)
      (made : AreMade items left es) where
    pub made_next : (e : Element) → (e.elem_type ≡ r.0.0) × (e.name ≡ r.0.1) → IsAfter g c zone deletions ids e
        → AreMade items rest (es ++ e ∷ [])
    made_next e key after = record {
      keys = ap (λ l. l ++ keys_of rest) (map-append element_key es (e ∷ []))
          ∙ append_assoc (map element_key es) (element_key e ∷ []) (keys_of rest)
          ∙ ap (λ (k : Key). map element_key es ++ k ∷ keys_of rest) (ap₂ (λ t n. (t, n)) key.0 key.1)
          ∙ ap (λ l. map element_key es ++ keys_of l) (sym first) ∙ made.keys;
      after = All-push (IsAfter g c zone deletions ids) es e made.after after;
      found = All-tail (λ s. lookup (is_at (key_cmp s.0)) items ≡ Some s.1) r rest
          (subst (All (λ s. lookup (is_at (key_cmp s.0)) items ≡ Some s.1)) first made.found);
    }

    module _ (all : MultiMap Key Id) (same : items ≡ all.entries) (by : AreByElement g ids all) where
      first_found : get key_cmp all r.0 ≡ Some r.1
      first_found =
          subst (λ l. lookup (is_at (key_cmp r.0)) l ≡ Some r.1) same
          (All-head (λ s. lookup (is_at (key_cmp s.0)) items ≡ Some s.1) r rest
          (subst (All (λ s. lookup (is_at (key_cmp s.0)) items ≡ Some s.1)) first made.found))

      pub first_listed : r.1.items ≡ filter (λ x. has_change g x r.0.0 r.0.1) ids
      first_listed = sym (listed_at key_cmp all r.0 r.1 first_found) ∙ by.list r.0

      pub first_some : r.1.items ≢ []
      first_some = by.some r.0 r.1 first_found

  -- elements that are made of all of them are all the elements of the install
  pub made_all : (all : MultiMap Key Id) (items left : List Item) (es : List Element) → items ≡ all.entries → left ≡ []
      → AreByElement g ids all → IsOrdered key_cmp all → All (λ r. get key_cmp all r.0 ≡ Some r.1) all.entries
      → AreMade items left es
      → (i : Installation) → IsInstallOf i g c zone deletions ids → AreElementsAfter i es
  made_all all items left es same last by ordered found made i is = record {
    rising = pairs_unmap (λ x y. IsTrue (is_lt (element_cmp (element_key x) (element_key y))))
        (λ k l. IsTrue (is_lt (element_cmp k l))) element_key (λ x y h. h) es
        (subst (AllPairs (λ k l. IsTrue (is_lt (element_cmp k l)))) (sym keys)
        (keys_rise (keys_of all.entries) ordered));
    changed = λ x type name installed has.
        let m = there (type, name) x ((is.members x).1 installed)
        (subst (λ h. IsTrue (has_change h x type name)) is.global has) in
        let k = map_in element_key es (type, name) (subst (λ l. Contains l (type, name)) (sym keys) m) in
        (k.0, k.1, k.2);
    only = λ j d below. changer (get_or es j d) (Contains-get_or es j d below);
    after = λ j d below. made.after j d below i is;
  }
    where
      keys : map element_key es ≡ keys_of all.entries
      keys = sym (append-nil (map element_key es)) ∙ ap (λ l. map element_key es ++ keys_of l) (sym last) ∙ made.keys
          ∙ ap (λ l. keys_of l) same

      first : (l : List Id) → l ≢ [] → (x : Id) × Contains l x
      first [] some = absurd (some refl)
      first (x ∷ l) some = (x, here x l)

      -- what one of them changes is a key
      there : (k : Key) (x : Id) → Contains ids x → IsTrue (has_change g x k.0 k.1) → Contains (keys_of all.entries) k
      there k x within has =
          by_value (get key_cmp all k) refl (subst (λ l. Contains l x) (sym (by.list k))
          (in_filter (λ y. has_change g y k.0 k.1) ids x within has))
        where
          by_value : (o : Option (Vec Id Heap)) → get key_cmp all k ≡ o
              → Contains (option_map_or (λ v. v.items) o []) x → Contains (keys_of all.entries) k
          by_value None at h = absurd (none_in x h)
          by_value (Some v) at h =
              in_map (λ (r : Item). r.0) all.entries (k, v)
              (Contains-from_lookup {eq = λ a b. is_eq (key_cmp a b)}
              (λ a b tied. same_key a b (sym (key_ties a b) ∙ tied)) k v all.entries at)

      changer : (e : Element) → Contains es e
          → (x : Id) × TakesEffect i x × IsTrue (has_change i.global x e.elem_type e.name)
      changer e within =
          let m = map_in (λ (r : Item). r.0) all.entries (element_key e)
          (subst (λ l. Contains l (element_key e)) keys (in_map element_key es e within)) in
          let at = All-contains (λ r. get key_cmp all r.0 ≡ Some r.1) all.entries m.0 found m.1 in
          let x = first m.0.1.items (by.some m.0.0 m.0.1 at) in
          let f = filter_in (λ y. has_change g y m.0.0.0 m.0.0.1) ids x.0
          (subst (λ l. Contains l x.0) (sym (listed_at key_cmp all m.0.0 m.0.1 at) ∙ by.list m.0.0) x.1) in
          let has : IsTrue (has_change g x.0 e.elem_type e.name) =
          subst (λ (k : Key). IsTrue (has_change g x.0 k.0 k.1)) m.2 f.1 in
          (x.0, (is.members x.0).0 f.0, subst (λ h. IsTrue (has_change h x.0 e.elem_type e.name)) (sym is.global) has)
