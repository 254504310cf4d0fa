-- Edits of different keys commute: those that put a new item may be made last, as items that come in together.
use Rattle.std.proofs.Common.{◌≡◌, Bool, true, false, not, List, [], ◌∷◌, ◌++◌, map, Option, None, Some, IfSome}
use Rattle.std.proofs.Common.{IsPermutation, refl, sym, ap, subst, ◌∙◌}
use Rattle.std.specs.Prelude.{filter, find, is_some}
use Rattle.std.specs.List.{AllByRecursion, filter_map}
use Rattle.std.specs.Option.{option_to_list}
use Rattle.std.specs.declared.cmp.Ordering.{Ordering}
use Rattle.std.specs.Ordering.{is_lt, is_eq}
use Rattle.std.specs.Cmp.{IsTotalOrder}
use Rattle.std.proofs.lemmas.List.Kept.{AllPairs-filter}
use Rattle.std.proofs.lemmas.List.Sorted.{IsPermutation-refl, IsPermutation-trans, IsPermutation-cons}
use Rattle.std.proofs.lemmas.List.Sorted.{IsPermutation-sym, IsPermutation-middle, IsPermutation-append_right}
use Rattle.sqlite_trees.proofs.ListLemmas.{IsPermutation-filter}
use Rattle.sorted.specs.declared.edits.Edit.{Edit}
use Rattle.sorted.specs.declared.edits.Edit.TheVariants.{Put, Remove}
use Rattle.sorted.specs.Edits.{edit_key, edit_put, after_edit, edited}
use Rattle.sorted.proofs.Editing.{find_after_edit}
use Rattle.terms.proofs.Each.{recursion_weaker}
use Rattle.terms.proofs.Orderings.{Less_from_is_lt}
use Rattle.terms.proofs.Pairs.{AllPairs_first, AllPairs_rest, pairs_map, pairs_unmap}
use Rattle.terms.specs.Rising.{Rises, with_item}
use Rattle.store_schema.proofs.WrittenLists.{all_by}
use Rattle.store.specs.Writes.{others}
use Rattle.store.proofs.Parts.{left_parts, put_parts}

module _ {X K : Type 0} {R : K → K → Ordering} (o : IsTotalOrder R) (key : X → K) (E : K → K → Bool)
    (ties : (a b : K) → E a b ≡ is_eq (R a b)) where
  abbrev after : List X → Edit X K → List X
  after = after_edit R key

  abbrev all : List X → List (Edit X K) → List X
  all = edited R key

  -- ---- items in another order

  after_parts : (e : Edit X K) (xs : List X)
      → IsPermutation (after xs e) (option_to_list (edit_put e) ++ filter (λ x. not (E (key x) (edit_key key e))) xs)
  after_parts (Put x) xs = put_parts o key E ties x xs
  after_parts (Remove k) xs = left_parts o key E ties k xs

  after_alike : (e : Edit X K) (xs ys : List X) → IsPermutation xs ys → IsPermutation (after xs e) (after ys e)
  after_alike e xs ys same =
      let kept : X → Bool = λ x. not (E (key x) (edit_key key e)) in
      IsPermutation-trans _ _ _ (after_parts e xs) (IsPermutation-trans _ _ _
      (IsPermutation-append_right (option_to_list (edit_put e)) (filter kept xs) (filter kept ys)
      (IsPermutation-filter kept xs ys same)) (IsPermutation-sym _ _ (after_parts e ys)))

  all_alike : (es : List (Edit X K)) (xs ys : List X) → IsPermutation xs ys → IsPermutation (all xs es) (all ys es)
  all_alike [] xs ys same = same
  all_alike (e ∷ es) xs ys same = all_alike es (after xs e) (after ys e) (after_alike e xs ys same)

  -- ---- an item of another key stays

  passes_by : (x : X) (e : Edit X K) (ys : List X) → E (key x) (edit_key key e) ≡ false
      → IsPermutation (after (x ∷ ys) e) (x ∷ after ys e)
  passes_by x e ys apart =
      let put = option_to_list (edit_put e) in
      let kept : List X = filter (λ y. not (E (key y) (edit_key key e))) ys in
      let own : filter (λ y. not (E (key y) (edit_key key e))) (x ∷ ys) ≡ x ∷ kept = rw apart refl in
      IsPermutation-trans _ _ _
      (subst (λ zs. IsPermutation (after (x ∷ ys) e) (put ++ zs)) own (after_parts e (x ∷ ys)))
      (IsPermutation-trans _ _ _ (IsPermutation-middle put x kept)
      (IsPermutation-cons x _ _ (IsPermutation-sym _ _ (after_parts e ys))))

  passes_all : (x : X) (es : List (Edit X K)) (ys : List X)
      → AllByRecursion (λ e. E (key x) (edit_key key e) ≡ false) es → IsPermutation (all (x ∷ ys) es) (x ∷ all ys es)
  passes_all x [] ys apart = IsPermutation-refl (x ∷ ys)
  passes_all x (e ∷ es) ys apart =
      IsPermutation-trans _ _ _ (all_alike es (after (x ∷ ys) e) (x ∷ after ys e) (passes_by x e ys apart.0))
      (passes_all x es (after ys e) apart.1)

  -- ---- a new item

  none_goes : (k : K) (ys : List X) → find (λ y. E (key y) k) ys ≡ None → filter (λ y. not (E (key y) k)) ys ≡ ys
  none_goes k [] none = refl
  none_goes k (y ∷ ys) none = by (none_goes k ys) (E (key y) k) refl
    where
      by : (find (λ z. E (key z) k) ys ≡ None → filter (λ z. not (E (key z) k)) ys ≡ ys) → (b : Bool) → E (key y) k ≡ b
          → filter (λ z. not (E (key z) k)) (y ∷ ys) ≡ y ∷ ys
      by rest true here = absurd (let found : find (λ z. E (key z) k) (y ∷ ys) ≡ Some y = rw here refl in cc)
      by rest false other =
          let later : find (λ z. E (key z) k) ys ≡ None = rw other at none in
          rw other (ap (λ zs. y ∷ zs) (rest later))

  comes_in : (x : X) (ys : List X) → find (λ y. E (key y) (key x)) ys ≡ None
      → IsPermutation (after ys (Put x)) (x ∷ ys)
  comes_in x ys none =
      subst (λ zs. IsPermutation (with_item R key ys x) (x ∷ zs)) (none_goes (key x) ys none)
      (put_parts o key E ties x ys)

  module _ {B : Type 0} (new : Edit X K × B → Option X) where
    abbrev D : Type 0
    D = Edit X K × B

    abbrev edit : D → Edit X K
    edit d = d.0

    -- what is new is put, and there is no item of its key
    abbrev pub IsNewIn : List X → D → Type 0
    IsNewIn ys d = IfSome (new d) (λ x. (edit d ≡ Put x) × (find (λ y. E (key y) (key x)) ys ≡ None))

    still_new : (e : Edit X K) (ys : List X) (d : D) → E (edit_key key e) (edit_key key (edit d)) ≡ false
        → IsNewIn ys d → IsNewIn (after ys e) d
    still_new e ys d apart h = by (new d) refl h
      where
        by : (n : Option X) → new d ≡ n
            → IfSome n (λ x. (edit d ≡ Put x) × (find (λ y. E (key y) (key x)) ys ≡ None))
            → IfSome (new d) (λ x. (edit d ≡ Put x) × (find (λ y. E (key y) (key x)) (after ys e) ≡ None))
        by None is given = rw is tt
        by (Some x) is given =
            let other : E (edit_key key e) (key x) ≡ false =
            ap (λ k. E (edit_key key e) k) (sym (ap (edit_key key) given.0)) ∙ apart in
            rw is (given.0, find_after_edit o key E ties ys e (key x) ∙ rw other given.1)

    all_still_new : (e : Edit X K) (ys : List X) (ds : List D)
        → AllByRecursion (λ d. E (edit_key key e) (edit_key key (edit d)) ≡ false) ds
        → AllByRecursion (IsNewIn ys) ds → AllByRecursion (IsNewIn (after ys e)) ds
    all_still_new e ys [] apart h = tt
    all_still_new e ys (d ∷ ds) apart h = (still_new e ys d apart.0 h.0, all_still_new e ys ds apart.1 h.1)

    others_apart : (k : K) (ds : List D) → AllByRecursion (λ d. E k (edit_key key (edit d)) ≡ false) ds
        → AllByRecursion (λ e. E k (edit_key key e) ≡ false) (others new ds)
    others_apart k [] h = tt
    others_apart k (d ∷ ds) h = by (others_apart k ds h.1) (new d) refl
      where
        by : AllByRecursion (λ e. E k (edit_key key e) ≡ false) (others new ds) → (n : Option X) → new d ≡ n
            → AllByRecursion (λ e. E k (edit_key key e) ≡ false) (others new (d ∷ ds))
        by rest None is = rw is (h.0, rest)
        by rest (Some x) is = rw is rest

    -- the keys behind the first are others
    first_apart : (d : D) (ds : List D) → Rises R (edit_key key) (map edit (d ∷ ds))
        → AllByRecursion (λ c. E (edit_key key (edit d)) (edit_key key (edit c)) ≡ false) ds
    first_apart d ds rises =
        let k = edit_key key (edit d) in
        let Below : D → D → Type 0 = λ a b. is_lt (R (edit_key key (edit a)) (edit_key key (edit b))) ≡ true in
        let own = pairs_unmap Below (λ a b. is_lt (R (edit_key key a) (edit_key key b)) ≡ true) edit
        (λ a b h. h) (d ∷ ds) rises in
        recursion_weaker (Below d) (λ c. E k (edit_key key (edit c)) ≡ false)
        (λ c low. ties k (edit_key key (edit c)) ∙ ap is_eq (Less_from_is_lt (R k (edit_key key (edit c))) low)) ds
        (all_by (Below d) ds (AllPairs_first Below d ds own))

    rest_rises : (d : D) (ds : List D) → Rises R (edit_key key) (map edit (d ∷ ds))
        → Rises R (edit_key key) (map edit ds)
    rest_rises d ds rises =
        AllPairs_rest (λ a b. is_lt (R (edit_key key a) (edit_key key b)) ≡ true) (edit d) (map edit ds) rises

    -- the new ones may come in last
    pub new_last : (ds : List D) → Rises R (edit_key key) (map edit ds) → (xs ys : List X) → IsPermutation xs ys
        → AllByRecursion (IsNewIn ys) ds
        → IsPermutation (all xs (map edit ds)) (filter_map new ds ++ all ys (others new ds))
    new_last [] rises xs ys same are = same
    new_last (d ∷ ds) rises xs ys same are =
        let e = edit d in
        let apart = first_apart d ds rises in
        by apart (new_last ds (rest_rises d ds rises) (after xs e) (after ys e) (after_alike e xs ys same)
        (all_still_new e ys ds apart are.1)) (new d) refl are.0
      where
        rest : List (Edit X K)
        rest = others new ds

        by : AllByRecursion (λ c. E (edit_key key (edit d)) (edit_key key (edit c)) ≡ false) ds
            → IsPermutation (all (after xs (edit d)) (map edit ds)) (filter_map new ds ++ all (after ys (edit d)) rest)
            → (n : Option X) → new d ≡ n
            → IfSome n (λ x. (edit d ≡ Put x) × (find (λ y. E (key y) (key x)) ys ≡ None))
            → IsPermutation (all xs (map edit (d ∷ ds))) (filter_map new (d ∷ ds) ++ all ys (others new (d ∷ ds)))
        by apart later None is given = rw is later
        by apart later (Some x) is given =
            let aside : AllByRecursion (λ f. E (key x) (edit_key key f) ≡ false) rest =
            others_apart (key x) ds
            (subst (λ k. AllByRecursion (λ c. E k (edit_key key (edit c)) ≡ false) ds) (ap (edit_key key) given.0)
            apart) in
            let come : IsPermutation (after ys (edit d)) (x ∷ ys) =
            subst (λ f. IsPermutation (after ys f) (x ∷ ys)) (sym given.0) (comes_in x ys given.1) in
            let moved : IsPermutation (all (after ys (edit d)) rest) (x ∷ all ys rest) =
            IsPermutation-trans _ _ _ (all_alike rest (after ys (edit d)) (x ∷ ys) come) (passes_all x rest ys aside) in
            rw is (IsPermutation-trans _ _ _ later (IsPermutation-trans _ _ _
            (IsPermutation-append_right (filter_map new ds) _ _ moved)
            (IsPermutation-middle (filter_map new ds) x (all ys rest))))

    -- the others rise too
    pub others_rise : (ds : List D) → Rises R (edit_key key) (map edit ds) → Rises R (edit_key key) (others new ds)
    others_rise ds rises =
        let Below : D → D → Type 0 = λ a b. is_lt (R (edit_key key (edit a)) (edit_key key (edit b))) ≡ true in
        let Before : Edit X K → Edit X K → Type 0 = λ a b. is_lt (R (edit_key key a) (edit_key key b)) ≡ true in
        let p : D → Bool = λ d. not (is_some (new d)) in
        pairs_map Below Before edit (λ a b h. h) (filter p ds)
        (AllPairs-filter Below p ds (pairs_unmap Below Before edit (λ a b h. h) ds rises))
