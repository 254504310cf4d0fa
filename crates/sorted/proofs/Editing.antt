-- Edits of a list that rises by a key: what is found afterwards, and what stays true of the items.
use Rattle.std.proofs.Common.{◌≡◌, ◌<◌, ℕ, Bool, true, false, List, [], ◌∷◌, ◌++◌, length, get_or, take, drop, refl}
use Rattle.std.proofs.Common.{sym, ap, ◌∙◌, cond, arith, append_assoc, ◌+◌, ◌≤◌, add-one, length-drop}
use Rattle.std.specs.Prelude.{All, filter, find, Some, None, IfSome}
use Rattle.std.specs.Option.{option_map_or, option_to_list}
use Rattle.std.specs.declared.cmp.Ordering.{Ordering}
use Rattle.std.specs.declared.cmp.Ordering.TheVariants.{Less, Equal, Greater}
use Rattle.std.specs.Ordering.{is_lt, is_eq, ordering_reverse}
use Rattle.std.specs.Cmp.{IsTotalOrder}
use Rattle.std.proofs.lemmas.Cmp.{alike_right}
use Rattle.std.proofs.lemmas.Bool.{false≢true}
use Rattle.std.proofs.lemmas.List.Elements.{All-head, All-tail, All-cons, All-append, All-filter}
use Rattle.std.proofs.lemmas.List.Elements.{filter-append}
use Rattle.std.proofs.lemmas.List.Kept.{AllPairs-filter}
use Rattle.std.proofs.lemmas.List.{append-nil, take_all, get_or-drop, get_or_default, length-append}
use Rattle.std.proofs.lemmas.List.Sums.{fold_more}
use Rattle.std.proofs.Math.Seq.{drop-cons, get_or-append_seam}
use Rattle.terms.proofs.Orderings.{Equal_from_is_eq, Less_from_is_lt}
use Rattle.terms.proofs.Searches.{find_filter_all, find_filter_none, find_second, find_first, filter_all, filter_none}
use Rattle.terms.proofs.Searches.{find_over}
use Rattle.sorted.specs.declared.edits.Edit.{Edit}
use Rattle.sorted.specs.declared.edits.Edit.TheVariants.{Put, Remove}
use Rattle.terms.specs.Rising.{Rises, before, behind, with_item, without_key}
use Rattle.sorted.specs.Edits.{edit_key, edit_put, after_edit, edited, after_edits}
use Rattle.terms.proofs.RisingLists.{find_there, find_apart}
use Rattle.terms.proofs.Placing.{Splits_cut, Splits_tied, Rises_with_item, Rises_without_key}
use Rattle.terms.proofs.Placing.{with_item_agree, without_key_agree}
use Rattle.terms.proofs.Pairs.{AllPairs_first, AllPairs_rest}

-- Some edits are done: `new` has the items that no later edit is about, and `rest` those that one may be about.
pub record IsEditing {X K : Type 0} (R : K → K → Ordering) (key : X → K) (items : List X) (edits : List (Edit X K))
    (done : ℕ) (new rest : List X) : Type 0 where
  pub kept : edited R key items (take done edits) ≡ new ++ rest
  pub rises : Rises R key rest
  pub low : All (λ x. All (λ e. R (key x) (edit_key key e) ≡ Less) (drop done edits)) new

module _ {X K : Type 0} {R : K → K → Ordering} (o : IsTotalOrder R) (key : X → K) where
  -- an edit keeps the order
  pub Rises_after_edit : (xs : List X) (e : Edit X K) → Rises R key xs → Rises R key (after_edit R key xs e)
  Rises_after_edit xs (Put x) rises = Rises_with_item o key xs x rises
  Rises_after_edit xs (Remove k) rises = Rises_without_key o key xs k rises

  pub Rises_edited : (edits : List (Edit X K)) (xs : List X) → Rises R key xs → Rises R key (edited R key xs edits)
  Rises_edited [] xs rises = rises
  Rises_edited (e ∷ edits) xs rises = Rises_edited edits (after_edit R key xs e) (Rises_after_edit xs e rises)

  -- a fact of all items and of all that are put holds afterwards
  pub All_edited : (P : X → Type 0) (edits : List (Edit X K)) (xs : List X) → All P xs
      → All (λ e. IfSome (edit_put e) P) edits → All P (edited R key xs edits)
  All_edited P [] xs all put = all
  All_edited P (Put x ∷ edits) xs all put =
      let front = All-filter (λ y. is_lt (R (key y) (key x))) P xs all in
      let back = All-filter (λ y. is_lt (R (key x) (key y))) P xs all in
      let one = All-cons P x [] (All-head (λ e. IfSome (edit_put e) P) (Put x) edits put)
      (λ i d h. absurd (omega arith)) in
      All_edited P edits (with_item R key xs x) (All-append P (before R key (key x) xs ++ x ∷ [])
      (behind R key (key x) xs) (All-append P (before R key (key x) xs) (x ∷ []) front one) back)
      (All-tail (λ e. IfSome (edit_put e) P) (Put x) edits put)
  All_edited P (Remove k ∷ edits) xs all put =
      let front = All-filter (λ y. is_lt (R (key y) k)) P xs all in
      let back = All-filter (λ y. is_lt (R k (key y))) P xs all in
      All_edited P edits (without_key R key xs k) (All-append P (before R key k xs) (behind R key k xs) front back)
      (All-tail (λ e. IfSome (edit_put e) P) (Remove k) edits put)

  -- Items below the key stay in front, and of the others those go over that stand behind it.
  pub before_below : (k : K) (front rest : List X) → All (λ x. R (key x) k ≡ Less) front
      → before R key k (front ++ rest) ≡ front ++ before R key k rest
  before_below k front rest low =
      let p : X → Bool = λ x. is_lt (R (key x) k) in
      filter-append p front rest ∙ ap (λ ys. ys ++ filter p rest) (filter_all p front (λ i d h. ap is_lt (low i d h)))

  pub behind_below : (k : K) (front rest : List X) → All (λ x. R (key x) k ≡ Less) front
      → behind R key k (front ++ rest) ≡ behind R key k rest
  behind_below k front rest low =
      let p : X → Bool = λ x. is_lt (R k (key x)) in
      filter-append p front rest ∙ ap (λ ys. ys ++ filter p rest)
      (filter_none p front (λ i d h. rw (o.antisymm k (key (get_or front i d)), low i d h) refl))

  pub after_edit_below : (front rest : List X) (e : Edit X K) → All (λ x. R (key x) (edit_key key e) ≡ Less) front
      → after_edit R key (front ++ rest) e ≡ (front ++ before R key (edit_key key e) rest)
      ++ option_to_list (edit_put e) ++ behind R key (edit_key key e) rest
  after_edit_below front rest (Put x) low =
      ap (λ ys. (ys ++ x ∷ []) ++ behind R key (key x) (front ++ rest)) (before_below (key x) front rest low)
      ∙ ap (λ ys. ((front ++ before R key (key x) rest) ++ x ∷ []) ++ ys) (behind_below (key x) front rest low)
  after_edit_below front rest (Remove k) low =
      ap (λ ys. ys ++ behind R key k (front ++ rest)) (before_below k front rest low)
      ∙ ap (λ ys. (front ++ before R key k rest) ++ ys) (behind_below k front rest low)
      ∙ ap (λ ys. ys ++ behind R key k rest) (sym (append-nil (front ++ before R key k rest)))

  -- what an edit puts stands before the keys that its own stands before
  put_low : (e : Edit X K) (fs : List (Edit X K)) → All (λ f. R (edit_key key e) (edit_key key f) ≡ Less) fs
      → All (λ x. All (λ f. R (key x) (edit_key key f) ≡ Less) fs) (option_to_list (edit_put e))
  put_low (Put x) fs up = All-cons (λ x. All (λ f. R (key x) (edit_key key f) ≡ Less) fs) x [] up
      (λ i d h. absurd (omega arith))
  put_low (Remove k) fs up = λ i d h. absurd (omega arith)

  pub editing_starts : (items : List X) (edits : List (Edit X K)) → Rises R key items
      → IsEditing R key items edits 0 [] items
  editing_starts items edits rises = record { kept = refl; rises = rises; low = λ i d h. absurd (omega arith) }

  pub editing_ends : (items : List X) (edits : List (Edit X K)) (done : ℕ) (new rest : List X) → length edits ≤ done
      → IsEditing R key items edits done new rest → new ++ rest ≡ edited R key items edits
  editing_ends items edits done new rest all s = sym s.kept ∙ ap (edited R key items) (take_all done edits all)

  pub editing_goes_on : (items : List X) (edits : List (Edit X K)) (done : ℕ) (new rest : List X) (e : Edit X K)
      → Rises R (edit_key key) edits → done < length edits → e ≡ get_or edits done e
      → IsEditing R key items edits done new rest → IsEditing R key items edits (done + 1)
      ((new ++ before R key (edit_key key e) rest) ++ option_to_list (edit_put e)) (behind R key (edit_key key e) rest)
  editing_goes_on items edits done new rest e rises below is s =
      let parts : drop done edits ≡ e ∷ drop (done + 1) edits = rw add-one (rw (← is) at (drop-cons edits done e below))
      in
      let now : All (λ x. R (key x) (edit_key key e) ≡ Less) new =
      λ i d h. All-head (λ f. R (key (get_or new i d)) (edit_key key f) ≡ Less) e (drop (done + 1) edits)
      (rw parts at (s.low i d h)) in
      let later : All (λ x. All (λ f. R (key x) (edit_key key f) ≡ Less) (drop (done + 1) edits)) new =
      λ i d h. All-tail (λ f. R (key (get_or new i d)) (edit_key key f) ≡ Less) e (drop (done + 1) edits)
      (rw parts at (s.low i d h)) in
      let up : All (λ f. R (edit_key key e) (edit_key key f) ≡ Less) (drop (done + 1) edits) =
      λ i d h.
      let here : get_or edits done d ≡ e = get_or_default edits done d e below ∙ sym is in
      let there = get_or-drop (done + 1) edits i d in
      let step = Less_from_is_lt (R (edit_key key (get_or edits done d)) (edit_key key (get_or edits (done + 1 + i) d)))
      (rises done (done + 1 + i) d (omega arith) (omega (arith, length-drop (done + 1) edits))) in
      ap (λ f. R (edit_key key f) (edit_key key (get_or (drop (done + 1) edits) i d))) (sym here)
      ∙ ap (λ f. R (edit_key key (get_or edits done d)) (edit_key key f)) there ∙ step in
      let k = edit_key key e in
      let cut = Splits_cut o key k rest in
      let between : All (λ x. All (λ f. R (key x) (edit_key key f) ≡ Less) (drop (done + 1) edits))
      (before R key k rest) =
      λ i d h. λ j f below. o.trans (key (get_or (before R key k rest) i d)) k
      (edit_key key (get_or (drop (done + 1) edits) j f)) (cut.low i d h) (up j f below) in
      let P : X → Type 0 = λ x. All (λ f. R (key x) (edit_key key f) ≡ Less) (drop (done + 1) edits) in
      record {
        kept =
            fold_more (after_edit R key) items edits done e below
            ∙ ap (λ ys. after_edit R key ys (get_or edits done e)) s.kept
            ∙ ap (λ f. after_edit R key (new ++ rest) f) (sym is)
            ∙ after_edit_below new rest e now;
        rises = AllPairs-filter (λ a b. is_lt (R (key a) (key b)) ≡ true) (λ x. is_lt (R k (key x))) rest s.rises;
        low = All-append P (new ++ before R key k rest) (option_to_list (edit_put e))
            (All-append P new (before R key k rest) later between) (put_low e (drop (done + 1) edits) up);
      }

  -- the same for edits that are walked through: those of the front are done
  pub editing_walks_on : (items : List X) (edits front : List (Edit X K)) (e : Edit X K) (back : List (Edit X K))
      (new rest : List X) → front ++ e ∷ back ≡ edits → Rises R (edit_key key) edits
      → IsEditing R key items edits (length front) new rest → IsEditing R key items edits (length (front ++ e ∷ []))
      ((new ++ before R key (edit_key key e) rest) ++ option_to_list (edit_put e)) (behind R key (edit_key key e) rest)
  editing_walks_on items edits front e back new rest all rises s =
      let here : get_or edits (length front) e ≡ e =
      ap (λ es. get_or es (length front) e) (sym all) ∙ get_or-append_seam front e back e in
      let long = ap length (sym all) ∙ length-append front (e ∷ back) in
      rw (length-append front (e ∷ [])) (editing_goes_on items edits (length front) new rest e rises
      (omega (arith, long)) (sym here) s)

  -- At an edit's key stands afterwards what it puts there, and at other keys what stood there.
  module _ (E : K → K → Bool) (ties : (a b : K) → E a b ≡ is_eq (R a b)) where
    tied : (a b : K) → E a b ≡ true → R a b ≡ Equal
    tied a b e = Equal_from_is_eq (R a b) (sym (ties a b) ∙ e)

    find_put : (xs : List X) (x : X) (k : K) → E (key x) k ≡ true
        → find (λ y. E (key y) k) (with_item R key xs x) ≡ Some x
    find_put xs x k e =
        let s = Splits_tied o key (key x) k (before R key (key x) xs) (behind R key (key x) xs) (tied (key x) k e)
        (Splits_cut o key (key x) xs) in
        rw (append_assoc (before R key (key x) xs) (x ∷ []) (behind R key (key x) xs))
        (find_there o key E ties k (before R key (key x) xs) (behind R key (key x) xs) x s (tied (key x) k e))

    find_removed : (xs : List X) (l k : K) → E l k ≡ true → find (λ y. E (key y) k) (without_key R key xs l) ≡ None
    find_removed xs l k e =
        find_apart o key E ties k (before R key l xs) (behind R key l xs)
        (Splits_tied o key l k (before R key l xs) (behind R key l xs) (tied l k e) (Splits_cut o key l xs))

    -- the other keys are all before an edit's key or all behind it
    find_around : (mid : List X) (xs : List X) (l k : K) → find (λ y. E (key y) k) mid ≡ None → E l k ≡ false
        → find (λ y. E (key y) k) (before R key l xs ++ mid ++ behind R key l xs) ≡ find (λ y. E (key y) k) xs
    find_around mid xs l k none e = by_order (R l k) refl
      where
        by_order : (r : Ordering) → R l k ≡ r → find (λ y. E (key y) k) (before R key l xs ++ mid ++ behind R key l xs)
            ≡ find (λ y. E (key y) k) xs
        by_order Less f =
            let up : find (λ y. E (key y) k) (behind R key l xs) ≡ find (λ y. E (key y) k) xs =
            find_filter_all (λ y. E (key y) k) (λ x. is_lt (R l (key x)))
            (λ x t. ap is_lt (alike_right o (key x) k l (tied (key x) k t) ∙ f)) xs in
            let down : find (λ y. E (key y) k) (before R key l xs) ≡ None =
            find_filter_none (λ y. E (key y) k) (λ x. is_lt (R (key x) l))
            (λ x t. ap is_lt (o.congr (key x) k l (tied (key x) k t) ∙ o.antisymm k l ∙ ap ordering_reverse f))
            xs in
            let front : find (λ y. E (key y) k) (before R key l xs ++ mid) ≡ None =
            find_second (λ y. E (key y) k) (before R key l xs) mid down ∙ none in
            find_second (λ y. E (key y) k) (before R key l xs ++ mid) (behind R key l xs) front ∙ up
        by_order Equal f = absurd (false≢true (sym e ∙ ties l k ∙ ap is_eq f))
        by_order Greater f =
            let up : find (λ y. E (key y) k) (behind R key l xs) ≡ None =
            find_filter_none (λ y. E (key y) k) (λ x. is_lt (R l (key x)))
            (λ x t. ap is_lt (alike_right o (key x) k l (tied (key x) k t) ∙ f)) xs in
            let down : find (λ y. E (key y) k) (before R key l xs) ≡ find (λ y. E (key y) k) xs =
            find_filter_all (λ y. E (key y) k) (λ x. is_lt (R (key x) l))
            (λ x t. ap is_lt (o.congr (key x) k l (tied (key x) k t) ∙ o.antisymm k l ∙ ap ordering_reverse f))
            xs in
            find_first (λ y. E (key y) k) (before R key l xs ++ mid) (behind R key l xs) up
            ∙ find_first (λ y. E (key y) k) (before R key l xs) mid none ∙ down

    pub find_after_edit : (xs : List X) (e : Edit X K) (k : K)
        → find (λ y. E (key y) k) (after_edit R key xs e) ≡ cond (E (edit_key key e) k) (edit_put e)
        (find (λ y. E (key y) k) xs)
    find_after_edit xs (Put x) k = by_test (E (key x) k) refl
      where
        by_test : (t : Bool) → E (key x) k ≡ t → find (λ y. E (key y) k) (with_item R key xs x) ≡ cond (E (key x) k)
            (Some x) (find (λ y. E (key y) k) xs)
        by_test true t = find_put xs x k t ∙ ap (λ b. cond b (Some x) (find (λ y. E (key y) k) xs)) (sym t)
        by_test false t =
            find_around (x ∷ []) xs (key x) k (ap (λ b. cond b (Some x) None) t) t
            ∙ ap (λ b. cond b (Some x) (find (λ y. E (key y) k) xs)) (sym t)
    find_after_edit xs (Remove l) k = by_test (E l k) refl
      where
        by_test : (t : Bool) → E l k ≡ t → find (λ y. E (key y) k) (without_key R key xs l) ≡ cond (E l k) None
            (find (λ y. E (key y) k) xs)
        by_test true t = find_removed xs l k t ∙ ap (λ b. cond b None (find (λ y. E (key y) k) xs)) (sym t)
        by_test false t =
            ap (λ ys. find (λ y. E (key y) k) (ys ++ behind R key l xs)) (sym (append-nil (before R key l xs)))
            ∙ find_around [] xs l k refl t ∙ ap (λ b. cond b None (find (λ y. E (key y) k) xs)) (sym t)

    -- what stands at a key after edits that rise
    pub find_edited : (edits : List (Edit X K)) → Rises R (edit_key key) edits → (xs : List X) (k : K)
        → find (λ y. E (key y) k) (edited R key xs edits) ≡ after_edits E key edits xs k
    find_edited [] rises xs k = refl
    find_edited (e ∷ edits) rises xs k =
        by_test (find_edited edits (AllPairs_rest (λ a b. is_lt (R (edit_key key a) (edit_key key b)) ≡ true) e edits
        rises) (after_edit R key xs e) k) (E (edit_key key e) k) refl
      where
        by_test : find (λ y. E (key y) k) (edited R key (after_edit R key xs e) edits) ≡ after_edits E key edits
            (after_edit R key xs e) k → (t : Bool) → E (edit_key key e) k ≡ t
            → find (λ y. E (key y) k) (edited R key (after_edit R key xs e) edits) ≡ after_edits E key (e ∷ edits) xs k
        by_test rest true t =
            let later = AllPairs_first (λ a b. is_lt (R (edit_key key a) (edit_key key b)) ≡ true) e edits rises in
            let none : find (λ d. E (edit_key key d) k) edits ≡ None =
            ap (find (λ d. E (edit_key key d) k)) (sym (append-nil edits))
            ∙ find_over (λ d. E (edit_key key d) k) edits [] (λ i d h.
            let l = edit_key key (get_or edits i d) in
            let above : R k l ≡ Less = sym (o.congr (edit_key key e) k l (tied (edit_key key e) k t))
            ∙ Less_from_is_lt (R (edit_key key e) l) (later i d h) in
            ties l k ∙ ap is_eq (o.antisymm l k ∙ ap ordering_reverse above)) in
            rest ∙ ap (λ found. option_map_or edit_put found (find (λ y. E (key y) k) (after_edit R key xs e))) none
            ∙ find_after_edit xs e k ∙ ap (λ b. cond b (edit_put e) (find (λ y. E (key y) k) xs)) t
            ∙ ap (λ b. option_map_or edit_put (cond b (Some e) (find (λ d. E (edit_key key d) k) edits))
            (find (λ y. E (key y) k) xs)) (sym t)
        by_test rest false t =
            rest ∙ ap (λ found. option_map_or edit_put (find (λ d. E (edit_key key d) k) edits) found)
            (find_after_edit xs e k ∙ ap (λ b. cond b (edit_put e) (find (λ y. E (key y) k) xs)) t)
            ∙ ap (λ b. option_map_or edit_put (cond b (Some e) (find (λ d. E (edit_key key d) k) edits))
            (find (λ y. E (key y) k) xs)) (sym t)

-- orders that answer alike
pub edited_agree : {X K : Type 0} (R S : K → K → Ordering) → ((a b : K) → R a b ≡ S a b)
    → (key : X → K) (edits : List (Edit X K)) (xs : List X) → edited R key xs edits ≡ edited S key xs edits
edited_agree R S same key [] xs = refl
edited_agree R S same key (Put x ∷ edits) xs =
    edited_agree R S same key edits (with_item R key xs x) ∙ ap (λ ys. edited S key ys edits)
    (with_item_agree R S same key xs x)
edited_agree R S same key (Remove k ∷ edits) xs =
    edited_agree R S same key edits (without_key R key xs k)
    ∙ ap (λ ys. edited S key ys edits) (without_key_agree R S same key xs k)
