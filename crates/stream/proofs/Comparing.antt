-- The claims on each element and owner, compared one after the other.
use Rattle.std.proofs.Common.{◌≡◌, ◌≢◌, ◌∙◌, ◌⊎◌, inl, inr, ℕ, ◌+◌, ◌<◌, Bool, true, false, List, [], ◌∷◌, ◌++◌}
use Rattle.std.proofs.Common.{length, take, get_or, map, Option, None, Some, Contains, All, AllPairs, IsTrue, refl, sym}
use Rattle.std.proofs.Common.{ap, ap₂, subst, subst₂, cond, arith, true≢false, append_assoc, append-nil}
use Rattle.std.specs.Ordering.{nat_cmp, is_eq, is_lt}
use Rattle.std.specs.Cmp.{IsTotalOrder}
use Rattle.std.specs.Cmp.Lexicographic.{slice_cmp}
use Rattle.std.specs.BTreeMap.{BTreeMap, get, Updates, IsEmpty, is_at}
use Rattle.std.specs.Map.{lookup}
use Rattle.std.specs.List.{flat_map}
use Rattle.std.proofs.lemmas.Bool.{and_parts}
use Rattle.std.proofs.lemmas.Cmp.{then_total, on_total, nat_list_cmp_total, tied_itself}
use Rattle.std.proofs.lemmas.List.{length_push, map_more, length-take-le, get_or-take, get_or_default}
use Rattle.std.proofs.lemmas.List.Concat.{flat_map-append}
use Rattle.std.proofs.lemmas.List.Elements.{All-push, Contains-get_or, Contains-append_left}
use Rattle.std.proofs.lemmas.List.Elements.{Contains-append_cases, Contains-push, Contains-push_cases}
use Rattle.std.proofs.lemmas.Map.Lookups.{exact_bytes}
use Rattle.std.proofs.lemmas.Option.{same_Some}
use Rattle.terms.proofs.ChangedElements.{change_has, change_found, changes_rise}
use Rattle.terms.proofs.Leads.{reaches_through}
use Rattle.terms.proofs.ListMembers.{none_in, in_map, map_in, in_flat, flat_in}
use Rattle.terms.proofs.Lists.{front_more}
use Rattle.terms.proofs.Orderings.{Equal_from_is_eq, is_eq_then}
use Rattle.terms.specs.Types.{Id, Change, Global}
use Rattle.terms.specs.Choice.{Choice}
use Rattle.terms.specs.Lookups.{change_key, changes_of, has_change, element_cmp}
use Rattle.terms.specs.Global.{IsGlobal}
use Rattle.terms.specs.Over.{IsOver, names, owner}
use Rattle.terms.specs.Stream.{IsInStream}
use Rattle.terms.proofs.ElementOrder.{element_cmp_total}
use Rattle.sorted.specs.ElementKeys.{key_cmp}
use Rattle.sorted.proofs.ElementKeys.{key_total, key_exact}
use Rattle.stream.specs.declared.breaches.Unordered.{Unordered}
use Rattle.terms.specs.declared.kinds.ElemType.{ElemType}
use Rattle.terms.specs.Types.{Text}
use Rattle.stream.specs.Breaches.{IsUnordered}
use Rattle.stream.specs.Ordering.{IsOrder}
use Rattle.stream.specs.Comparing.{Part, part_cmp, Claim, a_claim, claim_of, claims_of, IsClaim, an_unordered, Compares}
use Rattle.stream.specs.Comparing.{HasFound, AreBefore, IsCompared, AreOrdered}

-- each of those so far has the relation to the next one
newest : {X : Type 0} (R : X → X → Type 0) (xs : List X) (k : ℕ) (x : X) → AllPairs R xs → k < length xs
    → x ≡ get_or xs k x → (y : X) → Contains (take k xs) y → R y x
newest R xs k x pairs below is y h =
    let short : length (take k xs) ≡ k = length-take-le k xs (omega (arith, below)) in
    let before : h.0 < k = omega (arith, h.1, short) in
    subst₂ R (sym (get_or-take k xs h.0 x before) ∙ at h.0 h.2 before) (sym is) (pairs h.0 k x before below)
  where
    at : (j : ℕ) → get_or (take k xs) j y ≡ y → j < k → get_or (take k xs) j x ≡ y
    at j is_y before = get_or_default (take k xs) j x y
        (omega (arith, before, length-take-le k xs (omega (arith, below)))) ∙ is_y

-- ---- parts as keys

part_total : IsTotalOrder part_cmp
part_total = then_total (on_total (λ (p : Part). p.0) key_total) (on_total (λ (p : Part). p.1) nat_list_cmp_total)

part_itself : (p : Part) → is_eq (part_cmp p p) ≡ true
part_itself p = ap is_eq (tied_itself part_total p)

same_part : (p q : Part) → is_eq (part_cmp p q) ≡ true → p ≡ q
same_part p q tied =
    let both = and_parts (is_eq (key_cmp p.0 q.0)) (is_eq (slice_cmp nat_cmp p.1 q.1))
    (sym (is_eq_then (key_cmp p.0 q.0) (slice_cmp nat_cmp p.1 q.1)) ∙ tied) in
    ap₂ (λ k o. (k, o)) (key_exact p.0 q.0 (Equal_from_is_eq (key_cmp p.0 q.0) both.0))
    (exact_bytes p.1 q.1 (Equal_from_is_eq (slice_cmp nat_cmp p.1 q.1) both.1))

module _ (old new : BTreeMap Part Id) (k : Part) (x : Id) (updates : Updates part_cmp old new k (Some x)) where
  at_key : get part_cmp new k ≡ Some x
  at_key = updates.0 k ∙ ap (λ b. cond b (Some x) (get part_cmp old k)) (part_itself k)

  -- at a key is the new value, or the old one at another key
  at_some : (q : Part) (y : Id) → get part_cmp new q ≡ Some y → ((q ≡ k) × (y ≡ x)) ⊎ (get part_cmp old q ≡ Some y)
  at_some q y at = by (is_eq (part_cmp k q)) refl
    where
      by : (b : Bool) → is_eq (part_cmp k q) ≡ b → ((q ≡ k) × (y ≡ x)) ⊎ (get part_cmp old q ≡ Some y)
      by true e = inl (
        sym (same_part k q e),
        same_Some y x (sym at ∙ updates.0 q ∙ ap (λ b. cond b (Some x) (get part_cmp old q)) e),
      )
      by false e = inr (sym (ap (λ b. cond b (Some x) (get part_cmp old q)) e) ∙ sym (updates.0 q) ∙ at)

  at_other : (q : Part) → (q ≡ k) ⊎ (get part_cmp new q ≡ get part_cmp old q)
  at_other q = by (is_eq (part_cmp k q)) refl
    where
      by : (b : Bool) → is_eq (part_cmp k q) ≡ b → (q ≡ k) ⊎ (get part_cmp new q ≡ get part_cmp old q)
      by true e = inl (sym (same_part k q e))
      by false e = inr (updates.0 q ∙ ap (λ b. cond b (Some x) (get part_cmp old q)) e)

module _ (g : Global) (c : Choice) where
  -- ---- no claim

  pub compared_none : (last : BTreeMap Part Id) (found : List Unordered) → IsEmpty last → found ≡ []
      → IsCompared g c [] last found
  compared_none last found empty none = record {
    valid = λ a is. absurd (none_in a is);
    known = λ a is. absurd (none_in a is);
    stands = λ k y at. absurd (nowhere k y at);
    sound = subst (All (IsUnordered g c)) (sym none) (λ i d below. absurd (omega (arith, below)));
    complete = λ a b is also same. absurd (none_in a is);
  }
    where
      nowhere : (k : Part) (y : Id) → get part_cmp last k ≡ Some y → ⊥
      nowhere k y at =
          let none : None ≡ Some y = sym (ap (λ es. lookup (is_at (part_cmp k)) es) empty) ∙ at in cc none

  -- ---- one claim more

  -- the one before x is over all others of the part, or something is found
  module _ (claims : List Claim) (last new : BTreeMap Part Id) (found after : List Unordered) (k : Part) (x : Id)
      (is : IsCompared g c claims last found) (claim : IsClaim g c (a_claim k x))
      (before : (y : Id) → Contains claims (a_claim k y) → (y ≢ x) × ¬ IsOver c y x)
      (updates : Updates part_cmp last new k (Some x)) where
    -- x is over the others of the part, unless something is found
    abbrev IsOverThose : Type 0
    IsOverThose = (a : Claim) → Contains claims a → a.part ≡ k → HasFound after ⊎ IsOver c x a.id

    made : (HasFound found → HasFound after) → IsOverThose → All (IsUnordered g c) after
        → IsCompared g c (claims ++ a_claim k x ∷ []) new after
    made keeps over sound = record {
      valid = λ a h. elim (Contains-push_cases claims (a_claim k x) a h) [
        | inl old ↦ is.valid a old
        | inr same ↦ subst (IsClaim g c) same claim
      ];
      known = λ a h. elim (Contains-push_cases claims (a_claim k x) a h) [
        | inl old ↦ known a old (at_other last new k x updates a.part)
        | inr same ↦ subst (λ (b : Claim). (y : Id) × (get part_cmp new b.part ≡ Some y)
            × (HasFound after ⊎ (b.id ≡ y) ⊎ IsOver c y b.id)) same (x, at_key last new k x updates, inr (inl refl))
      ];
      stands = λ q y at. elim (at_some last new k x updates q y at) [
        | inl this ↦ subst (Contains (claims ++ a_claim k x ∷ [])) (sym (ap₂ a_claim this.0 this.1))
            (Contains-push claims (a_claim k x))
        | inr was ↦ Contains-append_left claims (a_claim k x ∷ []) (a_claim q y) (is.stands q y was)
      ];
      sound = sound;
      complete = λ a b h i same. elim (Contains-push_cases claims (a_claim k x) a h) [
        | inl old ↦ elim (Contains-push_cases claims (a_claim k x) b i) [
          | inl also ↦ elim (is.complete a b old also same) [ inl has ↦ inl (keeps has) | inr may ↦ inr may ]
          | inr this ↦ elim (over a old (same ∙ sym (ap (λ (v : Claim). v.part) this))) [
            | inl has ↦ inl has
            | inr on ↦ inr (inr (inr (subst (λ (v : Claim). IsOver c v.id a.id) this on)))
          ]
        ]
        | inr this ↦ elim (Contains-push_cases claims (a_claim k x) b i) [
          | inl also ↦ elim (over b also (sym same ∙ sym (ap (λ (v : Claim). v.part) this))) [
            | inl has ↦ inl has
            | inr on ↦ inr (inr (inl (subst (λ (v : Claim). IsOver c v.id b.id) this on)))
          ]
          | inr that ↦ inr (inl (ap (λ (v : Claim). v.id) (sym this ∙ that)))
        ]
      ];
    }
      where
        known : (a : Claim) → Contains claims a → (a.part ≡ k) ⊎ (get part_cmp new a.part ≡ get part_cmp last a.part)
            → (y : Id) × (get part_cmp new a.part ≡ Some y) × (HasFound after ⊎ (a.id ≡ y) ⊎ IsOver c y a.id)
        known a old (inl same) = (
          x,
          ap (get part_cmp new) same ∙ at_key last new k x updates,
          elim (over a old same) [ inl has ↦ inl has | inr on ↦ inr (inr on) ],
        )
        known a old (inr stays) =
            let was = is.known a old in (
              was.0,
              stays ∙ was.1,
              elim was.2 [ inl has ↦ inl (keeps has) | inr rest ↦ inr rest ],
            )

    pub compared_next : Compares c k x (get part_cmp last k) found after
        → IsCompared g c (claims ++ a_claim k x ∷ []) new after
    compared_next compares = by (get part_cmp last k) refl compares
      where
        none_before : get part_cmp last k ≡ None → IsOverThose
        none_before at a old same =
            let was = is.known a old in
            let wrong : None ≡ Some was.0 = sym at ∙ ap (get part_cmp last) (sym same) ∙ was.1 in absurd (cc wrong)

        over_those : (y : Id) → get part_cmp last k ≡ Some y → IsOver c x y → after ≡ found → IsOverThose
        over_those y at over same a old part =
            let was = is.known a old in
            let there : was.0 ≡ y = same_Some was.0 y (sym was.1 ∙ ap (get part_cmp last) part ∙ at) in
            elim was.2 [
              | inl has ↦ inl (subst HasFound (sym same) has)
              | inr rest ↦ inr (elim rest [
                | inl this ↦ subst (IsOver c x) (sym (this ∙ there)) over
                | inr on ↦ reaches_through (names c) x y a.id over (subst (λ w. IsOver c w a.id) there on)
              ])
            ]

        by : (o : Option Id) → get part_cmp last k ≡ o → Compares c k x o found after
            → IsCompared g c (claims ++ a_claim k x ∷ []) new after
        by None at same =
            made (subst HasFound (sym same)) (none_before at) (subst (All (IsUnordered g c)) (sym same) is.sound)
        by (Some y) at (inl (over, same)) =
            made (subst HasFound (sym same)) (over_those y at over same)
            (subst (All (IsUnordered g c)) (sym same) is.sound)
        by (Some y) at (inr (not_over, pushed)) =
            let there = is.stands k y at in
            let first = is.valid (a_claim k y) there in
            let apart = before y there in
            let has : HasFound after = subst HasFound (sym pushed)
            (omega (arith, length_push found (an_unordered k y x))) in
            made (λ was. has) (λ a old same. inl has)
            (subst (All (IsUnordered g c)) (sym pushed) (All-push (IsUnordered g c) found (an_unordered k y x) is.sound
            (record {
              one = first.stream;
              other = claim.stream;
              apart = apart.0;
              owner = first.owner ∙ sym claim.owner;
              by_one = first.changes;
              by_other = claim.changes;
              not_over = apart.1;
              not_under = not_over;
            })))

  -- ---- the claims of one SYSMOD

  pub claim_valid : (x : Id) (h : Change) → IsInStream c x → Contains (changes_of g x) h
      → IsClaim g c (claim_of g c x h)
  claim_valid x h there is = record { stream = there; owner = refl; changes = change_has g x h is }

  -- no claim of the same part is before one of its statements
  pub part_is_new : IsGlobal g → (x : Id) (claims : List Claim) (i : ℕ) (h : Change) → AreBefore c x claims
      → i < length (changes_of g x) → h ≡ get_or (changes_of g x) i h → (y : Id)
      → Contains (claims ++ map (claim_of g c x) (take i (changes_of g x))) (a_claim (change_key h, owner g c x) y)
      → (y ≢ x) × ¬ IsOver c y x
  part_is_new global x claims i h before below at y is =
      elim (Contains-append_cases claims (map (claim_of g c x) (take i hs)) (a_claim (change_key h, owner g c x) y)
      is) [
        | inl earlier ↦ before (a_claim (change_key h, owner g c x) y) earlier
        | inr own ↦
            let from = map_in (claim_of g c x) (take i hs) (a_claim (change_key h, owner g c x) y) own in
            absurd (other from.0 from.1 (ap (λ (v : Claim). v.part.0) from.2))
      ]
    where
      hs : List Change
      hs = changes_of g x

      other : (o : Change) → Contains (take i hs) o → change_key o ≡ change_key h → ⊥
      other o there same =
          let less = newest (λ (a b : Change). IsTrue (is_lt (element_cmp (change_key a) (change_key b)))) hs i h
          (changes_rise g x global) below at o there in
          true≢false (sym less ∙ ap (λ k. is_lt (element_cmp k (change_key h))) same
          ∙ ap is_lt (tied_itself element_cmp_total (change_key h)))

  -- by one statement more
  pub compared_statement : IsGlobal g → (x : Id) (claims : List Claim) (i : ℕ) (h : Change)
      (last new : BTreeMap Part Id) (found after : List Unordered) → IsInStream c x → AreBefore c x claims
      → i < length (changes_of g x) → h ≡ get_or (changes_of g x) i h
      → Updates part_cmp last new (change_key h, owner g c x) (Some x)
      → Compares c (change_key h, owner g c x) x (get part_cmp last (change_key h, owner g c x)) found after
      → IsCompared g c (claims ++ map (claim_of g c x) (take i (changes_of g x))) last found
      → IsCompared g c (claims ++ map (claim_of g c x) (take (i + 1) (changes_of g x))) new after
  compared_statement global x claims i h last new found after there before below at updates compares is =
      let hs = changes_of g x in
      let front = map (claim_of g c x) (take i hs) in
      let among : Contains hs h = subst (Contains hs) (sym at) (Contains-get_or hs i h below) in
      subst (λ l. IsCompared g c l new after)
      (append_assoc claims front (claim_of g c x h ∷ [])
      ∙ ap (λ l. claims ++ l) (ap (λ v. front ++ claim_of g c x v ∷ []) at
      ∙ sym (map_more (claim_of g c x) hs i h below)))
      (compared_next (claims ++ front) last new found after (change_key h, owner g c x) x is
      (claim_valid x h there among) (part_is_new global x claims i h before below at) updates compares)

  -- the same of a list that is that of its statements, and of its owner
  pub compared_more : IsGlobal g → (x : Id) (claims : List Claim) (hs : List Change) (o : Id) → hs ≡ changes_of g x
      → o ≡ owner g c x → (i : ℕ) (h : Change) (last new : BTreeMap Part Id) (found after : List Unordered)
      → IsInStream c x → AreBefore c x claims → i < length hs → h ≡ get_or hs i h
      → Updates part_cmp last new (change_key h, o) (Some x)
      → Compares c (change_key h, o) x (get part_cmp last (change_key h, o)) found after
      → IsCompared g c (claims ++ map (claim_of g c x) (take i hs)) last found
      → IsCompared g c (claims ++ map (claim_of g c x) (take (i + 1) hs)) new after
  compared_more global x claims hs o same owned i h last new found after there before below at updates compares is =
      subst (λ l. IsCompared g c (claims ++ map (claim_of g c x) (take (i + 1) l)) new after) (sym same)
      (compared_statement global x claims i h last new found after there before
      (subst (λ l. i < length l) same below) (subst (λ l. h ≡ get_or l i h) same at)
      (subst (λ (w : Id). Updates part_cmp last new (change_key h, w) (Some x)) owned updates)
      (subst (λ (w : Id). Compares c (change_key h, w) x (get part_cmp last (change_key h, w)) found after) owned
      compares)
      (subst (λ l. IsCompared g c (claims ++ map (claim_of g c x) (take i l)) last found) same is))

  -- ---- one SYSMOD more

  -- the claims of SYSMODs
  abbrev pub all_claims : List Id → List Claim
  all_claims ids = flat_map (claims_of g c) ids

  pub claims_before : (ids : List Id) (i : ℕ) (x : Id) → IsOrder c ids → i < length ids → x ≡ get_or ids i x
      → AreBefore c x (all_claims (take i ids))
  claims_before ids i x order below at a is =
      let from = flat_in (claims_of g c) (take i ids) a is in
      let by = map_in (claim_of g c from.0) (changes_of g from.0) a from.2 in
      let same : from.0 ≡ a.id = ap (λ (v : Claim). v.id) by.2 in (
        subst (λ y. y ≢ x) same (newest (λ y z. y ≢ z) ids i x order.apart below at from.0 from.1),
        subst (λ y. ¬ IsOver c y x) same (newest (λ y z. ¬ IsOver c y z) ids i x order.order below at from.0 from.1),
      )

  pub claims_next : (ids : List Id) (i : ℕ) (x : Id) → i < length ids → x ≡ get_or ids i x
      → all_claims (take i ids) ++ claims_of g c x ≡ all_claims (take (i + 1) ids)
  claims_next ids i x below at =
      ap (λ l. all_claims (take i ids) ++ l) (sym (append-nil (claims_of g c x)))
      ∙ sym (flat_map-append (claims_of g c) (take i ids) (x ∷ []))
      ∙ ap (flat_map (claims_of g c)) (sym (front_more ids i x below at))

  -- ---- all of them

  claim_there : (ids : List Id) (x : Id) (type : ElemType) (name : Text) → Contains ids x
      → IsTrue (has_change g x type name) → Contains (all_claims ids) (a_claim ((type, name), owner g c x) x)
  claim_there ids x type name is changes =
      let by = change_found g x type name changes in
      in_flat (claims_of g c) ids x (a_claim ((type, name), owner g c x) x) is
      (subst (Contains (claims_of g c x)) (ap₂ (λ t m. a_claim ((t, m), owner g c x) x) by.2 by.3)
      (in_map (claim_of g c x) (changes_of g x) by.0 by.1))

  pub all_compared : (ids : List Id) (last : BTreeMap Part Id) (found : List Unordered)
      → IsCompared g c (all_claims ids) last found → HasFound found ⊎ AreOrdered g c ids
  all_compared ids last [] is = inr (λ x y has also apart owners share.
      let type = share.0 in
      let name = share.1 in
      elim (is.complete (a_claim ((type, name), owner g c x) x) (a_claim ((type, name), owner g c y) y)
      (claim_there ids x type name has share.2) (claim_there ids y type name also share.3)
      (ap (λ o. ((type, name), o)) owners)) [
        | inl none ↦ absurd (omega (arith, none))
        | inr may ↦ elim may [ inl same ↦ absurd (apart same) | inr ordered ↦ ordered ]
      ])
  all_compared ids last (u ∷ us) is = inl (omega arith)
