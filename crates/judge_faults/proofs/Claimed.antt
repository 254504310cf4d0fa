-- The claims of the candidates, and the claims of one element side by side.
use Rattle.std.proofs.Common.{◌≡◌, ◌≢◌, inl, inr, ℕ, ◌+◌, true, false, List, ◌++◌}
use Rattle.std.proofs.Common.{Some, refl, sym, ap, ap₂, ◌∙◌, subst, true≢false, map, Contains, arith, slice_get}
use Rattle.std.proofs.Common.{IsPermutation, ◌<◌, ◌≤◌, length, get_or}
use Rattle.std.specs.List.Sorted.{IsSortedByKey}
use Rattle.std.specs.declared.cmp.Ordering.{Ordering}
use Rattle.std.specs.declared.cmp.Ordering.TheVariants.{Less, Equal, Greater}
use Rattle.std.specs.Ordering.{is_lt, nat_cmp, ordering_then, ordering_reverse}
use Rattle.std.specs.Cmp.{IsTotalOrder}
use Rattle.std.specs.Cmp.Lexicographic.{slice_cmp}
use Rattle.std.proofs.lemmas.List.Sorted.{Contains-permutation, IsPermutation-sym, ranks_by, sorted_far}
use Rattle.std.proofs.lemmas.Map.Lookups.{exact_bytes, exact_pairs, exact_unsigned, CmpEqualImpliesEq}
use Rattle.std.proofs.lemmas.Bool.{cases_eq}
use Rattle.std.proofs.lemmas.List.Elements.{Contains-append_left, Contains-append_right, Contains-append_cases}
use Rattle.std.proofs.lemmas.Option.{same_Some, slice_get_within, get_or_from_slice_get}
use Rattle.terms.specs.declared.kinds.ElemType.{ElemType}
use Rattle.terms.specs.Types.{Text, Id, Global, type_number}
use Rattle.terms.specs.Lookups.{changes_of, change_key, element_cmp}
use Rattle.terms.proofs.ElementOrder.{cmp_keys, element_cmp_total, type_from_number}
use Rattle.terms.proofs.ListMembers.{in_map, map_in}
use Rattle.terms.specs.contracts.kinds.ElemTypeOrd.TheImpl as type_order
use Rattle.judge_faults.specs.declared.own.OwnFaults.{OwnFaults}
use Rattle.judge_faults.specs.declared.claims.Claim.{Claim}
use Rattle.judge_faults.specs.Own.{passes}
use Rattle.judge_faults.specs.Claims.{a_claim, HasClaim, AreClaims, AreGrouped}

abbrev Key : Type 0
Key = ElemType × Text

module _ (g : Global) (ids : List Id) (faults : List OwnFaults) where
  wider : (k : ℕ) (key : Key) (x : Id) (n : ℕ) → HasClaim g ids faults k key x n → HasClaim g ids faults (k + 1) key x n
  wider k key x n h = record { below = omega (arith, h.below); by = h.by; changes = h.changes }

  narrower : (k : ℕ) (key : Key) (x : Id) (n : ℕ) → n ≢ k → HasClaim g ids faults (k + 1) key x n
      → HasClaim g ids faults k key x n
  narrower k key x n other h = record {
    below = omega (arith, h.below, other);
    by = h.by;
    changes = h.changes;
  }

  -- the next candidate fails by itself
  pub claims_skip : (k : ℕ) (own : OwnFaults) (claims : List Claim) → slice_get faults k ≡ Some own → passes own ≡ false
      → AreClaims g ids faults k claims → AreClaims g ids faults (k + 1) claims
  claims_skip k own claims at fails are key x n = (
    λ h. wider k key x n ((are key x n).0 h),
    λ h. elim (cases_eq n k) [
      | inl this ↦
          let here : Some own ≡ Some h.by.own = sym at
          ∙ subst (λ m. slice_get faults m ≡ Some h.by.own) this h.by.own_at in
          absurd (true≢false (sym h.by.passing ∙ ap passes (sym (same_Some own h.by.own here)) ∙ fails))
      | inr other ↦ (are key x n).1 (narrower k key x n other h)
    ],
  )

  abbrev claims_at : ℕ → Id → List Claim
  claims_at k x = map (λ h. a_claim (change_key h) x k) (changes_of g x)

  -- the next candidate claims what it changes
  pub claims_more : (k : ℕ) (y : Id) (own : OwnFaults) (claims : List Claim) → slice_get ids k ≡ Some y
      → slice_get faults k ≡ Some own
      → passes own ≡ true → AreClaims g ids faults k claims
      → AreClaims g ids faults (k + 1) (claims ++ claims_at k y)
  claims_more k y own claims at own_at passing are key x n = (gives, takes)
    where
      gives : Contains (claims ++ claims_at k y) (a_claim key x n) → HasClaim g ids faults (k + 1) key x n
      gives h = elim (Contains-append_cases claims (claims_at k y) (a_claim key x n) h) [
        | inl old ↦ wider k key x n ((are key x n).0 old)
        | inr later ↦
            let m = map_in (λ h. a_claim (change_key h) y k) (changes_of g y) (a_claim key x n) later in
            let place : k ≡ n = ap (λ (c : Claim). c.place) m.2 in
            let id : y ≡ x = ap (λ (c : Claim). c.id) m.2 in
            let element : change_key m.0 ≡ key = ap (λ (c : Claim). c.element) m.2 in
            subst (λ z. HasClaim g ids faults (k + 1) key z n) id
            (subst (HasClaim g ids faults (k + 1) key y) place (record {
              below = omega arith;
              by = record { at = at; own = own; own_at = own_at; passing = passing };
              changes = subst (Contains (map change_key (changes_of g y))) element
                  (in_map change_key (changes_of g y) m.0 m.1);
            }))
      ]

      takes : HasClaim g ids faults (k + 1) key x n → Contains (claims ++ claims_at k y) (a_claim key x n)
      takes h = elim (cases_eq n k) [
        | inl this ↦
            let here : Some y ≡ Some x = sym at ∙ subst (λ m. slice_get ids m ≡ Some x) this h.by.at in
            let same : y ≡ x = same_Some y x here in
            let m = map_in change_key (changes_of g y) key (subst (λ z. Contains (map change_key (changes_of g z)) key)
            (sym same) h.changes) in
            Contains-append_right claims (claims_at k y) (a_claim key x n)
            (subst (λ z. Contains (claims_at k y) (a_claim key z n)) same
            (subst (Contains (claims_at k y)) (ap₂ (λ e p. a_claim e y p) m.2 (sym this))
            (in_map (λ h. a_claim (change_key h) y k) (changes_of g y) m.0 m.1)))
        | inr other ↦ Contains-append_left claims (claims_at k y) (a_claim key x n)
            ((are key x n).1 (narrower k key x n other h))
      ]

  -- another order of the claims
  pub claims_moved : (end : ℕ) (claims found : List Claim) → IsPermutation claims found
      → AreClaims g ids faults end claims → AreClaims g ids faults end found
  claims_moved end claims found same are key x n = (
    λ h. (are key x n).0 (Contains-permutation found claims (a_claim key x n) (IsPermutation-sym claims found same) h),
    λ h. Contains-permutation claims found (a_claim key x n) same ((are key x n).1 h),
  )

-- ---- claims by their elements

-- an order in which what is neither below nor above is the same
between_same : {K : Type 0} (R : K → K → Ordering) → IsTotalOrder R → CmpEqualImpliesEq R → (a b : K)
    → is_lt (R b a) ≡ false → is_lt (R a b) ≡ false → b ≡ a
between_same R total exact a b not_below not_above = exact b a (by (R b a) (R a b) (total.antisymm b a) not_below
    not_above)
  where
    by : (r s : Ordering) → r ≡ ordering_reverse s → is_lt r ≡ false → is_lt s ≡ false → r ≡ Equal
    by Less s e low high = absurd (true≢false low)
    by Equal s e low high = refl
    by Greater Less e low high = absurd (true≢false high)
    by Greater Equal e low high = e
    by Greater Greater e low high = absurd (cc e)

exact_element : CmpEqualImpliesEq element_cmp
exact_element = exact_pairs (λ a b. nat_cmp (type_number a) (type_number b)) (slice_cmp nat_cmp)
    (λ a b e. type_from_number a b (exact_unsigned (type_number a) (type_number b) e)) exact_bytes

pub sorted_grouped : (claims : List Claim) → IsSortedByKey (λ (c : Claim). c.element) (λ a b.
    ordering_then (type_order.ghosts.cmp a.0 b.0) (slice_cmp nat_cmp a.1 b.1)) claims
    → AreGrouped claims
sorted_grouped claims by_key i j k a b d at_i at_j at_k first later same =
    let below_k = slice_get_within claims k d at_k in
    let is_i : get_or claims i a ≡ a = get_or_from_slice_get claims i a a at_i in
    let is_j : get_or claims j a ≡ b = get_or_from_slice_get claims j b a at_j in
    let is_k : get_or claims k a ≡ d = get_or_from_slice_get claims k d a at_k in
    let low = far i j a (omega (arith, first)) (omega (arith, later, below_k)) in
    let high = far j k a (omega (arith, later)) below_k in
    between_same element_cmp element_cmp_total exact_element a.element b.element
    (subst (λ (p : Claim). is_lt (element_cmp b.element p.element) ≡ false) is_i
    (subst (λ (q : Claim). is_lt (element_cmp q.element (get_or claims i a).element) ≡ false) is_j low))
    (subst (λ e. is_lt (element_cmp e b.element) ≡ false) (sym same)
    (subst (λ (q : Claim). is_lt (element_cmp d.element q.element) ≡ false) is_j
    (subst (λ (p : Claim). is_lt (element_cmp p.element (get_or claims j a).element) ≡ false) is_k high)))
  where
    sorted : IsSortedByKey (λ (c : Claim). c.element) element_cmp claims
    sorted k d low below =
        sym (ap is_lt (cmp_keys (get_or claims (k + 1) d).element (get_or claims k d).element)) ∙ by_key k d low below

    far : (i j : ℕ) (d : Claim) → i ≤ j → j < length claims
        → is_lt (element_cmp (get_or claims j d).element (get_or claims i d).element) ≡ false
    far = sorted_far (λ (p q : Claim). is_lt (element_cmp p.element q.element))
        (ranks_by element_cmp_total (λ (c : Claim). c.element)) claims sorted
