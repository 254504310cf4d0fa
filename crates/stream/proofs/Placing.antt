-- SYSMODs get their places, each after all that it names.
use Rattle.std.proofs.Common.{◌≡◌, ◌≢◌, ◌∙◌, ◌⊎◌, inl, inr, ◌+◌, ◌<◌, List, [], ◌∷◌, ◌++◌, length}
use Rattle.std.proofs.Common.{get_or, true, false, Bool, None, Some, is_some, not, Contains, map}
use Rattle.std.proofs.Common.{refl, sym, ap, subst, subst₂, cond, true≢false, arith, length-append}
use Rattle.std.specs.Prelude.{◌^◌, ◌&&◌, find}
use Rattle.std.proofs.lemmas.Bool.{and_parts}
use Rattle.std.proofs.lemmas.List.{length-map, length_push, get_or_append_left, get_or_push}
use Rattle.std.proofs.lemmas.Bool.{false_from_ne_true}
use Rattle.std.proofs.lemmas.List.Elements.{Contains-get_or, Contains-append_left, Contains-append_right}
use Rattle.std.proofs.lemmas.List.Elements.{Contains-append_cases, Contains-push, Contains-push_cases}
use Rattle.std.proofs.lemmas.List.Quantifiers.{all_pairs_push}
use Rattle.std.specs.Str.{bytes_eq}
use Rattle.indexmap.specs.IndexSet.{insert_key}
use Rattle.terms.proofs.Apart.{apart_le}
use Rattle.terms.proofs.Ids.{is_in_from_Contains, Contains_from_is_in}
use Rattle.terms.proofs.Leads.{reaches_named, reaches_through, all_reached}
use Rattle.terms.proofs.ListMembers.{none_in}
use Rattle.terms.proofs.Pairs.{AllPairs_join, AllPairs_front}
use Rattle.terms.proofs.Searches.{find_gives, find_some}
use Rattle.terms.specs.Types.{Id, Sysmod}
use Rattle.terms.specs.Lookups.{is_in}
use Rattle.terms.specs.Choice.{Choice}
use Rattle.terms.specs.Over.{IsOver, names}
use Rattle.terms.specs.Global.{IsGlobal}
use Rattle.terms.specs.Stream.{IsInStream}
use Rattle.sysmods.specs.declared.ver_choice.VerChoice.{VerChoice}
use Rattle.sysmods.specs.Choices.{choice}
use Rattle.stream.specs.Ordering.{is_open, IsOrder, IsPlacing, GoesOn}
use Rattle.stream.proofs.FirstVers.{received, names_in_stream, no_loop}

module _ (vers : VerChoice) where
  abbrev c : Choice
  c = choice vers

  open_from : (placed : List Id) (x : Id) → is_open c placed x ≡ true → IsInStream c x × ¬ Contains placed x
  open_from placed x is =
      let parts = and_parts (not (is_in placed x)) (is_some (c x)) is in
      (parts.1, λ there. true≢false (sym parts.0 ∙ ap not (is_in_from_Contains placed x there)))

  -- what is in the stream and not open has its place
  has_place : (placed : List Id) (x : Id) → is_open c placed x ≡ false → IsInStream c x → Contains placed x
  has_place placed x closed there = by (is_in placed x) refl
    where
      by : (b : Bool) → is_in placed x ≡ b → Contains placed x
      by true e = Contains_from_is_in placed x e
      by false e = absurd (true≢false (sym (ap (λ b. not b && is_some (c x)) e ∙ there) ∙ closed))

  -- ---- the order

  pub order_none : IsOrder c []
  order_none = record {
    stream = λ x is. absurd (none_in x is);
    apart = λ i j d less below. absurd (omega (arith, below));
    closed = λ x z is named there. absurd (none_in x is);
    order = λ i j d less below. absurd (omega (arith, below));
  }

  -- what has its place leads only to what has one, as far as it is in the stream
  leads_to_placed : (placed : List Id) → IsOrder c placed → (x : Id) → Contains placed x → (z : Id) → IsOver c x z
      → IsInStream c z → Contains placed z
  leads_to_placed placed order x is z over =
      all_reached (names c) (λ w. IsInStream c w → Contains placed w) x
      (λ w named there. order.closed x w is named there)
      (λ y w has named there. order.closed y w (has (names_in_stream vers y w named)) named there) z over

  order_push : (placed : List Id) (x : Id) → IsOrder c placed → IsInStream c x → ¬ Contains placed x
      → ((z : Id) → Contains (names c x) z → IsInStream c z → Contains placed z) → IsOrder c (placed ++ x ∷ [])
  order_push placed x order there new named = record {
    stream = λ y is. elim (Contains-push_cases placed x y is) [
      | inl old ↦ order.stream y old
      | inr same ↦ subst (IsInStream c) same there
    ];
    apart = all_pairs_push (λ y z. y ≢ z) placed x order.apart
        (λ k d below same. new (subst (Contains placed) same (Contains-get_or placed k d below)));
    closed = λ y z is has in_stream. Contains-append_left placed (x ∷ []) z
        (elim (Contains-push_cases placed x y is) [
          | inl old ↦ order.closed y z old has in_stream
          | inr same ↦ named z (subst (λ w. Contains (names_of w) z) (sym same) has) in_stream
        ]);
    order = all_pairs_push (λ y z. ¬ IsOver c y z) placed x order.order
        (λ k d below over. new (leads_to_placed placed order (get_or placed k d) (Contains-get_or placed k d below) x
        over there));
  }
    where
      names_of : Id → List Id
      names_of w = names c w

  -- ---- the path

  pub placing_one : (placed : List Id) (x : Id) → IsOrder c placed → IsInStream c x → ¬ Contains placed x
      → IsPlacing c placed (x ∷ [])
  placing_one placed x order there new = record {
    order = order;
    stream = λ y is. elim (Contains-push_cases [] x y is) [
      | inl nothing ↦ absurd (none_in y nothing)
      | inr same ↦ subst (IsInStream c) same there
    ];
    unplaced = λ y is. elim (Contains-push_cases [] x y is) [
      | inl nothing ↦ absurd (none_in y nothing)
      | inr same ↦ subst (λ w. ¬ Contains placed w) same new
    ];
    descends = λ i j d less below. absurd (omega (arith, less, below));
  }

  -- the path goes on with what its last id names
  pub path_goes_on : (placed front : List Id) (last next : Id) → IsPlacing c placed (front ++ last ∷ [])
      → find (is_open c placed) (names c last) ≡ Some next
      → GoesOn c placed (front ++ last ∷ []) placed ((front ++ last ∷ []) ++ next ∷ [])
  path_goes_on placed front last next placing found =
      let gives = find_gives (is_open c placed) (names c last) next found in
      let is = open_from placed next gives.0 in
      let path = front ++ last ∷ [] in
      record {
        placing = record {
          order = placing.order;
          stream = λ y h. elim (Contains-push_cases path next y h) [
            | inl old ↦ placing.stream y old
            | inr same ↦ subst (IsInStream c) same is.0
          ];
          unplaced = λ y h. elim (Contains-push_cases path next y h) [
            | inl old ↦ placing.unplaced y old
            | inr same ↦ subst (λ w. ¬ Contains placed w) same is.1
          ];
          descends = all_pairs_push (IsOver c) path next placing.descends
              (λ k d below. over_next (get_or path k d) gives.1
              (Contains-push_cases front last (get_or path k d) (Contains-get_or path k d below)));
        };
        one_more = omega (arith, length_push path next);
        kept = λ x h. h;
        all = λ x h. elim (Contains-append_cases placed path x h) [
          | inl old ↦ Contains-append_left placed (path ++ next ∷ []) x old
          | inr on ↦ Contains-append_right placed (path ++ next ∷ []) x (Contains-append_left path (next ∷ []) x on)
        ];
      }
    where
      descends : (x : Id) → Contains front x → IsOver c x last
      descends x h =
          let below : h.0 < length (front ++ last ∷ []) = omega (arith, h.1, length_push front last) in
          subst₂ (IsOver c) (get_or_append_left front (last ∷ []) x h.0 h.1 ∙ h.2)
          (get_or_push front last x (length front) refl)
          (placing.descends h.0 (length front) x h.1 (omega (arith, length_push front last)))

      over_next : (x : Id) → Contains (names c last) next → Contains front x ⊎ (last ≡ x) → IsOver c x next
      over_next x named (inl before) =
          reaches_through (names c) x last next (descends x before) (reaches_named (names c) last next named)
      over_next x named (inr same) =
          subst (λ w. IsOver c w next) same (reaches_named (names c) last next named)

  -- the last id of the path has its place, if all that it names has one
  pub last_placed : ((x : Id) → ¬ IsOver c x x) → (placed front : List Id) (last : Id)
      → IsPlacing c placed (front ++ last ∷ []) → find (is_open c placed) (names c last) ≡ None
      → GoesOn c placed (front ++ last ∷ []) (placed ++ last ∷ []) front
  last_placed none placed front last placing found = record {
    placing = record {
      order = order_push placed last placing.order (placing.stream last (Contains-push front last))
          (placing.unplaced last (Contains-push front last)) named;
      stream = λ x is. placing.stream x (Contains-append_left front (last ∷ []) x is);
      unplaced = λ x is there. elim (Contains-push_cases placed last x there) [
        | inl old ↦ placing.unplaced x (Contains-append_left front (last ∷ []) x is) old
        | inr same ↦ none x (subst (IsOver c x) same (descends x is))
      ];
      descends = AllPairs_front (IsOver c) front (last ∷ []) placing.descends;
    };
    one_more = omega (arith, length_push placed last, length_push front last);
    kept = λ x is. Contains-append_left placed (last ∷ []) x is;
    all = λ x is. elim (Contains-append_cases placed (front ++ last ∷ []) x is) [
      | inl old ↦ Contains-append_left (placed ++ last ∷ []) front x (Contains-append_left placed (last ∷ []) x old)
      | inr on ↦ elim (Contains-push_cases front last x on) [
        | inl before ↦ Contains-append_right (placed ++ last ∷ []) front x before
        | inr same ↦ Contains-append_left (placed ++ last ∷ []) front x
            (subst (Contains (placed ++ last ∷ [])) same (Contains-push placed last))
      ]
    ];
  }
    where
      descends : (x : Id) → Contains front x → IsOver c x last
      descends x h =
          subst₂ (IsOver c) (get_or_append_left front (last ∷ []) x h.0 h.1 ∙ h.2)
          (get_or_push front last x (length front) refl)
          (placing.descends h.0 (length front) x h.1 (omega (arith, length_push front last)))

      named : (z : Id) → Contains (names c last) z → IsInStream c z → Contains placed z
      named z has there = has_place placed z
          (false_from_ne_true (is_open c placed z) (λ is. true≢false
          (sym (find_some (is_open c placed) (names c last) z has is) ∙ ap is_some found))) there

  -- ---- how long it takes

  pub few : IsGlobal vers.global.now → (placed path : List Id) → IsPlacing c placed path
      → length placed + length path < 2 ^ 16
  few global placed path placing =
      let ids = map (λ (s : Sysmod). s.id) vers.global.now.sysmods in
      let le = apart_le (placed ++ path) ids
      (AllPairs_join (λ x y. x ≢ y) placed path placing.order.apart
      (λ i j d less below same. no_loop vers global.no_loop (get_or path j d)
      (subst (λ w. IsOver c w (get_or path j d)) same (placing.descends i j d less below)))
      (λ i d below k e inside same. placing.unplaced (get_or path k e) (Contains-get_or path k e inside)
      (subst (Contains placed) same (Contains-get_or placed i d below))))
      (λ x is. received vers x (elim (Contains-append_cases placed path x is) [
        | inl has ↦ placing.order.stream x has
        | inr on ↦ placing.stream x on
      ])) in
      omega (
        arith,
        le,
        length-append placed path,
        length-map vers.global.now.sysmods (λ (s : Sysmod). s.id),
        global.size,
      )

-- an id that is not there comes to the end
pub inserted_new : (placed : List Id) (x : Id) → ¬ Contains placed x → insert_key bytes_eq placed x ≡ placed ++ x ∷ []
inserted_new placed x out = by (is_in placed x) refl
  where
    by : (b : Bool) → is_in placed x ≡ b → insert_key bytes_eq placed x ≡ placed ++ x ∷ []
    by true e = absurd (out (Contains_from_is_in placed x e))
    by false e = ap (λ b. cond b placed (placed ++ x ∷ [])) e
