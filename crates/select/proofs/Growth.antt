-- The ids that are asked for, as a search finds them, and the candidates.
use Rattle.std.proofs.Common.{◌≡◌, ℕ, ◌<◌, ◌≤◌, ◌+◌, ◌⊎◌, inl, inr, Bool, true, false, ◌&&◌, ◌||◌, List, [], ◌∷◌}
use Rattle.std.proofs.Common.{◌++◌, length, length-append, take, drop, get_or, filter, Contains, IsTrue, All, arith}
use Rattle.std.proofs.Common.{if◌then◌else◌, refl, sym, subst, ap, ◌∙◌, ◌↔◌, true≢false}
use Rattle.std.specs.List.{flat_map}
use Rattle.std.proofs.lemmas.Bool.{and_parts, and_from, or_cases, or_left, or_right}
use Rattle.std.proofs.lemmas.List.{take_more, take_all, take-append-drop}
use Rattle.std.proofs.lemmas.List.Elements.{Contains-get_or, Contains-append_left, Contains-append_right}
use Rattle.std.proofs.lemmas.List.Elements.{Contains-append_cases, Contains-push_cases}
use Rattle.terms.specs.Types.{Id}
use Rattle.terms.specs.Lookups.{is_in, IsRising}
use Rattle.terms.specs.Over.{Leads, Reaches}
use Rattle.terms.specs.Candidates.{Extends, BringsIn, AreCandidates}
use Rattle.terms.proofs.Ids.{is_in_from_Contains, Contains_from_is_in}
use Rattle.terms.proofs.Leads.{reaches_named, reaches_last}
use Rattle.terms.proofs.ListMembers.{none_in, here, filter_in, in_filter, flat_in, in_flat}
use Rattle.terms.proofs.Applied.{AppliedAre}
use Rattle.sysmods.specs.Seen.{AddsAll}
use Rattle.sysmods.proofs.Growth.{adds_keeps, adds_cases, take_adds}
use Rattle.sysmods.specs.Namers.{namers_for}
use Rattle.select.specs.Scopes.{Selecting, is_installable_in, is_open_in, is_start_in, is_growing_start_in, IsClosed}
use Rattle.select.specs.Scopes.{needed_in, open_reasons_in, sups_in}
use Rattle.select.specs.Growing.{WillDo, IsAsked, is_open_among, taken_up, has_grown, asked_by, HasAsked, AreAsked}
use Rattle.select.specs.Growing.{own_asked, asked_by_namers, brought_by, superseders, next_asked, brings_others}
use Rattle.select.specs.Growing.{asked_first}
use Rattle.select.proofs.Opened.{open_parts}
use Rattle.select.proofs.Needs.{Asks, asks_from, IsWanted, asks_needed, asks_asked, AsksThrough, asks_with, asks_more}
use Rattle.select.proofs.Needs.{through_still, needed_asked, reason_asked}
use Rattle.select.proofs.Listed.{super_listed}
use Rattle.select.proofs.Brought.{own_has, own_asks, namers_have, namers_ask}
use Rattle.std.proofs.lemmas.Bool.{cases_Bool, or_parts}

-- a list of what one has, and behind it another
pub joined : (ids all start keys grown : List Id) → all ≡ start ++ keys → keys ≡ grown
    → ((x : Id) → Contains ids x ↔ Contains all x)
    → (x : Id) → Contains ids x ↔ Contains (start ++ grown) x
joined ids all start keys grown parts same both x = subst (λ xs. Contains ids x ↔ Contains xs x)
    (parts ∙ ap (λ ys. start ++ ys) same) (both x)

-- what is kept of a list that is another
pub kept_of : (p : Id → Bool) (kept xs ys : List Id) → kept ≡ filter p xs → xs ≡ ys → kept ≡ filter p ys
kept_of p kept xs ys is same = is ∙ ap (filter p) same

-- one that passes, or is in a list and passes another test, does so with a list that has more
with_more : (p q : Id → Bool) (xs ys : List Id) (z : Id) → (Contains xs z → Contains ys z)
    → IsTrue (p z || (is_in xs z && q z)) → IsTrue (p z || (is_in ys z && q z))
with_more p q xs ys z more h = elim (or_cases (p z) (is_in xs z && q z) h) [
  | inl first ↦ or_left (p z) (is_in ys z && q z) first
  | inr both ↦ (
      let parts = and_parts (is_in xs z) (q z) both in
      or_right (p z) (is_in ys z && q z) (and_from (is_in ys z) (q z)
      (is_in_from_Contains ys z (more (Contains_from_is_in xs z parts.0))) parts.1))
]

-- with a list that has one more, it does so as before, or is that one
with_one : (p q : Id → Bool) (xs : List Id) (d z : Id) → IsTrue (p z || (is_in (xs ++ d ∷ []) z && q z))
    → IsTrue (p z || (is_in xs z && q z)) ⊎ ((d ≡ z) × IsTrue (q d))
with_one p q xs d z h = elim (or_cases (p z) (is_in (xs ++ d ∷ []) z && q z) h) [
  | inl first ↦ inl (or_left (p z) (is_in xs z && q z) first)
  | inr both ↦ let parts = and_parts (is_in (xs ++ d ∷ []) z) (q z) both in by parts.1
      (Contains-push_cases xs d z (Contains_from_is_in (xs ++ d ∷ []) z parts.0))
]
  where
    by : IsTrue (q z) → Contains xs z ⊎ (d ≡ z) → IsTrue (p z || (is_in xs z && q z)) ⊎ ((d ≡ z) × IsTrue (q d))
    by passes (inl was) = inl (or_right (p z) (is_in xs z && q z) (and_from (is_in xs z) (q z)
        (is_in_from_Contains xs z was) passes))
    by passes (inr same) = inr (same, subst (λ w. IsTrue (q w)) (sym same) passes)

-- the search has seen these ids and gone through the first n of them
pub record IsGrowth (scope : Selecting) (seen : List Id) (n : ℕ) : Type 0 where
  pub within : n ≤ length seen
  pub has : HasAsked scope (take n seen) seen

module _ (scope : Selecting) where
  abbrev sups : Id → List Id
  sups = sups_in scope

  abbrev namers : Id → List Id
  namers z = namers_for scope.global.sysmods scope.zone.srel z

  -- what others ask for by an open id
  abbrev by_others : List Id → Id → List Id
  by_others seen x = if is_start_in scope x then [] else asked_by_namers scope seen x

  -- what an id brings that is asked for
  abbrev brought : List Id → Id → List Id
  brought seen x = if is_open_in scope x then brought_by scope seen x else []

  start_open : (x : Id) → IsTrue (is_start_in scope x) → IsTrue (is_open_in scope x)
  start_open x start = (and_parts (is_open_in scope x) _ start).0

  growing_starts : (x : Id) → IsTrue (is_growing_start_in scope x)
      → IsTrue (is_start_in scope x) × IsTrue (brings_others scope.selection x)
  growing_starts x grows = and_parts (is_start_in scope x) (brings_others scope.selection x) grows

  -- it grows in every closed pair
  abbrev AlwaysGrows : Id → Type 0
  AlwaysGrows x = (cands growing : Id → Bool) → IsClosed scope cands growing → IsTrue (growing x)

  -- what one that grows wants in every closed pair is asked for
  wanted_asked : (x z : Id) → AlwaysGrows x
      → ((cands growing : Id → Bool) → IsClosed scope cands growing → IsWanted scope cands x z) → IsAsked scope z
  wanted_asked x z grows wants cands growing closed y opened will =
      closed.grown x y (grows cands growing closed) (opened, by (wants cands growing closed) will)
    where
      by : IsWanted scope cands x z → WillDo scope y z → Contains (needed_in scope cands x) y
          ⊎ (IsTrue scope.selection.groupextend × Extends scope.global scope.zone cands x y)
      by (inl needed) (inl same) = inl (subst (Contains (needed_in scope cands x)) (sym same) needed)
      by (inl needed) (inr (extend, over)) = inr (
        extend,
        (z, Contains-append_left (needed_in scope cands x) (open_reasons_in scope x) z needed, inr over),
      )
      by (inr (extend, reason)) (inl same) = inr (
        extend,
        (z, Contains-append_right (needed_in scope cands x) (open_reasons_in scope x) z reason, inl same),
      )
      by (inr (extend, reason)) (inr (_, over)) = inr (
        extend,
        (z, Contains-append_right (needed_in scope cands x) (open_reasons_in scope x) z reason, inr over),
      )

  -- one that supersedes what is asked for is asked for
  over_asked : (x z : Id) → IsAsked scope z → Contains (superseders scope z) x → IsAsked scope x
  over_asked x z asks h = by scope.selection.groupextend refl h
    where
      by : (b : Bool) → scope.selection.groupextend ≡ b
          → Contains (if b then filter (λ y. is_in (sups y) z) (namers z) else []) x → IsAsked scope x
      by false e none = absurd (none_in x none)
      by true e there = λ cands growing closed y opened will. asks cands growing closed y opened (inr (e, over y will))
        where
          names : Contains (sups x) z
          names = Contains_from_is_in (sups x) z (filter_in (λ y. is_in (sups y) z) (namers z) x there).1

          over : (y : Id) → WillDo scope y x → Reaches sups y z
          over y (inl same) = subst (λ w. Reaches sups w z) (sym same) (reaches_named sups x z names)
          over y (inr (_, higher)) = reaches_last sups y x z higher names

  -- what supersedes an id directly is among those that are asked for once it is
  superseder_listed : (y z : Id) → IsTrue scope.selection.groupextend → Contains (sups y) z
      → Contains (superseders scope z) y
  superseder_listed y z extend names =
      subst (λ b. Contains (if b then filter (λ y. is_in (sups y) z) (namers z) else []) y) (sym extend)
      (in_filter (λ y. is_in (sups y) z) (namers z) y (super_listed scope.global scope.zone.srel y z names)
      (is_in_from_Contains (sups y) z names))

  -- Where ids are asked for, what one of them brings is.
  module _ (seen : List Id) (sound : (z : Id) → Contains seen z → IsAsked scope z) where
    asked_grows : (x : Id) → IsTrue (is_open_among scope seen x) → AlwaysGrows x
    asked_grows x h cands growing closed =
        let parts = and_parts (is_in seen x) (is_open_in scope x) h in
        sound x (Contains_from_is_in seen x parts.0) cands growing closed x parts.1 (inl refl)

    grown_grows : (x : Id) → IsTrue (has_grown scope seen x) → AlwaysGrows x
    grown_grows x h cands growing closed =
        elim (or_cases (is_growing_start_in scope x) (is_open_among scope seen x) h) [
          | inl first ↦ closed.growing_start x first
          | inr asked ↦ asked_grows x asked cands growing closed
        ]

    taken_candidate : (x : Id) → IsTrue (taken_up scope seen x) → (cands growing : Id → Bool)
        → IsClosed scope cands growing → IsTrue (cands x)
    taken_candidate x h cands growing closed =
        elim (or_cases (is_start_in scope x) (is_open_among scope seen x) h) [
          | inl start ↦ closed.start x start
          | inr asked ↦ closed.part x (asked_grows x asked cands growing closed)
        ]

    asks_for : (y z : Id) → AlwaysGrows y → Asks scope (taken_up scope seen) y z → IsAsked scope z
    asks_for y z grows asks = wanted_asked y z grows (λ cands growing closed.
        asks_needed scope cands y z (asks_more scope (taken_up scope seen) cands y z
        (λ f taken. taken_candidate f taken cands growing closed) asks))

    own_is_asked : AppliedAre scope.zone → (x z : Id) → AlwaysGrows x → Contains (own_asked scope seen x) z
        → IsAsked scope z
    own_is_asked applied x z grows h = asks_for x z grows (own_asks scope seen applied x z h)

    namers_are_asked : (f z : Id) → IsTrue (taken_up scope seen f) → Contains (asked_by_namers scope seen f) z
        → IsAsked scope z
    namers_are_asked f z is h =
        let from = namers_ask scope seen f z is h in
        asks_for from.0 z (grown_grows from.0 from.1) from.2

    -- what is brought by one that is asked for and open
    brought_asked : AppliedAre scope.zone → (x z : Id) → Contains seen x → IsTrue (is_open_in scope x)
        → Contains (brought_by scope seen x) z → IsAsked scope z
    brought_asked applied x z there opened h = by (is_growing_start_in scope x) h
      where
        both : IsTrue (is_open_among scope seen x)
        both = and_from (is_in seen x) (is_open_in scope x) (is_in_from_Contains seen x there) opened

        others_asked : (b : Bool) → Contains (if b then [] else asked_by_namers scope seen x) z → IsAsked scope z
        others_asked true none = absurd (none_in z none)
        others_asked false others = namers_are_asked x z
            (or_right (is_start_in scope x) (is_open_among scope seen x) both) others

        by : (b : Bool) → Contains (if b then [] else own_asked scope seen x ++ by_others seen x) z → IsAsked scope z
        by true none = absurd (none_in z none)
        by false h = elim (Contains-append_cases (own_asked scope seen x) (by_others seen x) z h) [
          | inl own ↦ own_is_asked applied x z (asked_grows x both) own
          | inr others ↦ others_asked (is_start_in scope x) others
        ]

    asked_next : AppliedAre scope.zone → (z w : Id) → Contains seen z → Contains (next_asked scope seen z) w
        → IsAsked scope w
    asked_next applied z w there h =
        elim (Contains-append_cases (brought seen z) (superseders scope z) w h)
        [ inl own ↦ by (is_open_in scope z) refl own | inr over ↦ over_asked w z (sound z there) over ]
      where
        by : (b : Bool) → is_open_in scope z ≡ b → Contains (if b then brought_by scope seen z else []) w
            → IsAsked scope w
        by false e none = absurd (none_in w none)
        by true e h = brought_asked applied z w there e h

  none_asked : (z : Id) → Contains {X = Id} [] z → IsAsked scope z
  none_asked z none = absurd (none_in z none)

  -- what one of the start asks for is asked for
  first_asked : AppliedAre scope.zone → (x z : Id) → IsTrue (is_start_in scope x) → Contains (asked_first scope x) z
      → IsAsked scope z
  first_asked applied x z start h = by (brings_others scope.selection x) refl h
    where
      by : (b : Bool) → brings_others scope.selection x ≡ b → Contains (if b then own_asked scope [] x else []) z
          → IsAsked scope z
      by false e none = absurd (none_in z none)
      by true e there = own_is_asked [] none_asked applied x z (λ cands growing closed. closed.growing_start x
          (and_from (is_start_in scope x) (brings_others scope.selection x) start e)) there

  own_first : (x z : Id) → IsTrue (is_growing_start_in scope x) → Contains (own_asked scope [] x) z
      → Contains (asked_first scope x) z
  own_first x z grows own = subst (λ b. Contains (if b then own_asked scope [] x else []) z)
      (sym (growing_starts x grows).1) own

  pub growth_start : AppliedAre scope.zone → (start seen : List Id)
      → ((x : Id) → Contains start x ↔ IsTrue (is_start_in scope x))
      → AddsAll [] (flat_map (asked_first scope) start) seen → IsGrowth scope seen 0
  growth_start applied start seen starts adds = record {
    within = omega arith;
    has = record {
      sound = λ z h. elim (adds_cases [] (flat_map (asked_first scope) start) seen adds z h) [
        | inl none ↦ none_asked z none
        | inr there ↦ (
            let from = flat_in (asked_first scope) start z there in
            first_asked applied from.0 z ((starts from.0).0 from.1) from.2)
      ];
      asked = λ x z grows asks. adds.has z (in_flat (asked_first scope) start x z
          ((starts x).1 (growing_starts x (first x grows)).0)
          (own_first x z (first x grows)
          (own_has scope [] applied x z (asks_from scope (taken_up scope []) x z asks))));
      over = λ y z extend none names. absurd (none_in z none);
    };
  }
    where
      first : (x : Id) → IsTrue (has_grown scope [] x) → IsTrue (is_growing_start_in scope x)
      first x h = elim (or_cases (is_growing_start_in scope x) false h)
          [ inl grows ↦ grows | inr none ↦ absurd (true≢false (sym none)) ]

  -- It goes through one more.
  module _ (applied : AppliedAre scope.zone) (old new : List Id) (n : ℕ) (d : Id) (below : n < length old)
      (at : d ≡ get_or old n d) (adds : AddsAll old (next_asked scope old d) new)
      (has : HasAsked scope (take n old) old) where
    abbrev done : List Id
    done = take n old ++ d ∷ []

    done_is : take (n + 1) old ≡ done
    done_is = take_more old n d below ∙ ap (λ w. take n old ++ w ∷ []) (sym at)

    done_seen : (z : Id) → Contains done z → Contains old z
    done_seen z h = subst (λ xs. Contains xs z) (take-append-drop (n + 1) old)
        (Contains-append_left (take (n + 1) old) (drop (n + 1) old) z (subst (λ xs. Contains xs z) (sym done_is) h))

    was_seen : (z : Id) → Contains (take n old) z → Contains old z
    was_seen z h = done_seen z (Contains-append_left (take n old) (d ∷ []) z h)

    d_seen : Contains old d
    d_seen = done_seen d (Contains-append_right (take n old) (d ∷ []) d (here d []))

    stays : (z : Id) → Contains old z → Contains new z
    stays = adds_keeps old (next_asked scope old d) new adds

    brought_in : IsTrue (is_open_in scope d) → is_growing_start_in scope d ≡ false → (z : Id)
        → Contains (own_asked scope old d ++ by_others old d) z → Contains new z
    brought_in opened other z h = adds.has z
        (Contains-append_left (brought old d) (superseders scope d) z
        (subst (λ b. Contains (if b then brought_by scope old d else []) z) (sym opened)
        (subst (λ b. Contains (if b then [] else own_asked scope old d ++ by_others old d) z) (sym other) h)))

    own_in : IsTrue (is_open_in scope d) → is_growing_start_in scope d ≡ false → (z : Id)
        → Contains (own_asked scope old d) z → Contains new z
    own_in opened other z h = brought_in opened other z
        (Contains-append_left (own_asked scope old d) (by_others old d) z h)

    others_in : IsTrue (is_open_in scope d) → is_start_in scope d ≡ false → (z : Id)
        → Contains (asked_by_namers scope old d) z → Contains new z
    others_in opened other z h = brought_in opened (ap (λ b. b && brings_others scope.selection d) other) z
        (Contains-append_right (own_asked scope old d) (by_others old d) z
        (subst (λ b. Contains (if b then [] else asked_by_namers scope old d) z) (sym other) h))

    -- a candidate by what is done is one by what is seen
    by_now : (f : Id) → IsTrue (taken_up scope done f) → IsTrue (taken_up scope old f)
    by_now f = with_more (is_start_in scope) (is_open_in scope) done old f (done_seen f)

    -- what one that had grown before asks for by now
    before : (x z : Id) → IsTrue (has_grown scope (take n old) x)
        → Contains (asked_by scope (taken_up scope done) x) z → Contains new z
    before x z grows asks =
        elim (asks_with scope (taken_up scope done) (taken_up scope (take n old)) x z
        (asks_from scope (taken_up scope done) x z asks)) [
          | inl same ↦ stays z (has.asked x z grows (asks_asked scope (taken_up scope (take n old)) x z same))
          | inr (f, taken, other, asks_so) ↦ through f taken other asks_so
        ]
      where
        through : (f : Id) → IsTrue (taken_up scope done f) → taken_up scope (take n old) f ≡ false
            → AsksThrough scope (taken_up scope done) f x z → Contains new z
        through f taken other asks_so =
            elim (with_one (is_start_in scope) (is_open_in scope) (take n old) d f taken) [
              | inl was ↦ absurd (true≢false (sym was ∙ other))
              | inr (same, opened) ↦ others_in opened (or_parts (is_start_in scope d)
                  (is_open_among scope (take n old) d) (ap (taken_up scope (take n old)) same ∙ other)).0 z
                  (namers_have scope old d x z
                  (with_more (is_growing_start_in scope) (is_open_in scope) (take n old) old x (was_seen x) grows)
                  (through_still scope (taken_up scope done) (taken_up scope old) d x z by_now
                  (subst (λ w. AsksThrough scope (taken_up scope done) w x z) (sym same) asks_so)))
            ]

    -- what it asks for itself
    itself : IsTrue (is_open_in scope d) → (z : Id) → Contains (asked_by scope (taken_up scope done) d) z
        → Contains new z
    itself opened z asks = elim (cases_Bool (is_growing_start_in scope d)) [
      | inl first ↦ before d z (or_left (is_growing_start_in scope d) (is_open_among scope (take n old) d) first) asks
      | inr other ↦ own_in opened other z (own_has scope old applied d z
          (asks_more scope (taken_up scope done) (taken_up scope old) d z by_now
          (asks_from scope (taken_up scope done) d z asks)))
    ]

    has_more : HasAsked scope done new
    has_more = record {
      sound = λ z h. elim (adds_cases old (next_asked scope old d) new adds z h) [
        | inl was ↦ has.sound z was
        | inr named ↦ asked_next old has.sound applied d z d_seen named
      ];
      asked = λ x z grows asks.
          elim (with_one (is_growing_start_in scope) (is_open_in scope) (take n old) d x grows) [
            | inl was ↦ before x z was asks
            | inr (same, opened) ↦ itself opened z
                (subst (λ w. Contains (asked_by scope (taken_up scope done) w) z) (sym same) asks)
          ];
      over = λ y z extend there names. elim (Contains-push_cases (take n old) d z there) [
        | inl was ↦ stays y (has.over y z extend was names)
        | inr same ↦ adds.has y (Contains-append_right (brought old d) (superseders scope d) y
            (superseder_listed y d extend (subst (Contains (sups y)) (sym same) names)))
      ];
    }

    more_within : n + 1 ≤ length new
    more_within = omega (arith, ap length adds.kept ∙ length-append old adds.added)

    more_done : take (n + 1) new ≡ done
    more_done = take_adds old (next_asked scope old d) new (n + 1) adds (omega arith) ∙ done_is

  pub growth_next : AppliedAre scope.zone → (old new : List Id) (n : ℕ) (x : Id) → n < length old → x ≡ get_or old n x
      → AddsAll old (next_asked scope old x) new → IsGrowth scope old n → IsGrowth scope new (n + 1)
  growth_next applied old new n x below at adds s = record {
    within = more_within applied old new n x below at adds s.has;
    has = subst (λ xs. HasAsked scope xs new) (sym (more_done applied old new n x below at adds s.has))
        (has_more applied old new n x below at adds s.has);
  }

  -- having gone through all, it has all
  pub growth_end : (seen : List Id) (n : ℕ) → length seen ≤ n → IsGrowth scope seen n → AreAsked scope seen
  growth_end seen n all s = subst (λ xs. HasAsked scope xs seen) (take_all n seen all) s.has

  -- The candidates are the start and what is asked for and open.
  module _ (start seen grown ids : List Id) (starts : (x : Id) → Contains start x ↔ IsTrue (is_start_in scope x))
      (asked : AreAsked scope seen) (opened : grown ≡ filter (is_open_in scope) seen)
      (both : (x : Id) → Contains ids x ↔ Contains (start ++ grown) x) where
    in_grown : (x : Id) → IsTrue (is_open_in scope x) → Contains seen x → Contains grown x
    in_grown x open_x there =
        subst (λ xs. Contains xs x) (sym opened) (in_filter (is_open_in scope) seen x there open_x)

    grown_in : (x : Id) → Contains grown x → Contains seen x × IsTrue (is_open_in scope x)
    grown_in x there = filter_in (is_open_in scope) seen x (subst (λ xs. Contains xs x) opened there)

    from_start : (x : Id) → IsTrue (is_start_in scope x) → Contains ids x
    from_start x h = (both x).1 (Contains-append_left start grown x ((starts x).1 h))

    cases : (x : Id) → Contains ids x → IsTrue (is_start_in scope x) ⊎ Contains grown x
    cases x h = elim (Contains-append_cases start grown x ((both x).0 h))
        [ inl s ↦ inl ((starts x).0 s) | inr r ↦ inr r ]

    abbrev grows : Id → Bool
    grows x = has_grown scope seen x

    grower : (x : Id) → IsTrue (grows x) → IsTrue (is_growing_start_in scope x) ⊎ Contains grown x
    grower x h = elim (or_cases (is_growing_start_in scope x) (is_open_among scope seen x) h) [
      | inl l ↦ inl l
      | inr r ↦ (
          let parts = and_parts (is_in seen x) (is_open_in scope x) r in
          inr (in_grown x parts.1 (Contains_from_is_in seen x parts.0)))
    ]

    seen_open : (x : Id) → Contains seen x → IsTrue (is_open_in scope x) → IsTrue (is_open_among scope seen x)
    seen_open x there open_x = and_from (is_in seen x) (is_open_in scope x) (is_in_from_Contains seen x there) open_x

    grows_from : (x : Id) → Contains seen x → IsTrue (is_open_in scope x) → IsTrue (grows x)
    grows_from x there open_x = or_right (is_growing_start_in scope x) (is_open_among scope seen x)
        (seen_open x there open_x)

    -- each candidate is one as far as the ids are asked for
    candidate_taken : (x : Id) → IsTrue (is_in ids x) → IsTrue (taken_up scope seen x)
    candidate_taken x h = elim (cases x (Contains_from_is_in ids x h)) [
      | inl s ↦ or_left (is_start_in scope x) (is_open_among scope seen x) s
      | inr r ↦ or_right (is_start_in scope x) (is_open_among scope seen x)
          (seen_open x (grown_in x r).0 (grown_in x r).1)
    ]

    grower_open : (x : Id) → IsTrue (grows x) → IsTrue (is_open_in scope x)
    grower_open x h = elim (grower x h) [ inl l ↦ start_open x (growing_starts x l).0 | inr r ↦ (grown_in x r).1 ]

    asked_seen : (x z : Id) → IsTrue (grows x) → Contains (asked_by scope (is_in ids) x) z → Contains seen z
    asked_seen x z h asks = asked.asked x z h (asks_asked scope (taken_up scope seen) x z
        (asks_more scope (is_in ids) (taken_up scope seen) x z candidate_taken (asks_from scope (is_in ids) x z asks)))

    over_seen : IsTrue scope.selection.groupextend → (y z : Id) (between : List Id) → Leads sups y between z
        → Contains seen z → Contains seen y
    over_seen extend y z [] names there = asked.over y z extend there names
    over_seen extend y z (w ∷ ws) leads there =
        asked.over y w extend (over_seen extend w z ws leads.1 there) leads.0

    brought_seen : (x y : Id) → IsTrue (grows x) → BringsIn scope.global scope.zone scope.selection (is_in ids) x y
        → Contains seen y
    brought_seen x y h (open_y, inl needed) = asked_seen x y h (needed_asked scope (is_in ids) x y needed)
    brought_seen x y h (open_y, inr (extend, (z, named, way))) = by way
      where
        there : Contains seen z
        there = asked_seen x z h
            (elim (Contains-append_cases (needed_in scope (is_in ids) x) (open_reasons_in scope x) z named) [
              | inl needed ↦ needed_asked scope (is_in ids) x z needed
              | inr reason ↦ reason_asked scope (is_in ids) x z extend reason
            ])

        by : (y ≡ z) ⊎ Reaches sups y z → Contains seen y
        by (inl same) = subst (Contains seen) (sym same) there
        by (inr (between, leads)) = over_seen extend y z between leads there

    pub least_pair : IsClosed scope (is_in ids) grows
    least_pair = record {
      start = λ x h. is_in_from_Contains ids x (from_start x h);
      growing_start = λ x h. or_left (is_growing_start_in scope x) (is_open_among scope seen x) h;
      part = λ x h. is_in_from_Contains ids x (elim (grower x h) [
        | inl l ↦ from_start x (growing_starts x l).0
        | inr r ↦ (both x).1 (Contains-append_right start grown x r)
      ]);
      only_open = grower_open;
      grown = λ x y h brought. grows_from y (brought_seen x y h brought) brought.0;
    }

    pub candidates_from : IsRising ids → AreCandidates scope.global scope.zone scope.selection ids
    candidates_from rising = record {
      rising = rising;
      members = λ x. (
        λ h. taken_candidate seen asked.sound x (candidate_taken x (is_in_from_Contains ids x h)),
        λ candidate. Contains_from_is_in ids x (candidate (is_in ids) grows least_pair),
      );
    }

    all_open : (x : Id) → Contains ids x → IsTrue (is_open_in scope x)
    all_open x h = elim (cases x h) [ inl s ↦ start_open x s | inr r ↦ (grown_in x r).1 ]

    pub candidates_installable : All (λ x. IsTrue (is_installable_in scope x)) ids
    candidates_installable = λ k d below. (open_parts scope (get_or ids k d)
        (all_open (get_or ids k d) (Contains-get_or ids k d below))).installable
