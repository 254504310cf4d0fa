-- Ids and their numbers: what one leads to, the other does.
use Rattle.std.proofs.Common.{◌≡◌, ℕ, ◌+◌, ◌<◌, inl, inr, ◌↔◌, false, List, [], ◌∷◌, ◌++◌, length}
use Rattle.std.proofs.Common.{take, map, get_or, Contains, Option, Some, None, is_some, refl, sym, subst, ap, ap₂, ◌∙◌}
use Rattle.std.proofs.Common.{true≢false, arith}
use Rattle.std.specs.Prelude.{All, Vec, position, slice_get}
use Rattle.std.specs.List.{IsDistinct}
use Rattle.std.specs.Map.{keys_of, values_of}
use Rattle.std.specs.Option.{option_map_or}
use Rattle.std.specs.Str.{bytes_eq}
use Rattle.std.specs.declared.alloc.Global.{Global as AnyGlobal}
use Rattle.std.proofs.lemmas.Bool.{cases_lt}
use Rattle.std.proofs.lemmas.List.{map-append, map_more}
use Rattle.std.proofs.lemmas.List.Elements.{All-contains, Contains-get_or}
use Rattle.std.proofs.lemmas.List.Quantifiers.{position-Some}
use Rattle.std.proofs.lemmas.List.Sums.{fails_before_first}
use Rattle.std.proofs.lemmas.Map.Keys.{apart_from_distinct}
use Rattle.std.proofs.lemmas.Option.{slice_get_within, slice_get-get_or, get_or_from_slice_get, same_Some}
use Rattle.terms.proofs.BesideLists.{beside_more, beside_there, push_old}
use Rattle.terms.proofs.ListMembers.{none_in, in_map, map_in}
use Rattle.terms.proofs.Places.{at_place}
use Rattle.terms.proofs.TextOrder.{same_from, same_itself}
use Rattle.terms.specs.Types.{Id}
use Rattle.terms.specs.Choice.{Choice}
use Rattle.terms.specs.Over.{IsOver, Leads, names}
use Rattle.sysmods_values.proofs.Places.{no_place}
use Rattle.sysmods.specs.Graphs.{Descends, IsFalling, IsGraph, IsNode, LeadsDown, list_at}
use Rattle.sysmods.proofs.Descents.{leads_lower}

-- ---- the place of an id

pub place_of : (ids : List Id) (x : Id) (n : ℕ) → position (bytes_eq x) ids ≡ Some n → slice_get ids n ≡ Some x
place_of ids x n e =
    let first = position-Some (bytes_eq x) ids n x e in
    slice_get-get_or ids n x first.0 ∙ ap (λ y. Some y) (sym (same_from x (get_or ids n x) first.1))

pub no_place_of : (ids : List Id) (x : Id) (n : ℕ) → position (bytes_eq x) ids ≡ None → slice_get ids n ≡ Some x → ⊥
no_place_of ids x n none at =
    let within = slice_get_within ids n x at in
    let fails = fails_before_first (bytes_eq x) ids n x (omega (arith, within, no_place (bytes_eq x) ids none)) in
    let passes = ap (bytes_eq x) (get_or_from_slice_get ids n x x at) ∙ same_itself x in
    true≢false (sym passes ∙ fails)

pub none_of : {X : Type 0} (o : Option X) → is_some o ≡ false → o ≡ None
none_of None e = refl
none_of (Some x) e = absurd (true≢false e)

module _ (ids : List Id) (distinct : IsDistinct bytes_eq ids) where
  apart : (i j : ℕ) (x : Id) → i < j → slice_get ids i ≡ Some x → slice_get ids j ≡ Some x → ⊥
  apart i j x before at also =
      let differ = apart_from_distinct bytes_eq ids i j x distinct before (slice_get_within ids j x also) in
      true≢false (sym (ap₂ bytes_eq (get_or_from_slice_get ids i x x at) (get_or_from_slice_get ids j x x also)
      ∙ same_itself x) ∙ differ)

  one_place : (i j : ℕ) (x : Id) → slice_get ids i ≡ Some x → slice_get ids j ≡ Some x → i ≡ j
  one_place i j x at also = elim (cases_lt i j) [
    | inl before ↦ absurd (apart i j x before at also)
    | inr not_before ↦ elim (cases_lt j i) [
      | inl after ↦ absurd (apart j i x after also at)
      | inr not_after ↦ omega (arith, not_before, not_after)
    ]
  ]

-- ---- the numbers of ids

-- the next id has this number
pub numbers_next : (ids named : List Id) (numbers : List ℕ) (i : ℕ) (x : Id) (n : ℕ) → i < length named
    → x ≡ get_or named i x → position (bytes_eq x) ids ≡ Some n
    → map (slice_get ids) numbers ≡ map (λ z. Some z) (take i named)
    → map (slice_get ids) (numbers ++ n ∷ []) ≡ map (λ z. Some z) (take (i + 1) named)
numbers_next ids named numbers i x n within at place so_far =
    let one : slice_get ids n ≡ Some (get_or named i x) = place_of ids x n place ∙ ap (λ y. Some y) at in
    map-append (slice_get ids) numbers (n ∷ [])
    ∙ ap₂ (λ (l : List (Option Id)) (o : Option Id). l ++ o ∷ []) so_far one
    ∙ sym (map_more (λ (z : Id). Some z) named i x within)

-- they stay where one more id gets a number
numbers_stay : (ids : List Id) (x : Id) (numbers : List ℕ) (named : List Id)
    → map (slice_get ids) numbers ≡ map (λ z. Some z) named
    → map (slice_get (ids ++ x ∷ [])) numbers ≡ map (λ z. Some z) named
numbers_stay ids x [] [] e = refl
numbers_stay ids x [] (z ∷ named) e = absurd (cc e)
numbers_stay ids x (n ∷ numbers) [] e = absurd (cc e)
numbers_stay ids x (n ∷ numbers) (z ∷ named) e =
    let first : slice_get ids n ≡ Some z = cc e in
    let rest : map (slice_get ids) numbers ≡ map (λ y. Some y) named = cc e in
    ap₂ (λ (o : Option Id) (l : List (Option Id)). o ∷ l) (push_old ids x n z first)
    (numbers_stay ids x numbers named rest)

numbers_within : (ids : List Id) (numbers : List ℕ) (named : List Id)
    → map (slice_get ids) numbers ≡ map (λ z. Some z) named → All (λ n. n < length ids) numbers
numbers_within ids numbers named e = λ i d within.
    let n = get_or numbers i d in
    let there = in_map (slice_get ids) numbers n (Contains-get_or numbers i d within) in
    let id = map_in (λ (z : Id). Some z) named (slice_get ids n) (subst (λ l. Contains l (slice_get ids n)) e there) in
    slice_get_within ids n id.0 (sym id.2)

-- ---- one more id

abbrev Node : Type 0
Node = Id × Vec ℕ AnyGlobal

module _ (c : Choice) where
  node_stays : (ids : List Id) (x : Id) (n : ℕ) (y : Id) (numbers : List ℕ) → IsNode c ids n y numbers
      → IsNode c (ids ++ x ∷ []) n y numbers
  node_stays ids x n y numbers node = record {
    named = numbers_stay ids x numbers (names c y) node.named;
    lower = node.lower;
  }

  more : (ids : List Id) (lists : List (Vec ℕ AnyGlobal)) (x : Id) (numbers : Vec ℕ AnyGlobal) → IsGraph c ids lists
      → map (slice_get ids) numbers.items ≡ map (λ z. Some z) (names c x)
      → IsGraph c (ids ++ x ∷ []) (lists ++ numbers ∷ [])
  more ids lists x numbers graph are =
      beside_more (λ n y v. IsNode c (ids ++ x ∷ []) n y v.items) ids lists x numbers
      (record {
        lengths = graph.lengths;
        each = λ n y v at also. node_stays ids x n y v.items (graph.each n y v at also);
      })
      (record {
        named = numbers_stay ids x numbers.items (names c x) are;
        lower = numbers_within ids numbers.items (names c x) are;
      })

  pub graph_none : IsGraph c [] []
  graph_none = record { lengths = refl; each = λ n x v at also. absurd (cc at) }

  pub graph_more : (nodes new : List Node) (x : Id) (numbers : Vec ℕ AnyGlobal)
      → IsGraph c (keys_of nodes) (values_of nodes)
      → map (slice_get (keys_of nodes)) numbers.items ≡ map (λ z. Some z) (names c x)
      → new ≡ nodes ++ (x, numbers) ∷ [] → IsGraph c (keys_of new) (values_of new)
  graph_more nodes new x numbers graph are made =
      let one : List Node = (x, numbers) ∷ [] in
      let ids : keys_of new ≡ keys_of nodes ++ x ∷ [] =
      ap (λ (l : List Node). keys_of l) made ∙ map-append (λ (e : Node). e.0) nodes one in
      let lists : values_of new ≡ values_of nodes ++ numbers ∷ [] =
      ap (λ (l : List Node). values_of l) made ∙ map-append (λ (e : Node). e.1) nodes one in
      let both = more (keys_of nodes) (values_of nodes) x numbers graph are in
      subst (λ l. IsGraph c l (values_of new)) (sym ids)
      (subst (IsGraph c (keys_of nodes ++ x ∷ [])) (sym lists) both)

-- ---- what leads where

abbrev items_of : Option (Vec ℕ AnyGlobal) → List ℕ
items_of o = option_map_or (λ v. v.items) o []

-- an id, and the number that it has
record HasNumber (ids : List Id) (z : Id) (Has : ℕ → Type 0) : Type 0 where
  number : ℕ
  at : slice_get ids number ≡ Some z
  has : Has number

record HasId (ids : List Id) (m : ℕ) (Has : Id → Type 0) : Type 0 where
  id : Id
  at : slice_get ids m ≡ Some id
  has : Has id

record NodeAt (c : Choice) (ids : List Id) (lists : List (Vec ℕ AnyGlobal)) (n : ℕ) (x : Id) : Type 0 where
  numbers : Vec ℕ AnyGlobal
  node : IsNode c ids n x numbers.items
  same : list_at lists n ≡ numbers.items

module _ (c : Choice) (ids : List Id) (lists : List (Vec ℕ AnyGlobal)) (graph : IsGraph c ids lists) where
  pub falling : IsFalling (list_at lists)
  falling n m named = by (slice_get lists n) refl
    where
      by : (o : Option (Vec ℕ AnyGlobal)) → slice_get lists n ≡ o → m < n
      by None e = absurd (none_in m (subst (λ o. Contains (items_of o) m) e named))
      by (Some v) e =
          let inside : Contains v.items m = subst (λ o. Contains (items_of o) m) e named in
          let x = at_place ids n (omega (arith, slice_get_within lists n v e, graph.lengths)) in
          All-contains (λ k. k < n) v.items m (graph.each n x.0 v x.1 e).lower inside

  pub has_list : (n : ℕ) (x : Id) → slice_get ids n ≡ Some x → n < length lists
  has_list n x at = omega (arith, slice_get_within ids n x at, graph.lengths)

  module _ (n : ℕ) (x : Id) (at : slice_get ids n ≡ Some x) where
    node_at : NodeAt c ids lists n x
    node_at =
        let v = beside_there ids lists graph.lengths n x at in
        record { numbers = v.0; node = graph.each n x v.0 at v.1; same = ap items_of v.1 }

    named_down : (z : Id) → Contains (names c x) z → HasNumber ids z (Contains (list_at lists n))
    named_down z named =
        let v = node_at in
        let there = in_map (λ (y : Id). Some y) (names c x) z named in
        let m = map_in (slice_get ids) v.numbers.items (Some z)
        (subst (λ l. Contains l (Some z)) (sym v.node.named) there) in
        record { number = m.0; at = m.2; has = subst (λ l. Contains l m.0) (sym v.same) m.1 }

    named_up : (m : ℕ) → Contains (list_at lists n) m → HasId ids m (Contains (names c x))
    named_up m inside =
        let v = node_at in
        let there = in_map (slice_get ids) v.numbers.items m (subst (λ l. Contains l m) v.same inside) in
        let z = map_in (λ (y : Id). Some y) (names c x) (slice_get ids m)
        (subst (λ l. Contains l (slice_get ids m)) v.node.named there) in
        record { id = z.0; at = sym z.2; has = z.1 }

  down : (n : ℕ) (x : Id) → slice_get ids n ≡ Some x → (between : List Id) (z : Id) → Leads (names c) x between z
      → HasNumber ids z (LeadsDown (list_at lists) n)
  down n x at [] z named =
      let d = named_down n x at z named in record { number = d.number; at = d.at; has = ([], d.has) }
  down n x at (y ∷ ys) z leads =
      let d = named_down n x at y leads.0 in
      let rest = down d.number y d.at ys z leads.1 in
      record { number = rest.number; at = rest.at; has = (d.number ∷ rest.has.0, (d.has, rest.has.1)) }

  up : (n : ℕ) (x : Id) → slice_get ids n ≡ Some x → (between : List ℕ) (m : ℕ)
      → Descends (list_at lists) n between m → HasId ids m (IsOver c x)
  up n x at [] m inside = let u = named_up n x at m inside in record { id = u.id; at = u.at; has = ([], u.has) }
  up n x at (k ∷ ks) m descends =
      let u = named_up n x at k descends.0 in
      let rest = up k u.id u.at ks m descends.1 in
      record { id = rest.id; at = rest.at; has = (u.id ∷ rest.has.0, (u.has, rest.has.1)) }

  -- an id without a number is not reached from one that has a number
  pub not_over_missing : (n : ℕ) (x z : Id) → slice_get ids n ≡ Some x → position (bytes_eq z) ids ≡ None
      → IsOver c x z → ⊥
  not_over_missing n x z at none over =
      let d = down n x at over.0 z over.1 in
      no_place_of ids z d.number none d.at

  module _ (distinct : IsDistinct bytes_eq ids) (n m : ℕ) (x z : Id) (at : slice_get ids n ≡ Some x)
      (also : slice_get ids m ≡ Some z) where
    pub over_down : LeadsDown (list_at lists) n m ↔ IsOver c x z
    over_down = (
      λ leads.
          let u = up n x at leads.0 m leads.1 in
          subst (IsOver c x) (same_Some u.id z (sym u.at ∙ also)) u.has,
      λ over.
          let d = down n x at over.0 z over.1 in
          subst (LeadsDown (list_at lists) n) (one_place ids distinct d.number m z d.at also) d.has,
    )

    pub over_lower : IsOver c x z → m < n
    over_lower over = leads_lower (list_at lists) falling n m (over_down.1 over)
