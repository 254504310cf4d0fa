-- What the numbered rules reach is what the steps reach.
use Rattle.std.proofs.Common.{◌≡◌, ◌∙◌, ◌<◌, inl, inr, ℕ, zero, suc, Bool, true, false, List, [], ◌∷◌}
use Rattle.std.proofs.Common.{length, map, get_or}
use Rattle.std.proofs.Common.{Some, refl, sym, ap, ap₂, subst, cond, arith, Contains, IsTrue, true≢false, slice_get}
use Rattle.std.specs.Prelude.{◌↔◌, All}
use Rattle.std.specs.Option.{option_map_or}
use Rattle.std.specs.Ordering.{is_lt, is_eq, ordering_then}
use Rattle.std.specs.declared.cmp.Ordering.TheVariants.{Equal}
use Rattle.std.proofs.lemmas.Bool.{cases_lt}
use Rattle.std.proofs.lemmas.Cmp.{tied_itself, nat_cmp_total, nat_list_cmp_total}
use Rattle.std.proofs.lemmas.List.{get_or_past}
use Rattle.std.proofs.lemmas.List.Elements.{All-contains}
use Rattle.std.proofs.lemmas.Option.{slice_get_within, get_or_from_slice_get, same_Some}
use Rattle.terms.proofs.ListMembers.{here_or, none_in}
use Rattle.terms.proofs.Orderings.{Equal_from_is_eq}
use Rattle.terms.proofs.Places.{found_at}
use Rattle.terms.specs.Types.{Id, type_number}
use Rattle.terms.specs.Rising.{Rises}
use Rattle.terms.proofs.ElementOrder.{cmp_types}
use Rattle.terms.proofs.Each.{All_from_each}
use Rattle.terms.proofs.Ids.{Contains_from_is_in}
use Rattle.solve.specs.System.{holds}
use Rattle.solve.specs.Least.{Rule, Growth, IsClosed, IsLeast}
use Rattle.undo.specs.declared.nodes.Node.{Node}
use Rattle.undo.specs.declared.nodes.Node.TheVariants.{Sysmod, Element}
use Rattle.undo.specs.contracts.nodes.NodeOrd.TheImpl as node_order
use Rattle.undo.specs.NodeOrder.{exact_nodes}
use Rattle.undo.specs.Steps.{Step, AreClosed, IsReached, is_start}
use Rattle.undo.specs.ByNumbers.{IsGrowth, AreFlagged}

-- a flag of a list of them
flag_at : {X : Type 0} (p : X → Bool) (xs : List X) (i : ℕ) → holds (map p xs) i ≡ true
    → (x : X) × (slice_get xs i ≡ Some x) × (p x ≡ true)
flag_at p [] i on = absurd (true≢false (sym on))
flag_at p (x ∷ xs) zero on = (x, refl, on)
flag_at p (x ∷ xs) (suc i) on = flag_at p xs i on

at_flag : {X : Type 0} (p : X → Bool) (xs : List X) (i : ℕ) (x : X) → slice_get xs i ≡ Some x
    → holds (map p xs) i ≡ p x
at_flag p [] i x e = absurd cc
at_flag p (y ∷ xs) zero x e = ap p (same_Some y x e)
at_flag p (y ∷ xs) (suc i) x e = at_flag p xs i x e

-- the order ties a node with itself
tied_itself_holds : (n : Node) → node_order.ghosts.cmp n n ≡ Equal
tied_itself_holds (Sysmod x) = tied_itself nat_list_cmp_total x
tied_itself_holds (Element type name) =
    ap₂ ordering_then (cmp_types type type ∙ tied_itself nat_cmp_total (type_number type))
    (tied_itself nat_list_cmp_total name)

abbrev same : Node → Node → Bool
same m n = is_eq (node_order.ghosts.cmp m n)

-- the place of a node, and the length where it is not there
abbrev place_in : List Node → Node → ℕ
place_in [] n = 0
place_in (m ∷ ms) n = cond (same m n) 0 (suc (place_in ms n))

at_place : (ms : List Node) (n : Node) → place_in ms n < length ms → slice_get ms (place_in ms n) ≡ Some n
at_place [] n below = absurd (omega (arith, below))
at_place (m ∷ ms) n below = by (at_place ms n) (same m n) refl below
  where
    by : (place_in ms n < length ms → slice_get ms (place_in ms n) ≡ Some n) → (b : Bool) → same m n ≡ b
        → cond b 0 (suc (place_in ms n)) < suc (length ms)
        → slice_get (m ∷ ms) (cond b 0 (suc (place_in ms n))) ≡ Some n
    by rest true e low = ap Some (exact_nodes m n (Equal_from_is_eq (node_order.ghosts.cmp m n) e))
    by rest false e low = rest (omega (arith, low))

is_there : (ms : List Node) (n : Node) → Contains ms n → place_in ms n < length ms
is_there [] n h = absurd (none_in n h)
is_there (m ∷ ms) n h = by (is_there ms n) (same m n) refl
  where
    by : (Contains ms n → place_in ms n < length ms) → (b : Bool) → same m n ≡ b
        → cond b 0 (suc (place_in ms n)) < suc (length ms)
    by rest true e = omega arith
    by rest false e = elim (here_or m ms n h) [
      | inl is ↦ absurd (true≢false (sym (subst (λ v. same m v ≡ true) is
          (ap is_eq (tied_itself_holds m))) ∙ e))
      | inr later ↦ (let low = rest later in omega (arith, low))
    ]

module _ (table : List Node) (rises : Rises node_order.ghosts.cmp (λ n. n) table) where
  -- two places of one node are one
  below_other : (i j : ℕ) (n : Node) → slice_get table i ≡ Some n → slice_get table j ≡ Some n → i < j → ⊥
  below_other i j n at there low =
      let less = rises i j n low (slice_get_within table j n there) in
      let first = get_or_from_slice_get table i n n at in
      let second = get_or_from_slice_get table j n n there in
      true≢false (sym (subst (λ v. IsTrue (is_lt (node_order.ghosts.cmp v n))) first
      (subst (λ v. IsTrue (is_lt (node_order.ghosts.cmp (get_or table i n) v))) second less))
      ∙ ap is_lt (tied_itself_holds n))

  one_place : (i j : ℕ) (n : Node) → slice_get table i ≡ Some n → slice_get table j ≡ Some n → i ≡ j
  one_place i j n at there = elim (cases_lt i j) [
    | inl low ↦ absurd (below_other i j n at there low)
    | inr high ↦ elim (cases_lt j i) [
      | inl low ↦ absurd (below_other j i n there at low)
      | inr low ↦ omega (arith, high, low)
    ]
  ]

  place_is : (i : ℕ) (n : Node) → slice_get table i ≡ Some n → place_in table n ≡ i
  place_is i n at =
      let of : Contains table n = (i, slice_get_within table i n at, get_or_from_slice_get table i n n at) in
      one_place (place_in table n) i n (at_place table n (is_there table n of)) at

  module _ (ids : List Id) (steps : List Step) (g : Growth) (is : IsGrowth table ids steps g)
      (starts : (x : Id) → Contains ids x → Contains table (Sysmod x)) where
    -- ---- a closed set of nodes as one of numbers

    module _ (set : Node → Bool) (closed : AreClosed ids steps set) where
      abbrev numbers : ℕ → Bool
      numbers i = option_map_or set (slice_get table i) false

      to_number : (i : ℕ) (n : Node) → slice_get table i ≡ Some n → IsTrue (set n) → IsTrue (numbers i)
      to_number i n at on = ap (λ o. option_map_or set o false) at ∙ on

      from_number : (i : ℕ) (n : Node) → slice_get table i ≡ Some n → IsTrue (numbers i) → IsTrue (set n)
      from_number i n at on = ap (λ o. option_map_or set o false) (sym at) ∙ on

      start_numbers : (i : ℕ) → IsTrue (holds g.start i) → IsTrue (numbers i)
      start_numbers i on =
          let n = flag_at (is_start ids) table i (ap (λ l. holds l i) (sym is.start) ∙ on) in
          to_number i n.0 n.1 (closed.start n.0 n.2)

      follows : (r : Rule) → Contains g.rules r → All (λ y. IsTrue (numbers y)) r.these → IsTrue (numbers r.that)
      follows r h all =
          let s = is.rules.only r h in
          to_number r.that s.0.that s.2.that (closed.grown s.0 s.1 (λ m of.
          let p = s.2.these.there m of in
          from_number p.0 m p.2 (All-contains (λ y. IsTrue (numbers y)) r.these p.0 all p.1)))

      numbers_closed : IsClosed g numbers
      numbers_closed = record { start = start_numbers; rules = All_from_each _ g.rules follows }

    -- ---- the least set of numbers as one of nodes

    module _ (flags : List Bool) (least : IsLeast g flags) where
      abbrev nodes : Node → Bool
      nodes n = holds flags (place_in table n)

      at_number : (i : ℕ) (n : Node) → slice_get table i ≡ Some n → holds flags i ≡ nodes n
      at_number i n at = ap (holds flags) (sym (place_is i n at))

      starting : (n : Node) → IsTrue (is_start ids n) → Contains table n
      starting (Sysmod x) on = starts x (Contains_from_is_in ids x on)
      starting (Element type name) on = absurd (true≢false (sym on))

      nodes_start : (n : Node) → IsTrue (is_start ids n) → IsTrue (nodes n)
      nodes_start n on =
          let p = found_at table n (starting n on) in
          sym (at_number p.0 n p.1) ∙ (least.members p.0).1 (λ set closed. closed.start p.0
          (ap (λ l. holds l p.0) is.start ∙ at_flag (is_start ids) table p.0 n p.1 ∙ on))

      nodes_grown : (s : Step) → Contains steps s → ((m : Node) → Contains s.these m → IsTrue (nodes m))
          → IsTrue (nodes s.that)
      nodes_grown s h all =
          let r = is.rules.there s h in
          sym (at_number r.0.that s.that r.2.that) ∙ (least.members r.0.that).1 (λ set closed.
          All-contains (λ v. All (λ y. IsTrue (set y)) v.these → IsTrue (set v.that)) g.rules r.0 closed.rules r.1
          (All_from_each _ r.0.these (λ i of.
          let m = r.2.these.only i of in
          (least.members i).0 (at_number i m.0 m.2 ∙ all m.0 m.1) set closed)))

      nodes_closed : AreClosed ids steps nodes
      nodes_closed = record { start = nodes_start; grown = nodes_grown }

      pub flagged_reached : (found : List Id) → AreFlagged table flags (length table) found
          → length flags ≡ length table → (x : Id) → Contains found x ↔ IsReached ids steps (Sysmod x)
      flagged_reached found flagged size x = (
        λ h set closed.
            let p = (flagged x).0 h in
            from_number set closed p.0 (Sysmod x) p.2.0 ((least.members p.0).0 p.2.1 (numbers set closed)
            (numbers_closed set closed)),
        λ reached.
            let on = reached nodes nodes_closed in
            let low = within flags (place_in table (Sysmod x)) on in
            let below : place_in table (Sysmod x) < length table = omega (arith, low, size) in
            (flagged x).1 (place_in table (Sysmod x), below, (at_place table (Sysmod x) below, on)),
      )
        where
          within : (fs : List Bool) (i : ℕ) → IsTrue (holds fs i) → i < length fs
          within fs i on = elim (cases_lt i (length fs)) [
            | inl low ↦ low
            | inr past ↦ absurd (true≢false (sym on ∙ get_or_past fs i false (omega (arith, past))))
          ]
