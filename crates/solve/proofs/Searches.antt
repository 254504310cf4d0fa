-- The steps of a search that counts, over plain lists.
use Rattle.std.proofs.Common.{◌≡◌, ◌<◌, ◌≤◌, ◌+◌, ◌-◌, ℕ, Bool, true, false, List, [], ◌∷◌, ◌++◌, length}
use Rattle.std.proofs.Common.{map, get_or, set, refl, sym, ◌∙◌, subst, ap, arith, inl, inr, eq-eqb, zero-add, mul-one}
use Rattle.std.proofs.Common.{mul-zero, ◌*◌, ◌^◌, take, replicate}
use Rattle.std.specs.Prelude.{IsTrue, ◌==◌, ◌&&◌, not, ◌⊎◌, Vec, count_by, sum}
use Rattle.std.specs.declared.alloc.Global.{Global}
use Rattle.std.specs.List.{All, Any, Contains, list_any, sum_by}
use Rattle.std.proofs.lemmas.List.{get_or-set_same, get_or-set_other, get_or-map, get_or_default, length-set}
use Rattle.std.proofs.lemmas.List.{length-map, length_push, same_lists, get_or_append_left, get_or_past, get_or_push}
use Rattle.std.proofs.lemmas.List.{map_more, map_push, take-map, length-take-le}
use Rattle.std.proofs.lemmas.List.Elements.{All-nil, All-contains, Contains-get_or, Contains-push}
use Rattle.std.proofs.lemmas.List.Folds.{Any-from_list_any, sum_by-replicate}
use Rattle.std.proofs.lemmas.List.Sums.{sum_by-set, sum_by-cons, sum-map, get_or-le-sum_by, count_by-le-length}
use Rattle.std.proofs.lemmas.List.Sums.{sum_by-le-sum_by, sum_by-le, sum_by-take-le, sum_by_push, sum_by-append}
use Rattle.std.proofs.lemmas.Bool.{cases_Bool, cases_eq, cases_lt}
use Rattle.solve.specs.System.{System, Need, IsSystem, AreKept, holds, strikes_of}
use Rattle.solve.specs.System.{pairs_of}
use Rattle.solve.specs.Parts.{IsWithin}
use Rattle.solve.specs.declared.system.Need.{Need as StoredNeed}
use Rattle.solve.specs.NeedView.{numbered}
use Rattle.solve.specs.Rows.{row_at, times, one_if}
use Rattle.solve.specs.Board.{need_at, AreServed, eligible_in, weight, IsDrop, IsSearch}
use Rattle.terms.proofs.Rising.{rising_length}
use Rattle.terms.proofs.Searches.{All_from_no_list_any}
use Rattle.solve.proofs.Times.{eqb_other, times_push_same, times_push_other, times_from_Contains}
use Rattle.solve.proofs.Sums.{sum_by_same, sum_by_split, count_part, count_none}
use Rattle.solve.proofs.Drops.{kept_from_parts}

need_in : (p : System) (k : ℕ) → k < length p.needs → Contains p.needs (need_at p.needs k)
need_in p k below = Contains-get_or p.needs k (record { of = 0; any = [] }) below

drop_within : (x : ℕ) (standing : List Bool) (dropped : List ℕ) (standing' : List Bool) (dropped' : List ℕ)
    → IsDrop x standing dropped standing' dropped' → IsWithin standing' standing
drop_within x standing dropped standing' dropped' drop y stands = elim (cases_eq y x) [
  | inl same ↦ absurd (cc (stands, ap (holds standing') same ∙ drop.out))
  | inr other ↦ sym (drop.others y other) ∙ stands
]

not_standing : (s t : List Bool) (x : ℕ) → IsWithin s t → holds t x ≡ false → holds s x ≡ false
not_standing s t x within out = elim (cases_Bool (holds s x)) [
  | inl stands ↦ absurd (cc (out, within x stands))
  | inr gone ↦ gone
]

-- where no weight is left, none of the list stands
unserved : (standing : List Bool) (dropped : List ℕ) (any : List ℕ) → sum_by (weight standing dropped) any ≡ 0
    → Any (λ y. IsTrue (holds standing y)) any → ⊥
unserved standing dropped any none some =
    let P : ℕ → Type 0 = λ y. one_if (holds standing y) ≡ one_if true in
    let one : P (get_or any some.0 some.1) = subst P (sym some.3) (ap one_if some.4) in
    omega (arith, one, none, get_or-le-sum_by (weight standing dropped) any some.0 some.1 some.2)

-- the candidate of a need with no living member is dropped
pub search_drop : (p : System) (due : List ℕ) (settled settled' : ℕ → Type 0) (standing standing' : List Bool)
    (living dropped dropped' : List ℕ) (strikes room k : ℕ)
    → k < length p.needs → (need_at p.needs k).of < p.size → get_or living k 0 ≡ 0
    → ((j : ℕ) → settled' j → settled j ⊎ (j ≡ k))
    → IsDrop (need_at p.needs k).of standing dropped standing' dropped'
    → IsSearch p due settled standing living dropped strikes room
    → IsSearch p due settled' standing' living dropped' strikes room
search_drop p due settled settled' standing standing' living dropped dropped' strikes room k below small_of none more
    drop search =
    let d = need_at p.needs k in
    let part = drop_within d.of standing dropped standing' dropped' drop in
    record {
      size = drop.size ∙ search.size;
      needs = search.needs;
      members = drop.members p.size small_of search.members;
      total = omega (arith, drop.total, search.total);
      fits = search.fits;
      every = record {
        part = λ set supported x member. elim (cases_eq x d.of) [
          | inl same ↦ absurd (
              let served = All-contains (λ e. IsTrue (set e.of) → Any (λ y. IsTrue (set y)) e.any) p.needs d
              supported.served (need_in p k below) in
              let some = served (subst (λ n. IsTrue (set n)) same member) in
              unserved standing dropped d.any (omega (arith, search.counts k below, none))
              (some.0, some.1, some.2, some.3, search.every.part set supported some.1 some.4))
          | inr other ↦ drop.others x other ∙ search.every.part set supported x member
        ];
      };
      within = λ x stands. search.within x (part x stands);
      counts = λ j small. search.counts j small ∙ ap (λ n. n + times j due)
          (sym (sum_by_same (weight standing' dropped') (weight standing dropped) (need_at p.needs j).any
          drop.weights));
      bare = λ j small is zero_left. elim (more j is) [
        | inl before ↦ not_standing standing' standing (need_at p.needs j).of part
            (search.bare j small before zero_left)
        | inr same ↦ ap (λ n. holds standing' (need_at p.needs n).of) same ∙ drop.out
      ];
      struck = search.struck;
    }

-- of the needs with no living member no other is settled
pub search_pass : (p : System) (due : List ℕ) (settled settled' : ℕ → Type 0) (standing : List Bool)
    (living dropped : List ℕ) (strikes room : ℕ)
    → ((j : ℕ) → j < length p.needs → get_or living j 0 ≡ 0 → settled' j → settled j)
    → IsSearch p due settled standing living dropped strikes room
    → IsSearch p due settled' standing living dropped strikes room
search_pass p due settled settled' standing living dropped strikes room before search = record {
  size = search.size;
  needs = search.needs;
  members = search.members;
  total = search.total;
  fits = search.fits;
  every = search.every;
  within = search.within;
  counts = search.counts;
  bare = λ j small is zero_left. search.bare j small (before j small zero_left is) zero_left;
  struck = search.struck;
}

times_cons_same : (k : ℕ) (rest : List ℕ) → times k (k ∷ rest) ≡ 1 + times k rest
times_cons_same k rest =
    let one : one_if (k == k) ≡ one_if true = ap one_if (eq-eqb k k refl) in
    omega (arith, sum_by-cons (λ y. one_if (y == k)) k rest, one)

times_cons_other : (j k : ℕ) (rest : List ℕ) → (j ≡ k → ⊥) → times j (k ∷ rest) ≡ times j rest
times_cons_other j k rest other =
    let none : one_if (k == j) ≡ one_if false = ap one_if (eqb_other k j (λ same. other (sym same))) in
    omega (arith, sum_by-cons (λ y. one_if (y == j)) k rest, none)

-- a need on which a strike is due has a living member
pub due_living : (p : System) (k : ℕ) (rest : List ℕ) (settled : ℕ → Type 0) (standing : List Bool)
    (living dropped : List ℕ) (strikes room : ℕ)
    → k < length p.needs → IsSearch p (k ∷ rest) settled standing living dropped strikes room → 0 < get_or living k 0
due_living p k rest settled standing living dropped strikes room below search =
    omega (arith, search.counts k below, times_cons_same k rest)

-- a strike: the need loses a living member, and is settled no more
pub search_strike : (p : System) (k : ℕ) (rest : List ℕ) (settled : ℕ → Type 0) (standing : List Bool)
    (living dropped : List ℕ) (strikes room : ℕ)
    → k < length p.needs → IsSearch p (k ∷ rest) settled standing living dropped strikes room
    → IsSearch p rest (λ j. settled j × (j ≡ k → ⊥)) standing (set living k (get_or living k 0 - 1)) dropped
    (strikes + 1) room
search_strike p k rest settled standing living dropped strikes room below search =
    let less = get_or living k 0 - 1 in
    let small : k < length living = omega (arith, search.needs, below) in
    let some = due_living p k rest settled standing living dropped strikes room below search in
    record {
      size = search.size;
      needs = length-set living k less ∙ search.needs;
      members = search.members;
      total = search.total;
      fits = search.fits;
      every = search.every;
      within = search.within;
      counts = λ j low. elim (cases_eq j k) [
        | inl same ↦
            let weights : ℕ → ℕ = λ n. sum_by (weight standing dropped) (need_at p.needs n).any in
            let here : get_or (set living k less) j 0 ≡ less =
            ap (λ n. get_or (set living k less) n 0) same ∙ get_or-set_same living k less 0 small in
            let count : get_or living k 0 ≡ weights k + times k (k ∷ rest) = search.counts k below in
            let moved : weights j ≡ weights k = ap weights same in
            let due : times j rest ≡ times k rest = ap (λ n. times n rest) same in
            omega (arith, here, count, moved, due, times_cons_same k rest)
        | inr other ↦
            let stays = get_or-set_other living k j less 0 other in
            omega (arith, stays, search.counts j low, times_cons_other j k rest other)
      ];
      bare = λ j low is zero_left. search.bare j low is.0 (sym (get_or-set_other living k j less 0 is.1) ∙ zero_left);
      struck = omega (arith, search.struck, sum_by-set (λ (n : ℕ). n) living k less 0 small, some);
    }

-- a need that is read
pub need_at_read : (stored : List StoredNeed) (needs : List Need) (k : ℕ) (n : StoredNeed)
    → map numbered stored ≡ needs
    → k < length stored → n ≡ get_or stored k n → need_at needs k ≡ numbered n
need_at_read stored needs k n maps below is =
    ap (λ ds. need_at ds k) (sym maps) ∙ get_or-map numbered stored k n (record { of = 0; any = [] }) below
    ∙ ap numbered (sym is)

either : (k j : ℕ) → (Unit {0} × (j ≡ k → ⊥)) ⊎ (j ≡ k)
either k j = elim (cases_eq j k) [ inl same ↦ inr same | inr other ↦ inl (tt, other) ]

-- a strike that takes the last living member, and one that does not
pub strike_drop : (p : System) (k : ℕ) (rest : List ℕ) (standing standing' : List Bool)
    (living dropped dropped' : List ℕ) (strikes room : ℕ)
    → k < length p.needs → (need_at p.needs k).of < p.size → get_or living k 0 - 1 ≡ 0
    → IsDrop (need_at p.needs k).of standing dropped standing' dropped'
    → IsSearch p (k ∷ rest) (λ j. Unit {0}) standing living dropped strikes room
    → IsSearch p rest (λ j. Unit {0}) standing' (set living k (get_or living k 0 - 1)) dropped' (strikes + 1) room
strike_drop p k rest standing standing' living dropped dropped' strikes room below small none drop search =
    search_drop p rest (λ j. Unit {0} × (j ≡ k → ⊥)) (λ j. Unit {0}) standing standing'
    (set living k (get_or living k 0 - 1)) dropped dropped' (strikes + 1) room k below small
    (get_or-set_same living k (get_or living k 0 - 1) 0 (omega (arith, search.needs, below)) ∙ none)
    (λ j _. either k j) drop
    (search_strike p k rest (λ j. Unit {0}) standing living dropped strikes room below search)

pub strike_pass : (p : System) (k : ℕ) (rest : List ℕ) (standing : List Bool) (living dropped : List ℕ)
    (strikes room : ℕ)
    → k < length p.needs → (get_or living k 0 - 1 ≡ 0 → ⊥)
    → IsSearch p (k ∷ rest) (λ j. Unit {0}) standing living dropped strikes room
    → IsSearch p rest (λ j. Unit {0}) standing (set living k (get_or living k 0 - 1)) dropped (strikes + 1) room
strike_pass p k rest standing living dropped strikes room below some search =
    let less = set living k (get_or living k 0 - 1) in
    let same = get_or-set_same living k (get_or living k 0 - 1) 0 (omega (arith, search.needs, below)) in
    search_pass p rest (λ j. Unit {0} × (j ≡ k → ⊥)) (λ j. Unit {0}) standing less dropped (strikes + 1) room
    (λ j small none _. (tt, λ at. some (sym same ∙ ap (λ n. get_or less n 0) (sym at) ∙ none)))
    (search_strike p k rest (λ j. Unit {0}) standing living dropped strikes room below search)

below_next : (k j : ℕ) → j < k + 1 → (j < k) ⊎ (j ≡ k)
below_next k j less = elim (cases_eq j k) [ inl same ↦ inr same | inr other ↦ inl (omega (arith, less, other)) ]

-- one more need of the start
pub settle_drop : (p : System) (standing standing' : List Bool) (living dropped dropped' : List ℕ) (strikes room k : ℕ)
    → k < length p.needs → (need_at p.needs k).of < p.size → get_or living k 0 ≡ 0
    → IsDrop (need_at p.needs k).of standing dropped standing' dropped'
    → IsSearch p [] (λ j. j < k) standing living dropped strikes room
    → IsSearch p [] (λ j. j < k + 1) standing' living dropped' strikes room
settle_drop p standing standing' living dropped dropped' strikes room k below small none drop search =
    search_drop p [] (λ j. j < k) (λ j. j < k + 1) standing standing' living dropped dropped' strikes room k below small
    none (below_next k) drop search

pub settle_pass : (p : System) (standing : List Bool) (living dropped : List ℕ) (strikes room k : ℕ)
    → (get_or living k 0 ≡ 0 → ⊥)
    → IsSearch p [] (λ j. j < k) standing living dropped strikes room
    → IsSearch p [] (λ j. j < k + 1) standing living dropped strikes room
settle_pass p standing living dropped strikes room k some search =
    search_pass p [] (λ j. j < k) (λ j. j < k + 1) standing living dropped strikes room
    (λ j small none less. elim (below_next k j less) [
      | inl before ↦ before
      | inr at ↦ absurd (some (ap (λ n. get_or living n 0) (sym at) ∙ none))
    ]) search

pub settled_all : (p : System) (standing : List Bool) (living dropped : List ℕ) (strikes room k : ℕ)
    → length p.needs ≤ k → IsSearch p [] (λ j. j < k) standing living dropped strikes room
    → IsSearch p [] (λ j. Unit {0}) standing living dropped strikes room
settled_all p standing living dropped strikes room k all search =
    search_pass p [] (λ j. j < k) (λ j. Unit {0}) standing living dropped strikes room
    (λ j low none _. omega (arith, low, all)) search

times_push : (x y : ℕ) (dropped : List ℕ) → times y (dropped ++ x ∷ []) ≡ times y dropped + one_if (y == x)
times_push x y dropped = elim (cases_eq y x) [
  | inl same ↦ let one : one_if (y == x) ≡ one_if true = ap one_if (eq-eqb y x same)
      in omega (arith, one, times_push_same y dropped x same)
  | inr other ↦ let none : one_if (y == x) ≡ one_if false = ap one_if (eqb_other y x other)
      in omega (arith, none, times_push_other y dropped x other)
]

-- the last one dropped is taken, and the strikes of its row become due
pub search_take : (p : System) (served : List (Vec ℕ Global)) (x : ℕ) (settled : ℕ → Type 0) (standing : List Bool)
    (living dropped : List ℕ) (strikes room : ℕ)
    → AreServed p.needs served → IsSearch p [] settled standing living (dropped ++ x ∷ []) strikes room
    → IsSearch p (row_at served x) settled standing living dropped strikes room
search_take p served x settled standing living dropped strikes room are search = record {
  size = search.size;
  needs = search.needs;
  members = λ k d below. subst (λ n. n < p.size) (get_or_append_left dropped (x ∷ []) d k below)
      (search.members k d (omega (arith, below, length_push dropped x)));
  total = omega (arith, search.total, length_push dropped x);
  fits = search.fits;
  every = search.every;
  within = search.within;
  counts = λ k below.
      let any = (need_at p.needs k).any in
      let parts = sum_by_split (weight standing (dropped ++ x ∷ [])) (weight standing dropped) (λ y. one_if (y == x))
      any (λ y. omega (arith, times_push x y dropped)) in
      omega (arith, search.counts k below, parts, are x k);
  bare = search.bare;
  struck = search.struck;
}

-- the last one dropped is a candidate
pub last_small : (p : System) (dropped : List ℕ) (x : ℕ) → All (λ y. y < p.size) (dropped ++ x ∷ []) → x < p.size
last_small p dropped x all = All-contains (λ y. y < p.size) (dropped ++ x ∷ []) x all (Contains-push dropped x)

-- a row names needs
pub served_small : (p : System) (served : List (Vec ℕ Global)) → AreServed p.needs served → (x : ℕ)
    → All (λ k. k < length p.needs) (row_at served x)
served_small p served are x i d below =
    let k = get_or (row_at served x) i d in
    elim (cases_lt k (length p.needs)) [
      | inl low ↦ low
      | inr past ↦ absurd (
          let none : (need_at p.needs k).any ≡ [] = ap (λ e. e.any)
          (get_or_past p.needs k (record { of = 0; any = [] }) past) in
          let zero_times : times x (need_at p.needs k).any ≡ times x [] = ap (times x) none in
          omega (
            arith,
            zero_times,
            are x k,
            times_from_Contains k (row_at served x)
                (Contains-get_or (row_at served x) i d below),
          ))
    ]

no_weight : (standing : List Bool) (any : List ℕ) → sum_by (weight standing []) any ≡ count_by (holds standing) any
no_weight standing any = sum_by_same (weight standing []) (λ y. one_if (holds standing y)) any (λ y. omega arith)

-- at the start all that is eligible stands
pub search_start : (p : System) (living : List ℕ) (room : ℕ) → IsSystem p → p.size ≤ room
    → living ≡ map (eligible_in p) p.needs → IsSearch p [] (λ j. j < 0) p.eligible living [] 0 room
search_start p living room valid enough counted = record {
  size = valid.flags;
  needs = ap length counted ∙ length-map p.needs (eligible_in p);
  members = All-nil _;
  total = omega (arith, valid.flags, count_by-le-length (λ (b : Bool). b) p.eligible);
  fits = enough;
  every = record { part = λ set supported x member. supported.eligible x member };
  within = λ x stands. stands;
  counts = λ k below.
      let here : get_or living k 0 ≡ eligible_in p (need_at p.needs k) =
      ap (λ xs. get_or xs k 0) counted ∙ get_or-map (eligible_in p) p.needs k (record { of = 0; any = [] }) 0
      below in
      omega (arith, here, no_weight p.eligible (need_at p.needs k).any);
  bare = λ k below never. absurd (omega (arith, never));
  struck = zero-add (sum living) ∙ ap sum counted ∙ sum-map (eligible_in p) p.needs;
}

-- Where no strike is due and none waits, what stands is the union of all self-supporting sets.
pub search_kept : (p : System) (standing : List Bool) (living : List ℕ) (strikes room : ℕ)
    → IsSearch p [] (λ k. Unit {0}) standing living [] strikes room → AreKept p standing
search_kept p standing living strikes room search = kept_from_parts p standing search.size search.every search.within
    (λ k e below member.
    let d = need_at p.needs k in
    let same : get_or p.needs k e ≡ d = get_or_default p.needs k e (record { of = 0; any = [] }) below in
    subst (λ f. Any (λ y. IsTrue (holds standing y)) f.any) (sym same)
    (elim (cases_Bool (list_any (holds standing) d.any)) [
      | inl some ↦ Any-from_list_any (holds standing) d.any some
      | inr none_stands ↦ absurd (
          let gone = count_none (holds standing) d.any (All_from_no_list_any (holds standing) d.any none_stands) in
          let zero_left : get_or living k 0 ≡ 0 = omega (arith, search.counts k below, no_weight standing d.any, gone)
          in
          cc (search.bare k below tt zero_left, subst (λ f. IsTrue (holds standing f.of)) same member))
    ]))

-- and each pair of a need and a member that is eligible and not kept was struck once
pub search_strikes : (p : System) (standing : List Bool) (living : List ℕ) (strikes room : ℕ)
    → IsSearch p [] (λ k. Unit {0}) standing living [] strikes room → strikes ≡ strikes_of p standing
search_strikes p standing living strikes room search =
    let left : Need → ℕ = λ d. count_by (holds standing) d.any in
    let counted : living ≡ map left p.needs = same_lists living (map left p.needs)
    (search.needs ∙ sym (length-map p.needs left)) (λ k d below.
    let low : k < length p.needs = omega (arith, search.needs, below) in
    let here : get_or living k d ≡ get_or living k 0 = get_or_default living k d 0 below in
    let there : get_or (map left p.needs) k d ≡ left (need_at p.needs k) =
    get_or-map left p.needs k (record { of = 0; any = [] }) d low in
    omega (arith, here, there, search.counts k low, no_weight standing (need_at p.needs k).any)) in
    let total : sum living ≡ sum_by left p.needs = ap sum counted ∙ sum-map left p.needs in
    let parts : sum_by (eligible_in p) p.needs ≡ strikes_of p standing + sum_by left p.needs =
    sum_by_split (eligible_in p) (λ d. count_by (λ y. holds p.eligible y && not (holds standing y)) d.any) left
    p.needs
    (λ d. count_part (holds p.eligible) (holds standing) d.any search.within) in
    omega (arith, search.struck, total, parts)

-- there are no more eligible members than pairs
pub eligible_le_pairs : (p : System) → sum_by (eligible_in p) p.needs ≤ pairs_of p.needs
eligible_le_pairs p = sum_by-le-sum_by (eligible_in p) (λ d. length d.any) p.needs
    (λ d. count_by-le-length (holds p.eligible) d.any)

-- pairs, one more need at a time
pub pairs_more : (stored : List StoredNeed) (k : ℕ) (n : StoredNeed) → k < length stored → n ≡ get_or stored k n
    → pairs_of (map numbered (take (k + 1) stored)) ≡ pairs_of (map numbered (take k stored)) + length n.any.items
pairs_more stored k n below is =
    ap pairs_of (map_more numbered stored k n below) ∙ sum_by_push (λ d. length d.any) (map numbered (take k stored))
    (numbered (get_or stored k n))
    ∙ ap (λ m. pairs_of (map numbered (take k stored)) + length m.any.items) (sym is)

pub pairs_part : (stored : List StoredNeed) (k : ℕ)
    → pairs_of (map numbered (take k stored)) ≤ pairs_of (map numbered stored)
pairs_part stored k = subst (λ ds. pairs_of ds ≤ pairs_of (map numbered stored)) (take-map numbered k stored)
    (sum_by-take-le (λ d. length d.any) (map numbered stored) k)

-- a list of candidates that rises has at most as many members as there are candidates
pub pairs_few : (p : System) → IsSystem p → p.size < 2 ^ 63 → length p.needs < 2 ^ 60
    → pairs_of p.needs < 2 ^ 123
pairs_few p valid small few =
    let all = sum_by-le (λ d. length d.any) 9223372036854775807 p.needs
    (λ k d below. omega (
      arith,
      small,
      rising_length (get_or p.needs k d).any p.size
          (valid.needs k d below).rising (valid.needs k d below).any,
    )) in
    omega (arith, all, few)

-- a row has the needs of before, and the new one as often as it names the row's candidate
pub served_more : (seen : List Need) (d : Need) (k : ℕ) (old new : List (Vec ℕ Global))
    → length seen ≡ k
    → ((x : ℕ) → row_at new x ≡ row_at old x ++ replicate (times x d.any) k) → AreServed seen old
    → AreServed (seen ++ d ∷ []) new
served_more seen d k old new place added so_far x j =
    let empty : Need = record { of = 0; any = [] } in
    let part : times j (row_at new x) ≡ times j (row_at old x) + times x d.any * one_if (k == j) =
    ap (times j) (added x) ∙ sum_by-append (λ y. one_if (y == j)) (row_at old x) (replicate (times x d.any) k)
    ∙ ap (λ n. times j (row_at old x) + n) (sum_by-replicate (λ y. one_if (y == j)) (times x d.any) k) in
    elim (cases_eq j k) [
      | inl same ↦
          let one : one_if (k == j) ≡ 1 = ap one_if (eq-eqb k j (sym same)) in
          let past : need_at seen j ≡ empty = get_or_past seen j empty (omega (arith, same, place)) in
          let none : times x (need_at seen j).any ≡ 0 = ap (λ e. times x e.any) past in
          let here : need_at (seen ++ d ∷ []) j ≡ d = get_or_push seen d empty j (place ∙ sym same) in
          let want : times x (need_at (seen ++ d ∷ []) j).any ≡ times x d.any = ap (λ e. times x e.any) here in
          let whole : times x d.any * one_if (k == j) ≡ times x d.any =
          ap (λ n. times x d.any * n) one ∙ mul-one (times x d.any) in
          omega (arith, part, whole, want, none, so_far x j)
      | inr other ↦
          let zero_more : times x d.any * one_if (k == j) ≡ 0 =
          ap (λ b. times x d.any * one_if b) (eqb_other k j (λ same. other (sym same)))
          ∙ mul-zero (times x d.any) in
          let stays : need_at (seen ++ d ∷ []) j ≡ need_at seen j = elim (cases_lt j (length seen)) [
            | inl before ↦ get_or_append_left seen (d ∷ []) empty j before
            | inr behind ↦ get_or_past (seen ++ d ∷ []) j empty
                (omega (arith, behind, other, place, length_push seen d)) ∙ sym (get_or_past seen j empty behind)
          ] in
          let want : times x (need_at (seen ++ d ∷ []) j).any ≡ times x (need_at seen j).any =
          ap (λ e. times x e.any) stays in
          omega (arith, part, zero_more, want, so_far x j)
    ]

-- the turns of the start fit
pub start_room : (p : System) (stored : List StoredNeed) (k : ℕ) (n : StoredNeed) → map numbered stored ≡ p.needs
    → IsSystem p
    → p.size < 2 ^ 63 → length stored < 2 ^ 60
    → k < length stored → n ≡ get_or stored k n → p.size + k + pairs_of (map numbered (take k stored)) +
    (1 + length n.any.items) < 2 ^ 128
start_room p stored k n maps valid small short below is =
    let all : pairs_of (map numbered stored) ≡ pairs_of p.needs = ap pairs_of maps in
    let few : length p.needs < 2 ^ 60 = omega (arith, ap length maps, length-map stored numbered, short) in
    omega (
      arith,
      pairs_few p valid small few,
      all,
      pairs_more stored k n below is,
      pairs_part stored (k + 1),
      small,
      below,
      short,
    )

pub living_more : (p : System) (stored : List StoredNeed) (k : ℕ) (n : StoredNeed) (living : List ℕ) (count : ℕ)
    → k < length stored
    → n ≡ get_or stored k n → count ≡ eligible_in p (numbered n)
    → living ≡ map (eligible_in p) (map numbered (take k stored))
    → living ++ count ∷ [] ≡ map (eligible_in p) (map numbered (take (k + 1) stored))
living_more p stored k n living count below is counted so_far =
    ap (λ xs. xs ++ count ∷ []) so_far ∙ ap (λ m. map (eligible_in p) (map numbered (take k stored)) ++ m ∷ [])
    (counted ∙ ap (λ m. eligible_in p (numbered m)) is)
    ∙ sym (ap (map (eligible_in p)) (map_more numbered stored k n below)
    ∙ map_push (eligible_in p) (map numbered (take k stored)) (numbered (get_or stored k n)))

pub served_next : (stored : List StoredNeed) (k : ℕ) (n : StoredNeed) (old new : List (Vec ℕ Global))
    → k < length stored
    → n ≡ get_or stored k n
    → ((x : ℕ) → row_at new x ≡ row_at old x ++ replicate (times x n.any.items) k)
    → AreServed (map numbered (take k stored)) old → AreServed (map numbered (take (k + 1) stored)) new
served_next stored k n old new below is added so_far =
    let seen : List Need = map numbered (take k stored) in
    let place : length seen ≡ k = length-map (take k stored) numbered ∙ length-take-le k stored (omega arith) in
    let next : seen ++ numbered n ∷ [] ≡ map numbered (take (k + 1) stored) =
    ap (λ m. map numbered (take k stored) ++ numbered m ∷ []) is ∙ sym (map_more numbered stored k n below) in
    subst (λ ds. AreServed ds new) next (served_more (map numbered (take k stored)) (numbered n) k old new place added
    so_far)
