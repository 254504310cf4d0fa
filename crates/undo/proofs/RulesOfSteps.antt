-- Steps and their numbers.
use Rattle.std.proofs.Common.{◌≡◌, ◌∙◌, ◌<◌, ◌+◌, inl, inr, ℕ, Bool, true, false, List, [], ◌∷◌, ◌++◌}
use Rattle.std.proofs.Common.{length, map, take, get_or}
use Rattle.std.proofs.Common.{Some, refl, sym, ap, subst, cond, arith, Contains, slice_get}
use Rattle.std.proofs.Common.{nat_eq, All, IsPermutation, AllPairs}
use Rattle.std.specs.Prelude.{◌↔◌}
use Rattle.std.specs.List.{dedup, flat_map}
use Rattle.std.specs.List.Sorted.{IsSorted}
use Rattle.std.specs.Ordering.{nat_cmp}
use Rattle.std.proofs.lemmas.Bool.{cases_lt}
use Rattle.std.proofs.lemmas.List.{map-append, take_more, length-map}
use Rattle.std.proofs.lemmas.List.Elements.{Contains-append_left, Contains-append_right, Contains-append_cases}
use Rattle.std.proofs.lemmas.List.Kept.{AllPairs-from_increasing, Contains-dedup_nat, Contains-from_dedup}
use Rattle.std.proofs.lemmas.List.Sorted.{Contains-permutation, IsPermutation-sym}
use Rattle.std.proofs.lemmas.Map.Keys.{IsStrictlyIncreasing-dedup}
use Rattle.std.proofs.lemmas.Option.{slice_get_within, same_Some}
use Rattle.terms.proofs.ListMembers.{here, here_or, none_in, in_map, map_in, in_flat}
use Rattle.terms.specs.Types.{Id}
use Rattle.terms.specs.Rising.{Rises}
use Rattle.solve.specs.System.{holds}
use Rattle.solve.specs.Least.{Rule, Growth, IsRule, IsLeast}
use Rattle.undo.specs.declared.nodes.Node.{Node}
use Rattle.undo.specs.declared.nodes.Node.TheVariants.{Sysmod, Element}
use Rattle.undo.specs.declared.nodes.Step.{Step as RustStep}
use Rattle.undo.specs.contracts.nodes.NodeOrd.TheImpl as node_order
use Rattle.undo.specs.Steps.{Step, as_step, as_steps, is_start}
use Rattle.undo.specs.ByNumbers.{ArePlaces, IsNumbered, AreNumberedRules, IsGrowth, AddsRule, Covers, nodes_in}
use Rattle.undo.specs.ByNumbers.{sysmod_in, AreFlagged, IsFlagged, AreReached}
use Rattle.terms.proofs.Each.{All_from_each}
use Rattle.undo.proofs.Reached.{flagged_reached}

-- ---- sorted numbers without doubles

pub unique_members : (all sorted : List ℕ) → IsPermutation all sorted → (n : ℕ) → Contains (dedup nat_eq sorted) n
    ↔ Contains all n
unique_members all sorted moved n = (
  λ h. Contains-permutation sorted all n (IsPermutation-sym all sorted moved) (Contains-from_dedup nat_eq sorted n h),
  λ h. Contains-dedup_nat sorted n (Contains-permutation all sorted n moved h),
)

pub unique_rising : (sorted : List ℕ) → IsSorted nat_cmp sorted → AllPairs (λ a b. a < b) (dedup nat_eq sorted)
unique_rising sorted in_order =
    AllPairs-from_increasing (dedup nat_eq sorted) (IsStrictlyIncreasing-dedup sorted in_order)

-- ---- a rule

pub are_places : (table these : List Node) (found places : List ℕ)
    → map (slice_get table) found ≡ map (λ n. Some n) these → ((n : ℕ) → Contains places n ↔ Contains found n)
    → ArePlaces table these places
are_places table these found places same members = record {
  there = λ m h.
      let p = map_in (slice_get table) found (Some m) (subst (λ l. Contains l (Some m)) (sym same)
      (in_map (λ n. Some n) these m h)) in
      (p.0, (members p.0).1 p.1, p.2);
  only = λ i h.
      let p = map_in (λ n. Some n) these (slice_get table i) (subst (λ l. Contains l (slice_get table i)) same
      (in_map (slice_get table) found i ((members i).0 h))) in
      (p.0, p.1, sym p.2);
}

pub numbered_rule : (table : List Node) (s : Step) (r : Rule) → IsNumbered table s r
    → AllPairs (λ a b. a < b) r.these → IsRule (length table) r
numbered_rule table s r is rising = record {
  these = All_from_each (λ y. y < length table) r.these
      (λ i h. let m = is.these.only i h in slice_get_within table i m.0 m.2);
  rising = rising;
  that = slice_get_within table r.that s.that is.that;
}

-- ---- one rule more

both_numbered : (table : List Node) (steps : List Step) (rules : List Rule) (s : Step) (r : Rule)
    → AreNumberedRules table steps rules → IsNumbered table s r
    → AreNumberedRules table (steps ++ s ∷ []) (rules ++ r ∷ [])
both_numbered table steps rules s r are is = record {
  there = λ t h. elim (Contains-append_cases steps (s ∷ []) t h) [
    | inl old ↦ (let p = are.there t old in (p.0, Contains-append_left rules (r ∷ []) p.0 p.1, p.2))
    | inr new ↦ elim (here_or s [] t new) [
      | inl same ↦ (r, Contains-append_right rules (r ∷ []) r (here r []), subst (λ v. IsNumbered table v r) same is)
      | inr later ↦ absurd (none_in t later)
    ]
  ];
  only = λ t h. elim (Contains-append_cases rules (r ∷ []) t h) [
    | inl old ↦ (let p = are.only t old in (p.0, Contains-append_left steps (s ∷ []) p.0 p.1, p.2))
    | inr new ↦ elim (here_or r [] t new) [
      | inl same ↦ (s, Contains-append_right steps (s ∷ []) s (here s []), subst (IsNumbered table s) same is)
      | inr later ↦ absurd (none_in t later)
    ]
  ];
}

pub one_more : (table : List Node) (ids : List Id) (steps : List RustStep) (i : ℕ) (s : RustStep) (old new : Growth)
    → i < length steps → s ≡ get_or steps i s → IsGrowth table ids (as_steps (take i steps)) old
    → AddsRule table (as_step s) old new → IsGrowth table ids (as_steps (take (i + 1) steps)) new
one_more table ids steps i s old new low is growth adds =
    let more : as_steps (take (i + 1) steps) ≡ as_steps (take i steps) ++ as_step s ∷ [] =
    ap as_steps (take_more steps i s low ∙ ap (λ v. take i steps ++ v ∷ []) (sym is))
    ∙ map-append as_step (take i steps) (s ∷ []) in
    subst (λ l. IsGrowth table ids l new) (sym more)
    (subst (IsGrowth table ids (as_steps (take i steps) ++ as_step s ∷ [])) (sym adds.new_is) record {
      start = growth.start;
      rules = both_numbered table (as_steps (take i steps)) old.rules (as_step s) adds.rule growth.rules adds.numbered;
    })

-- ---- one place more

own_sysmod : (n : Node) (x : Id) → Contains (sysmod_in n) x → n ≡ Sysmod x
own_sysmod (Sysmod y) x h = elim (here_or y [] x h) [
  | inl same ↦ ap Sysmod same
  | inr later ↦ absurd (none_in x later)
]
own_sysmod (Element type name) x h = absurd (none_in x h)

pub flagged_more : (table : List Node) (flags : List Bool) (i : ℕ) (found new : List Id) (n : Node)
    → slice_get table i ≡ Some n → AreFlagged table flags i found
    → new ≡ found ++ cond (holds flags i) (sysmod_in n) [] → AreFlagged table flags (i + 1) new
flagged_more table flags i found new n at are is x = (
  λ h. elim (Contains-append_cases found (cond (holds flags i) (sysmod_in n) []) x
      (subst (λ l. Contains l x) is h)) [
        | inl old ↦ (let p = (are x).0 old in (p.0, omega (arith, p.1), p.2))
        | inr own ↦ (i, omega arith, by_flag (holds flags i) refl own)
      ],
  λ p. subst (λ l. Contains l x) (sym is) (within p.0 p.1 p.2),
)
  where
    by_flag : (b : Bool) → holds flags i ≡ b → Contains (cond b (sysmod_in n) []) x → IsFlagged table flags x i
    by_flag true e own = (at ∙ ap (λ v. Some v) (own_sysmod n x own), e)
    by_flag false e own = absurd (none_in x own)

    at-end : IsFlagged table flags x i → Contains (cond (holds flags i) (sysmod_in n) []) x
    at-end f =
        subst (λ b. Contains (cond b (sysmod_in n) []) x) (sym f.1)
        (subst (λ v. Contains (sysmod_in v) x) (same_Some (Sysmod x) n (sym f.0 ∙ at)) (here x []))

    within : (j : ℕ) → j < i + 1 → IsFlagged table flags x j
        → Contains (found ++ cond (holds flags i) (sysmod_in n) []) x
    within j low f = elim (cases_lt j i) [
      | inl before ↦ Contains-append_left found (cond (holds flags i) (sysmod_in n) []) x ((are x).1 (j, before, f))
      | inr past ↦ Contains-append_right found (cond (holds flags i) (sysmod_in n) []) x
          (at-end (let last : j ≡ i = omega (arith, low, past) in subst (IsFlagged table flags x) last f))
    ]

-- no SYSMOD with the flag stands there
pub flagged_skip : (table : List Node) (flags : List Bool) (i : ℕ) (found : List Id)
    → ((x : Id) → IsFlagged table flags x i → ⊥) → AreFlagged table flags i found
    → AreFlagged table flags (i + 1) found
flagged_skip table flags i found none are x = (
  λ h. let p = (are x).0 h in (p.0, omega (arith, p.1), p.2),
  λ p. within p.0 p.1 p.2,
)
  where
    within : (j : ℕ) → j < i + 1 → IsFlagged table flags x j → Contains found x
    within j low f = elim (cases_lt j i) [
      | inl before ↦ (are x).1 (j, before, f)
      | inr past ↦ absurd (none x (let last : j ≡ i = omega (arith, low, past) in
          subst (IsFlagged table flags x) last f))
    ]

-- ---- a table of all

pub starts_in : (table nodes : List Node) (ids : List Id) (steps : List RustStep)
    → nodes ≡ map Sysmod ids ++ flat_map nodes_in steps → ((n : Node) → Contains table n ↔ Contains nodes n)
    → All (λ x. Contains table (Sysmod x)) ids
starts_in table nodes ids steps is same = All_from_each (λ x. Contains table (Sysmod x)) ids (λ x h.
    (same (Sysmod x)).1 (subst (λ l. Contains l (Sysmod x)) (sym is)
    (Contains-append_left (map Sysmod ids) (flat_map nodes_in steps) (Sysmod x) (in_map Sysmod ids x h))))

pub covers_in : (table nodes : List Node) (ids : List Id) (steps : List RustStep)
    → nodes ≡ map Sysmod ids ++ flat_map nodes_in steps → ((n : Node) → Contains table n ↔ Contains nodes n)
    → All (Covers table) steps
covers_in table nodes ids steps is same = All_from_each (Covers table) steps (λ s h.
    let in_table : (n : Node) → Contains (nodes_in s) n → Contains table n =
    λ n of. (same n).1 (subst (λ l. Contains l n) (sym is)
    (Contains-append_right (map Sysmod ids) (flat_map nodes_in steps) n (in_flat nodes_in steps s n h of))) in
    record {
      these = λ n of. in_table n (Contains-append_left s.these.items (s.that ∷ []) n of);
      that = in_table s.that (Contains-append_right s.these.items (s.that ∷ []) s.that (here s.that []));
    })

-- ---- the whole

pub all_reached : (table : List Node) → Rises node_order.ghosts.cmp (λ n. n) table → (ids : List Id)
    → (steps : List Step) (g : Growth) → IsGrowth table ids steps g → ((x : Id) → Contains ids x
    → Contains table (Sysmod x)) → (flags : List Bool) → IsLeast g flags → (chosen found : List Id)
    → AreFlagged table flags (length table) chosen → ((x : Id) → Contains found x ↔ Contains chosen x)
    → AreReached ids steps found
all_reached table rises ids steps g growth starts flags least chosen found flagged same = λ x.
    let size : length flags ≡ length table = least.size ∙ ap length growth.start ∙ length-map table (is_start ids) in
    let both = flagged_reached table rises ids steps g growth starts flags least chosen flagged size x in
    (λ h. both.0 ((same x).0 h), λ h. (same x).1 (both.1 h))
