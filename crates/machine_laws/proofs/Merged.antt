-- A numbered text and an update have a merge.
use Rattle.std.proofs.Common.{◌≡◌, ◌+◌, ◌∙◌, inl, inr, ℕ, Bool, List, [], ◌∷◌, Option, None, Some}
use Rattle.std.proofs.Common.{All, Contains, IsTrue, filter, fold, map, refl, sym, ap, subst, arith}
use Rattle.std.specs.Prelude.{◌==◌, ◌↔◌, is_some}
use Rattle.std.specs.List.Sorted.{IsStrictlyIncreasing}
use Rattle.std.specs.Ordering.{nat_cmp, is_lt}
use Rattle.std.specs.Cmp.{unsigned_ties}
use Rattle.std.proofs.lemmas.Bool.{eqb-true, false_from_ne_true}
use Rattle.std.proofs.lemmas.Cmp.{nat_cmp_total}
use Rattle.std.proofs.lemmas.List.Elements.{All-head, All-tail, All-filter}
use Rattle.std.proofs.lemmas.Map.Keys.{sorted_from_all_adjacent, sorted_from_strictly_increasing}
use Rattle.std.proofs.lemmas.Map.Keys.{IsStrictlyIncreasing-from_sorted}
use Rattle.std.proofs.lemmas.Option.{same_Some}
use Rattle.terms.proofs.ListMembers.{filter_in, in_filter}
use Rattle.terms.proofs.Orderings.{Less_from_is_lt}
use Rattle.terms.proofs.Pairs.{pairs_map, pairs_unmap}
use Rattle.terms.proofs.Searches.{find_gives}
use Rattle.terms.specs.Types.{Text, Lines}
use Rattle.terms.specs.Rising.{Rises, with_item}
use Rattle.terms.specs.Texts.{number_of, line_at, given, Touches, IsNumberedLine, IsNumbered, IsUpdate, IsMerge}
use Rattle.terms.proofs.Placing.{Rises_with_item, All_with_item}
use Rattle.terms.proofs.RisingLists.{Rises_from_sorted}
use Rattle.terms.proofs.Updates.{touches_cases}
use Rattle.text80.proofs.Splitting.{given_numbered}
use Rattle.sorted.proofs.InTurn.{in_turn_none, in_turn_some}
use Rattle.machine_laws.proofs.Lists.{line_at_itself}
use Rattle.machine_laws.proofs.Finitely.{is_so, so_exactly}
use Rattle.machine_laws.proofs.RunsAnswered.{Decided}

-- ---- records that rise by their numbers

abbrev ByNumber : Lines → Type 0
ByNumber text = Rises nat_cmp number_of text

abbrev Below : ℕ → ℕ → Type 0
Below m n = IsTrue (is_lt (nat_cmp m n))

by_number : (text : Lines) → IsNumbered text → ByNumber text
by_number text numbered =
    pairs_unmap (λ x y. Below (number_of x) (number_of y)) Below number_of (λ x y below. below) text
    (Rises_from_sorted nat_cmp (map number_of text)
    (sorted_from_strictly_increasing (map number_of text) numbered.rising))

increasing : (text : Lines) → ByNumber text → IsStrictlyIncreasing (map number_of text)
increasing text rises =
    let pairs = pairs_map (λ x y. Below (number_of x) (number_of y)) Below number_of (λ x y below. below) text rises in
    IsStrictlyIncreasing-from_sorted (map number_of text)
    (sorted_from_all_adjacent nat_cmp_total (map number_of text) 0
    (λ k below. Less_from_is_lt _ (pairs k (k + 1) 0 (omega arith) below)))

-- records that come in one after the other, each at its number
numbered_with : (lines text : Lines) → All IsNumberedLine lines → All IsNumberedLine text → ByNumber text
    → IsNumbered (fold (with_item nat_cmp number_of) text lines)
numbered_with [] text fine numbers rises = record { numbers = numbers; rising = increasing text rises }
numbered_with (line ∷ lines) text fine numbers rises =
    numbered_with lines (with_item nat_cmp number_of text line) (All-tail IsNumberedLine line lines fine)
    (All_with_item nat_cmp number_of IsNumberedLine text line numbers (All-head IsNumberedLine line lines fine))
    (Rises_with_item nat_cmp_total number_of text line rises)

-- ---- the merge

module _ (name : Text) (old update : Lines) (numbered : IsNumbered old) (is : IsUpdate name update) where
  untouched_or_not : (n : ℕ) → Decided (¬ Touches update n)
  untouched_or_not n = elim (touches_cases name update n is) [
    | inl touched ↦ inr (λ untouched. untouched touched)
    | inr untouched ↦ inl untouched
  ]

  -- whether the update leaves a record alone
  stays : List ℕ → Bool
  stays line = is_so (untouched_or_not (number_of line))

  stays_exactly : (line : List ℕ) → IsTrue (stays line) ↔ (¬ Touches update (number_of line))
  unfolding stays
  stays_exactly line = so_exactly (untouched_or_not (number_of line))

  left : Lines
  left = filter stays old

  new : Lines
  new = fold (with_item nat_cmp number_of) (given update) left

  -- where nothing is left at a number, the update's record stands there
  from_update : (n : ℕ) → ((line : List ℕ) → Contains left line → ¬ (number_of line ≡ n))
      → line_at new n ≡ line_at (given update) n
  unfolding new
  from_update n none =
      in_turn_none nat_cmp_total number_of (λ a b. a == b) unsigned_ties left (given update) n
      (λ line there. false_from_ne_true (number_of line == n) (λ at. none line there (eqb-true (number_of line) n at)))

  touched_at : (n : ℕ) → Touches update n → line_at new n ≡ line_at (given update) n
  unfolding left
  touched_at n touched = from_update n (λ line there at.
      (stays_exactly line).0 (filter_in stays old line there).1 (subst (Touches update) (sym at) touched))

  old_at : (line : List ℕ) → Contains left line → line_at old (number_of line) ≡ Some line
  unfolding left
  old_at line there = line_at_itself old line numbered (filter_in stays old line there).0

  untouched_at : (n : ℕ) → (¬ Touches update n) → line_at new n ≡ line_at old n
  unfolding new left
  untouched_at n untouched = by (line_at old n) refl
    where
      by : (o : Option (List ℕ)) → line_at old n ≡ o → line_at new n ≡ line_at old n
      by None at =
          from_update n (λ line there same.
          let found : Some line ≡ None = sym (old_at line there) ∙ ap (line_at old) same ∙ at in cc found)
          ∙ given_none (line_at (given update) n) refl ∙ sym at
        where
          given_none : (g : Option (List ℕ)) → line_at (given update) n ≡ g → g ≡ None
          given_none None gives = refl
          given_none (Some x) gives = absurd (untouched (inl (ap is_some gives)))
      by (Some line) at =
          let gives = find_gives (λ l. number_of l == n) old line at in
          let same : number_of line ≡ n = eqb-true (number_of line) n gives.0 in
          in_turn_some nat_cmp_total number_of (λ a b. a == b) unsigned_ties left (given update) n line gives.0
          (λ other there hit.
          let number : number_of other ≡ n = eqb-true (number_of other) n hit in
          same_Some other line (sym (old_at other there) ∙ ap (line_at old) number ∙ at))
          (inr (in_filter stays old line gives.1
          ((stays_exactly line).1 (λ touched. untouched (subst (Touches update) same touched)))))
          ∙ sym at

  -- The text and the update have a merge.
  pub merged : (text : Lines) × IsMerge old update text
  unfolding new left
  merged = (
    new,
    record {
      numbered =
          let gives = given_numbered name update is in
          numbered_with left (given update) (All-filter stays IsNumberedLine old numbered.numbers) gives.numbers
          (by_number (given update) gives);
      touched = touched_at;
      others = untouched_at;
    },
  )
