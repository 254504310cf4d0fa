-- Going over sorted ranges and old records in order.
use Rattle.std.proofs.Common.{◌≡◌, ◌<◌, ◌≤◌, ◌+◌, ℕ, Bool, true, false, List, [], ◌∷◌, ◌++◌, length}
use Rattle.std.proofs.Common.{drop, get_or, max, refl, sym, ◌∙◌, ap, subst, arith, inl, inr, IfSome, IfNone}
use Rattle.std.proofs.Common.{Option, None, Some, Bor, slice_get}
use Rattle.std.specs.Prelude.{nat_le, nat_lt, ◌&&◌, ◌||◌}
use Rattle.std.specs.List.{All}
use Rattle.std.specs.List.Sorted.{IsNonDecreasingBy}
use Rattle.std.proofs.lemmas.Bool.{cases_lt, lt-ltb, le-ltb, le-leb, lt-leb, and_left}
use Rattle.std.proofs.lemmas.List.{append-nil, drop_more, drop_all, append_assoc}
use Rattle.std.proofs.lemmas.List.Elements.{All-tail, All-head}
use Rattle.std.proofs.lemmas.List.Folds.{list_any_none}
use Rattle.std.proofs.lemmas.List.Sorted.{IsNonDecreasingBy-drop}
use Rattle.terms.proofs.Booleans.{or_assoc, or_false}
use Rattle.terms.specs.Types.{Lines}
use Rattle.terms.specs.Texts.{IsNumberedLine, number_of, IsNumbered}
use Rattle.terms.proofs.Texts.{Rises, Rises_numbered, Rises_lower}
use Rattle.text80.specs.declared.control.Range.{Range}
use Rattle.text80.specs.Ranges.{covers}
use Rattle.text80.specs.Merging.{IsSplitBelow, StandsFirst, StandsNowhere, IsSwept}
use Rattle.text80.proofs.Merges.{Merges, ends, below, same, stays, goes}

-- ranges

pub swept_none : (all : List Range) → IsNonDecreasingBy (λ r. r.low) all → IsSwept all 0 all 0
swept_none all h = record { rising = h; covered = λ n _. ap (λ b. b || covers all n) (sym (le-ltb n 0 (omega arith))) }

pub swept_later : (all : List Range) (from later : ℕ) (left : List Range) (reach : ℕ) → from ≤ later
    → IsSwept all from left reach → IsSwept all later left reach
swept_later all from later left reach h s = record {
  rising = s.rising;
  covered = λ n above. s.covered n (omega (arith, h, above));
}

reaches : (n reach high : ℕ) → (nat_lt n reach || nat_le n high) ≡ nat_lt n (max reach (high + 1))
reaches n reach high =
    elim (cases_lt n reach) [
      | inl in' ↦ ap (λ b. b || nat_le n high) (lt-ltb n reach in')
          ∙ sym (lt-ltb n (max reach (high + 1)) (omega (arith, in')))
      | inr out ↦ ap (λ b. b || nat_le n high) (le-ltb n reach out) ∙ elim (cases_lt high n) [
        | inl past ↦ lt-leb n high past ∙ sym (le-ltb n (max reach (high + 1)) (omega (arith, past, out)))
        | inr within ↦ le-leb n high within ∙ sym (lt-ltb n (max reach (high + 1)) (omega (arith, within)))
      ]
    ]

swept_step : (all : List Range) (from : ℕ) (r : Range) (rs : List Range) (reach : ℕ) → r.low ≤ from
    → IsSwept all from (r ∷ rs) reach → IsSwept all from rs (max reach (r.high + 1))
swept_step all from r rs reach low s = record {
  rising = IsNonDecreasingBy-drop (λ (q : Range). q.low) 1 (r ∷ rs) s.rising;
  covered = λ n above.
      s.covered n above
      ∙ ap (λ b. nat_lt n reach || ((b && nat_le n r.high) || covers rs n)) (le-leb r.low n (omega (arith, low, above)))
      ∙ or_assoc (nat_lt n reach) (nat_le n r.high) (covers rs n)
      ∙ ap (λ b. b || covers rs n) (reaches n reach r.high);
}

-- one more range of a list, at its place
pub swept_at : (all ranges : List Range) (from i : ℕ) (d : Range) (reach : ℕ) → i < length ranges
    → (get_or ranges i d).low ≤ from → IsSwept all from (drop i ranges) reach
    → IsSwept all from (drop (i + 1) ranges) (max reach ((get_or ranges i d).high + 1))
swept_at all ranges from i d reach inside low s =
    swept_step all from (get_or ranges i d) (drop (i + 1) ranges) reach low
    (subst (λ l. IsSwept all from l reach) (drop_more ranges i d inside) s)

none_covers : (n : ℕ) (left : List Range) → IsNonDecreasingBy (λ r. r.low) left
    → IfSome (slice_get left 0) (λ r. n < r.low) → covers left n ≡ false
none_covers n [] h above = refl
none_covers n (r ∷ rs) h above =
    list_any_none (λ (q : Range). nat_le q.low n && nat_le n q.high) (r ∷ rs) (λ k d inside.
    let later : r.low ≤ (get_or (r ∷ rs) k d).low = h 0 k d (omega arith) inside in
    and_left (nat_le (get_or (r ∷ rs) k d).low n) (nat_le n (get_or (r ∷ rs) k d).high)
    (lt-leb (get_or (r ∷ rs) k d).low n (omega (arith, later, above))))

-- past the ranges that begin at or below the number, `reach` tells
pub covered_by_reach : (all : List Range) (n : ℕ) (left : List Range) (reach : ℕ) → IsSwept all n left reach
    → IfSome (slice_get left 0) (λ r. n < r.low) → covers all n ≡ nat_lt n reach
covered_by_reach all n left reach s above =
    s.covered n (omega arith) ∙ ap (λ b. nat_lt n reach || b) (none_covers n left s.rising above)
    ∙ or_false (nat_lt n reach)

-- records

-- What is merged so far: whatever merges the rest completes it. Numbers from `from` on are still to come.
pub record IsMerging (all : List Range) (old givens old_rest rest : Lines) (merged : Lines) (left : List Range)
    (reach : ℕ) : Type 0 where
  pub from : ℕ
  pub old_rises : Rises from old_rest
  pub rest_rises : Rises from rest
  pub old_numbered : All IsNumberedLine old_rest
  pub rest_numbered : All IsNumberedLine rest
  pub swept : IsSwept all from left reach
  pub merges : (ms : Lines) → Merges (covers all) old_rest rest ms → Merges (covers all) old givens (merged ++ ms)

pub merging_none : (all : List Range) (old givens : Lines) → IsNumbered old → IsNumbered givens
    → IsNonDecreasingBy (λ r. r.low) all → IsMerging all old givens old givens [] all 0
merging_none all old givens h k rising = record {
  from = 0;
  old_rises = Rises_numbered old h;
  rest_rises = Rises_numbered givens k;
  old_numbered = h.numbers;
  rest_numbered = k.numbers;
  swept = swept_none all rising;
  merges = λ ms m. m;
}

pass_below : {D : ℕ → Bool} (o : List ℕ) (os front rest ms : Lines) → All (λ l. number_of l < number_of o) front
    → Merges D (o ∷ os) rest ms → Merges D (o ∷ os) (front ++ rest) (front ++ ms)
pass_below o os [] rest ms h m = m
pass_below o os (g ∷ front) rest ms h m =
    below (All-head (λ l. number_of l < number_of o) g front h)
    (pass_below o os front rest ms (All-tail (λ l. number_of l < number_of o) g front h) m)

-- what is left behind a front still rises
rises_behind : (least : ℕ) (front rest : Lines) → Rises least (front ++ rest) → Rises least rest
rises_behind least [] rest h = h
rises_behind least (x ∷ front) rest h = let from = h.0 in Rises_lower least (number_of x + 1) rest (omega (arith, from))
    (rises_behind (number_of x + 1) front rest h.1)

pub all_behind : (front rest : Lines) → All IsNumberedLine (front ++ rest) → All IsNumberedLine rest
all_behind [] rest h = h
all_behind (x ∷ front) rest h = all_behind front rest (All-tail IsNumberedLine x (front ++ rest) h)

-- the sweep may go on at the next old record
pub swept_here : (all : List Range) (old givens os rest merged : Lines) (o : List ℕ) (left : List Range) (reach : ℕ)
    → IsMerging all old givens (o ∷ os) rest merged left reach → IsSwept all (number_of o) left reach
swept_here all old givens os rest merged o left reach s = swept_later all s.from (number_of o) left reach s.old_rises.0
    s.swept

-- the given record of the same number takes the old one's place
pub merging_given : (all : List Range) (old givens os rest merged : Lines) (o : List ℕ) (left : List Range) (reach : ℕ)
    → IsMerging all old givens (o ∷ os) rest merged left reach →
    (front : Lines) (g : List ℕ) (more : Lines) (left' : List Range) (reach' : ℕ)
    → IsSplitBelow (number_of o) rest front (g ∷ more) → number_of g ≡ number_of o
    → IsSwept all (number_of o) left' reach' →
    IsMerging all old givens os more ((merged ++ front) ++ g ∷ []) left' reach'
merging_given all old givens os rest merged o left reach s front g more left' reach' cut e swept = record {
  from = number_of o + 1;
  old_rises = s.old_rises.1;
  rest_rises = subst (λ n. Rises (n + 1) more) e (rises_behind s.from front (g ∷ more)
      (subst (Rises s.from) cut.lines_are s.rest_rises)).1;
  old_numbered = All-tail IsNumberedLine o os s.old_numbered;
  rest_numbered = All-tail IsNumberedLine g more (all_behind front (g ∷ more)
      (subst (All IsNumberedLine) cut.lines_are s.rest_numbered));
  swept = swept_later all (number_of o) (number_of o + 1) left' reach' (omega arith) swept;
  merges = λ ms m.
      let one = pass_below o os front (g ∷ more) (g ∷ ms) cut.below (same e m) in
      let whole = s.merges (front ++ g ∷ ms) (subst (λ r. Merges (covers all) (o ∷ os) r (front ++ g ∷ ms))
      (sym cut.lines_are) one) in
      subst (Merges (covers all) old givens) (simp append_assoc) whole;
}

rises_above : (from n : ℕ) (back : Lines) → Rises from back → IfSome (slice_get back 0) (λ g. n ≤ number_of g)
    → IfSome (slice_get back 0) (λ g. number_of g ≡ n → ⊥) → Rises (n + 1) back
rises_above from n [] h not_below other = tt
rises_above from n (g ∷ gs) h not_below other = (omega (arith, not_below, other), h.1)

-- Nothing is given at the old record's number, and the merge goes on with `then` as the record stays or is deleted.
merging_past : (all : List Range) (old givens os rest merged : Lines) (o : List ℕ) (left : List Range) (reach : ℕ)
    → IsMerging all old givens (o ∷ os) rest merged left reach →
    (front back then : Lines) (left' : List Range) (reach' : ℕ) → IsSplitBelow (number_of o) rest front back
    → IfSome (slice_get back 0) (λ g. number_of g ≡ number_of o → ⊥) → IsSwept all (number_of o) left' reach'
    → (Rises (number_of o + 1) back → (ms : Lines) → Merges (covers all) os back ms
    → Merges (covers all) (o ∷ os) back (then ++ ms))
    → IsMerging all old givens os back ((merged ++ front) ++ then) left' reach'
merging_past all old givens os rest merged o left reach s front back then left' reach' cut other swept next =
    let above = rises_above s.from (number_of o) back (rises_behind s.from front back
    (subst (Rises s.from) cut.lines_are s.rest_rises)) cut.ends other in
    record {
      from = number_of o + 1;
      old_rises = s.old_rises.1;
      rest_rises = above;
      old_numbered = All-tail IsNumberedLine o os s.old_numbered;
      rest_numbered = all_behind front back (subst (All IsNumberedLine) cut.lines_are s.rest_numbered);
      swept = swept_later all (number_of o) (number_of o + 1) left' reach' (omega arith) swept;
      merges = λ ms m.
          let one = pass_below o os front back (then ++ ms) cut.below (next above ms m) in
          let whole = s.merges (front ++ (then ++ ms)) (subst (λ r. Merges (covers all) (o ∷ os) r (front ++ (then ++ ms)))
          (sym cut.lines_are) one) in
          subst (Merges (covers all) old givens) (simp append_assoc) whole;
    }

-- the old record stays
pub merging_kept : (all : List Range) (old givens os rest merged : Lines) (o : List ℕ) (left : List Range) (reach : ℕ)
    → IsMerging all old givens (o ∷ os) rest merged left reach →
    (front back : Lines) (left' : List Range) (reach' : ℕ) → IsSplitBelow (number_of o) rest front back
    → IfSome (slice_get back 0) (λ g. number_of g ≡ number_of o → ⊥) → IsSwept all (number_of o) left' reach' →
    covers all (number_of o) ≡ false → IsMerging all old givens os back ((merged ++ front) ++ o ∷ []) left' reach'
merging_kept all old givens os rest merged o left reach s front back left' reach' cut other swept keeps =
    merging_past all old givens os rest merged o left reach s front back (o ∷ []) left' reach' cut other swept
    (λ above ms m. stays above keeps m)

-- the old record is deleted
pub merging_gone : (all : List Range) (old givens os rest merged : Lines) (o : List ℕ) (left : List Range) (reach : ℕ)
    → IsMerging all old givens (o ∷ os) rest merged left reach →
    (front back : Lines) (left' : List Range) (reach' : ℕ) → IsSplitBelow (number_of o) rest front back
    → IfSome (slice_get back 0) (λ g. number_of g ≡ number_of o → ⊥) → IsSwept all (number_of o) left' reach' →
    covers all (number_of o) ≡ true → IsMerging all old givens os back (merged ++ front) left' reach'
merging_gone all old givens os rest merged o left reach s front back left' reach' cut other swept deletes =
    subst (λ l. IsMerging all old givens os back l left' reach') (append-nil (merged ++ front))
    (merging_past all old givens os rest merged o left reach s front back [] left' reach' cut other swept
    (λ above ms m. goes above deletes m))

-- the rest of the given records ends the merge
pub merging_end : (all : List Range) (old givens rest merged : Lines) (left : List Range) (reach : ℕ)
    → IsMerging all old givens [] rest merged left reach → Merges (covers all) old givens (merged ++ rest)
merging_end all old givens rest merged left reach s = s.merges rest ends

-- one old record of a list, at its place

merging_start : (all : List Range) (old givens rest merged : Lines) (left : List Range) (reach i : ℕ) (o : List ℕ)
    → i < length old → o ≡ get_or old i o → IsMerging all old givens (drop i old) rest merged left reach
    → IsMerging all old givens (o ∷ drop (i + 1) old) rest merged left reach
merging_start all old givens rest merged left reach i o inside at s =
    subst (λ l. IsMerging all old givens l rest merged left reach)
    (drop_more old i o inside ∙ ap (λ x. x ∷ drop (i + 1) old) (sym at)) s

pub swept_at_line : (all : List Range) (old givens rest merged : Lines) (left : List Range) (reach i n : ℕ) (o : List ℕ)
    → i < length old → o ≡ get_or old i o → n ≡ number_of o → IsMerging all old givens (drop i old) rest merged left
    reach → IsSwept all n left reach
swept_at_line all old givens rest merged left reach i n o inside at e s =
    subst (λ m. IsSwept all m left reach) (sym e) (swept_here all old givens (drop (i + 1) old) rest merged o left reach
    (merging_start all old givens rest merged left reach i o inside at s))

pub given_at : (all : List Range) (old givens rest merged : Lines) (left : List Range) (reach i n : ℕ) (o : List ℕ)
    → i < length old → o ≡ get_or old i o → n ≡ number_of o → IsMerging all old givens (drop i old) rest merged left
    reach →
    (front back : Lines) (g : List ℕ) (more : Lines) (left' : List Range) (reach' : ℕ) → IsSplitBelow n rest front back
    → StandsFirst n back g more → IsSwept all n left' reach' →
    IsMerging all old givens (drop (i + 1) old) more ((merged ++ front) ++ g ∷ []) left' reach'
given_at all old givens rest merged left reach i n o inside at e s front back g more left' reach' cut first swept =
    merging_given all old givens (drop (i + 1) old) rest merged o left reach
    (merging_start all old givens rest merged left reach i o inside at s) front g more left' reach'
    (subst (λ m. IsSplitBelow m rest front (g ∷ more)) e (subst (IsSplitBelow n rest front) first.lines_are cut))
    (first.number_is ∙ e) (subst (λ m. IsSwept all m left' reach') e swept)

pub kept_at : (all : List Range) (old givens rest merged : Lines) (left : List Range) (reach i n : ℕ) (o : List ℕ)
    → i < length old → o ≡ get_or old i o → n ≡ number_of o → IsMerging all old givens (drop i old) rest merged left
    reach →
    (front back more : Lines) (left' : List Range) (reach' : ℕ) → IsSplitBelow n rest front back
    → StandsNowhere n back more → IsSwept all n left' reach' → IfSome (slice_get left' 0) (λ r. n < r.low)
    → reach' ≤ n →
    IsMerging all old givens (drop (i + 1) old) more ((merged ++ front) ++ o ∷ []) left' reach'
kept_at all old givens rest merged left reach i n o inside at e s front back more left' reach' cut nowhere swept above
    past =
    let covered = covered_by_reach all n left' reach' swept above ∙ le-ltb n reach' past in
    subst (λ l. IsMerging all old givens (drop (i + 1) old) l ((merged ++ front) ++ o ∷ []) left' reach')
    (sym nowhere.lines_are)
    (merging_kept all old givens (drop (i + 1) old) rest merged o left reach
    (merging_start all old givens rest merged left reach i o inside at s) front back left' reach'
    (subst (λ m. IsSplitBelow m rest front back) e cut) (subst
    (λ m. IfSome (slice_get back 0) (λ g. number_of g ≡ m → ⊥)) e nowhere.other)
    (subst (λ m. IsSwept all m left' reach') e swept) (ap (covers all) (sym e) ∙ covered))

pub gone_at : (all : List Range) (old givens rest merged : Lines) (left : List Range) (reach i n : ℕ) (o : List ℕ)
    → i < length old → o ≡ get_or old i o → n ≡ number_of o → IsMerging all old givens (drop i old) rest merged left
    reach →
    (front back more : Lines) (left' : List Range) (reach' : ℕ) → IsSplitBelow n rest front back
    → StandsNowhere n back more → IsSwept all n left' reach' → IfSome (slice_get left' 0) (λ r. n < r.low)
    → n < reach' →
    IsMerging all old givens (drop (i + 1) old) more (merged ++ front) left' reach'
gone_at all old givens rest merged left reach i n o inside at e s front back more left' reach' cut nowhere swept above
    short =
    let covered = covered_by_reach all n left' reach' swept above ∙ lt-ltb n reach' short in
    subst (λ l. IsMerging all old givens (drop (i + 1) old) l (merged ++ front) left' reach') (sym nowhere.lines_are)
    (merging_gone all old givens (drop (i + 1) old) rest merged o left reach
    (merging_start all old givens rest merged left reach i o inside at s) front back left' reach'
    (subst (λ m. IsSplitBelow m rest front back) e cut) (subst
    (λ m. IfSome (slice_get back 0) (λ g. number_of g ≡ m → ⊥)) e nowhere.other)
    (subst (λ m. IsSwept all m left' reach') e swept) (ap (covers all) (sym e) ∙ covered))

-- all old records are merged
pub merged_all : (all : List Range) (old givens rest merged : Lines) (left : List Range) (reach i : ℕ) → length old ≤ i
    → IsMerging all old givens (drop i old) rest merged left reach → Merges (covers all) old givens (merged ++ rest)
merged_all all old givens rest merged left reach i past s =
    merging_end all old givens rest merged left reach (subst (λ l. IsMerging all old givens l rest merged left reach)
    (drop_all i old past) s)

-- the record that stands first, once it is known which
pub first_known : (n : ℕ) (lines more : Lines) (o : Option (Bor (List ℕ))) (x : Bor (List ℕ)) → o ≡ Some x
    → IfSome o (λ line. StandsFirst n lines line.now more) → StandsFirst n lines x.now more
first_known n lines more o x is h = subst (λ p. IfSome p (λ line. StandsFirst n lines line.now more)) is h

pub nowhere_known : (n : ℕ) (lines more : Lines) (o : Option (Bor (List ℕ))) → o ≡ None
    → IfNone o (StandsNowhere n lines more) → StandsNowhere n lines more
nowhere_known n lines more o is h = subst (λ p. IfNone p (StandsNowhere n lines more)) is h
