-- Splitting the records behind a CHANGE record into what they give and what they delete.
use Rattle.std.proofs.Common.{◌≡◌, ◌<◌, ◌≤◌, ◌+◌, ℕ, Bool, true, false, not, List, [], ◌∷◌, ◌++◌, length, take, drop}
use Rattle.std.proofs.Common.{get_or, sym, ◌∙◌, ap, subst, arith, inl, inr}
use Rattle.std.specs.Prelude.{IsTrue, nat_le, ◌&&◌}
use Rattle.std.specs.List.{All, list_any}
use Rattle.std.specs.List.Sorted.{IsPermutation, IsNonDecreasingBy}
use Rattle.std.proofs.lemmas.Bool.{both_ways, and_parts, and_from, or_cases, or_left, or_right, leb-true}
use Rattle.std.proofs.lemmas.Bool.{le-leb}
use Rattle.std.proofs.lemmas.List.{append-nil, take_more, length-take-le, take_all}
use Rattle.std.proofs.lemmas.List.Elements.{All-push, filter-append}
use Rattle.std.proofs.lemmas.List.Folds.{list_any-append}
use Rattle.std.proofs.lemmas.List.Quantifiers.{Any-push}
use Rattle.std.proofs.lemmas.List.Sorted.{list_any-IsPermutation}
use Rattle.terms.specs.declared.text_faults.TextCode.{TextCode}
use Rattle.terms.specs.declared.text_faults.TextCode.TheVariants.{BadDelete, UpdateOutOfOrder}
use Rattle.terms.specs.declared.text_faults.TextFault.{TextFault}
use Rattle.terms.specs.Types.{Text, Lines}
use Rattle.terms.specs.Texts.{IsNumbered, IsNumberedLine, number_of, is_control, IsDelete, IsSomeDelete, given, Deletes}
use Rattle.terms.specs.Texts.{FollowChange, IsUpdate, HasRestFault, IsFirstFault}
use Rattle.terms.proofs.Controls.{begins_control, same_delete}
use Rattle.terms.proofs.Updates.{given_control, given_other, deletes_change}
use Rattle.terms.proofs.Each.{any_later, Any_append_left, Any_push_cases}
use Rattle.text80.specs.declared.control.Range.{Range}
use Rattle.text80.specs.Rising.{IsNumberFault}
use Rattle.text80.specs.Ranges.{covers, AreRangesOf}
use Rattle.text80.specs.Updates.{StandsBefore, AreGood, IsSound}
use Rattle.text80.proofs.Reading.{IsRead, read_more, split_at_place, breaks}

abbrev Hits : ℕ → List ℕ → Type 0
Hits n line = (low high : ℕ) × IsDelete low high line × (low ≤ n) × (n ≤ high)

abbrev holds_number : ℕ → Range → Bool
holds_number n r = nat_le r.low n && nat_le n r.high

-- These records delete these ranges, and the next number has to be `least` or higher.
pub record IsSplit (seen : Lines) (ranges : List Range) (least : ℕ) : Type 0 where
  pub controls : All (λ line. IsTrue (is_control line) → IsSomeDelete line) seen
  pub read : IsRead (given seen) least
  pub ranges_are : AreRangesOf seen ranges

ranges_push : (seen : Lines) (line : List ℕ) (ranges : List Range) (r : Range) → IsDelete r.low r.high line
    → AreRangesOf seen ranges → AreRangesOf (seen ++ line ∷ []) (ranges ++ r ∷ [])
ranges_push seen line ranges r d h n =
    let parts = list_any-append (holds_number n) ranges (r ∷ []) in (
      λ e. elim (or_cases (covers ranges n) (list_any (holds_number n) (r ∷ [])) (sym parts ∙ e)) [
        | inl before ↦ Any_append_left (Hits n) seen (line ∷ []) ((h n).0 before)
        | inr here ↦ elim (or_cases (holds_number n r) false here) [
          | inl holds ↦
              let p = and_parts (nat_le r.low n) (nat_le n r.high) holds in
              Any-push (Hits n) seen line (r.low, r.high, d, leb-true r.low n p.0, leb-true n r.high p.1)
          | inr none ↦ absurd (cc none)
        ]
      ],
      λ a. parts ∙ elim (Any_push_cases (Hits n) seen line a) [
        | inl before ↦ or_left (covers ranges n) (list_any (holds_number n) (r ∷ [])) ((h n).1 before)
        | inr hit ↦
            let same = same_delete line hit.0 hit.1 r.low r.high hit.2 d in
            let from = hit.3 in
            let to = hit.4 in
            or_right (covers ranges n) (list_any (holds_number n) (r ∷ []))
            (or_left (holds_number n r) false
            (and_from (nat_le r.low n) (nat_le n r.high) (le-leb r.low n (omega (arith, same.0, from)))
            (le-leb n r.high (omega (arith, same.1, to)))))
      ],
    )

given_push : (seen : Lines) (line : List ℕ) → given (seen ++ line ∷ []) ≡ given seen ++ given (line ∷ [])
given_push seen line = filter-append (λ l. not (is_control l)) seen (line ∷ [])

pub split_control : (seen : Lines) (ranges : List Range) (least : ℕ) (line : List ℕ) (r : Range)
    → IsSplit seen ranges least → is_control line ≡ true → IsDelete r.low r.high line
    → IsSplit (seen ++ line ∷ []) (ranges ++ r ∷ []) least
split_control seen ranges least line r h yes' d = record {
  controls = All-push (λ l. IsTrue (is_control l) → IsSomeDelete l) seen line h.controls (λ _. (r.low, r.high, d));
  read = subst (λ g. IsRead g least) (sym (given_push seen line ∙ ap (λ l. given seen ++ l) (given_control line [] yes')
      ∙ append-nil (given seen))) h.read;
  ranges_are = ranges_push seen line ranges r d h.ranges_are;
}

ranges_other : (seen : Lines) (line : List ℕ) (ranges : List Range) → is_control line ≡ false → AreRangesOf seen ranges
    → AreRangesOf (seen ++ line ∷ []) ranges
ranges_other seen line ranges no' h n = (
  λ e. Any_append_left (Hits n) seen (line ∷ []) ((h n).0 e),
  λ a. elim (Any_push_cases (Hits n) seen line a) [
    | inl before ↦ (h n).1 before
    | inr hit ↦ absurd (both_ways (is_control line) no' (begins_control _ _ line hit.2.1))
  ],
)

pub split_given : (seen : Lines) (ranges : List Range) (least n : ℕ) (line : List ℕ)
    → IsSplit seen ranges least → is_control line ≡ false → IsNumberedLine line → n ≡ number_of line → least ≤ n
    → IsSplit (seen ++ line ∷ []) ranges (n + 1)
split_given seen ranges least n line h no' numbered is from = record {
  controls = All-push (λ l. IsTrue (is_control l) → IsSomeDelete l) seen line h.controls
      (λ e. absurd (both_ways (is_control line) no' e));
  read = subst (λ g. IsRead g (n + 1))
      (sym (given_push seen line ∙ ap (λ l. given seen ++ l) (given_other line [] no')))
      (subst (λ m. IsRead (given seen ++ line ∷ []) (m + 1)) (sym is)
      (read_more (given seen) least line h.read numbered (subst (λ m. least ≤ m) is from)));
  ranges_are = ranges_other seen line ranges no' h.ranges_are;
}

-- one more record of a list, at its place

pub split_control_at : (lines : Lines) (ranges new : List Range) (least i : ℕ) (line : List ℕ) (r : Range)
    → i < length lines → line ≡ get_or lines i line → IsSplit (take i lines) ranges least
    → is_control line ≡ true → IsDelete r.low r.high line → new ≡ ranges ++ r ∷ []
    → IsSplit (take (i + 1) lines) new least
split_control_at lines ranges new least i line r below at h yes' d e =
    rw (take_more lines i line below, ← at, e) (split_control (take i lines) ranges least line r h yes' d)

pub split_given_at : (lines : Lines) (ranges : List Range) (least i n : ℕ) (line : List ℕ) → i < length lines
    → line ≡ get_or lines i line → IsSplit (take i lines) ranges least → is_control line ≡ false
    → IsNumberedLine line → n ≡ number_of line → least ≤ n → IsSplit (take (i + 1) lines) ranges (n + 1)
split_given_at lines ranges least i n line below at h no' numbered is from =
    rw (take_more lines i line below, ← at) (split_given (take i lines) ranges least n line h no' numbered is from)

pub follow : (lines : Lines) (ranges : List Range) (least : ℕ) → IsSplit lines ranges least → FollowChange lines
follow lines ranges least h = record { controls = h.controls; numbered = h.read.numbered }

-- all records are split, and the ranges sorted
pub good_from : (lines : Lines) (ranges sorted : List Range) (least i : ℕ) → IsSplit (take i lines) ranges least
    → length lines ≤ i → IsPermutation ranges sorted → IsNonDecreasingBy (λ r. r.low) sorted → AreGood lines sorted
good_from lines ranges sorted least i h all moved rising =
    let whole = subst (λ l. IsSplit l ranges least) (take_all i lines all) h in
    record {
      follow = follow lines ranges least whole;
      rising = rising;
      ranges_are = λ n.
          let same = list_any-IsPermutation (holds_number n) ranges sorted moved in
          (λ e. (whole.ranges_are n).0 (same ∙ e), λ a. sym same ∙ (whole.ranges_are n).1 a);
    }

rest_code : (seen : Lines) (ranges : List Range) (least : ℕ) (line : List ℕ) (code : TextCode)
    → IsSplit seen ranges least → is_control line ≡ false → IsNumberFault line least UpdateOutOfOrder code
    → HasRestFault seen line code
rest_code seen ranges least line code h no' f =
    let other : IsTrue (is_control line) → ⊥ = λ e. both_ways (is_control line) no' e in
    elim f [
      | inl none ↦ subst (HasRestFault seen line) (sym none.0) (other, none.1)
      | inr low ↦ subst (HasRestFault seen line) (sym low.0)
          (other, breaks (given seen) least line h.read low.1 low.2)
    ]

first_fault : (lines : Lines) (ranges : List Range) (least i : ℕ) (line : List ℕ) (fault : TextFault)
    → i < length lines → line ≡ get_or lines i line → IsSplit (take i lines) ranges least → fault.number ≡ i + 2
    → HasRestFault (take i lines) line fault.code → IsFirstFault FollowChange HasRestFault 1 lines fault
first_fault lines ranges least i line fault below at h number code = record {
  before = take i lines;
  line = line;
  after = drop (i + 1) lines;
  lines_are = split_at_place lines i line below at;
  good = follow (take i lines) ranges least h;
  number_is = let len = length-take-le i lines (omega arith) in omega (arith, number, len);
  code_is = code;
}

-- a `./` record that is no DELETE record
pub control_fault : (lines : Lines) (ranges : List Range) (least i : ℕ) (line : List ℕ) (fault : TextFault)
    → i < length lines → line ≡ get_or lines i line → IsSplit (take i lines) ranges least → fault.number ≡ i + 2
    → fault.code ≡ BadDelete → is_control line ≡ true → (IsSomeDelete line → ⊥)
    → IsFirstFault FollowChange HasRestFault 1 lines fault
control_fault lines ranges least i line fault below at h number code yes' none =
    first_fault lines ranges least i line fault below at h number
    (subst (HasRestFault (take i lines) line) (sym code) (yes', none))

-- a record without a number that rises
pub number_fault : (lines : Lines) (ranges : List Range) (least i : ℕ) (line : List ℕ) (fault : TextFault)
    → i < length lines → line ≡ get_or lines i line → IsSplit (take i lines) ranges least → fault.number ≡ i + 2
    → is_control line ≡ false → IsNumberFault line least UpdateOutOfOrder fault.code
    → IsFirstFault FollowChange HasRestFault 1 lines fault
number_fault lines ranges least i line fault below at h number no' f =
    first_fault lines ranges least i line fault below at h number
    (rest_code (take i lines) ranges least line fault.code h no' f)

-- a CHANGE record before good records

pub update_from : (name : Text) (records rest : Lines) (ranges : List Range) → StandsBefore name records rest
    → AreGood rest ranges → IsUpdate name records
update_from name records rest ranges s p = subst (IsUpdate name) (sym s.records_are) (s.change, p.follow)

pub sound_from : (name : Text) (records rest : Lines) (ranges : List Range) → StandsBefore name records rest
    → AreGood rest ranges → IsSound records ranges
sound_from name records rest ranges s p = record {
  name = name;
  update = update_from name records rest ranges s p;
  rising = p.rising;
  ranges_are = λ n. (
    λ e. subst (λ r. Deletes r n) (sym s.records_are) (any_later (Hits n) s.first rest ((p.ranges_are n).0 e)),
    λ a. (p.ranges_are n).1 (deletes_change name n s.first rest s.change (subst (λ r. Deletes r n) s.records_are a)),
  );
}

pub given_numbered : (name : Text) (records : Lines) → IsUpdate name records → IsNumbered (given records)
given_numbered name [] h = absurd h
given_numbered name (line ∷ lines) h =
    subst IsNumbered (sym (given_control line lines (begins_control _ _ line h.0))) h.1.numbered
