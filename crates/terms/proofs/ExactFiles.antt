-- The records of a file and their groups are determined, and so is the first fault of its records; no file has both.
use Rattle.std.specs.Prelude.{slice_index, All}
use Rattle.std.proofs.Common.{◌≡◌, ◌≤◌, ◌<◌, ◌+◌, ◌*◌, ◌/◌, ◌%◌, ℕ, true, false, not, List, [], ◌∷◌, ◌++◌, length, take}
use Rattle.std.proofs.Common.{refl, sym, ◌∙◌, ap, ap₂, subst, arith, length-append, length-take-le, inl, inr}
use Rattle.std.specs.List.{flat_map}
use Rattle.std.proofs.lemmas.Bool.{cases_order, true≢false, not-false}
use Rattle.std.proofs.lemmas.List.{get_or-take}
use Rattle.std.proofs.lemmas.List.Elements.{All-weaker, All-head, All-tail, All-append, All-nil}
use Rattle.terms.specs.Records.{IsPrintable, IsRecord, HasRecords, RecFault, ShortRecord, BadByte, IsRecFault}
use Rattle.terms.specs.Texts.{HasLines}
use Rattle.terms.specs.Groups.{begins_statement, starts_outside, IsGroup, Group, TakesGroup, HasGroups}
use Rattle.terms.proofs.Longest.{StartsWithout, longest_only}
use Rattle.terms.proofs.Texts.{same_lines}

has_lines : (bytes : List ℕ) (records : List (List ℕ)) → HasRecords bytes records → HasLines bytes records
has_lines bytes records h = record {
  bytes_are = h.bytes_are;
  each = All-weaker IsRecord (λ r. length r ≡ 80) (λ r p. p.0) records h.each;
}

-- A file has one list of records at most.
pub records_only : (bytes : List ℕ) (records others : List (List ℕ)) → HasRecords bytes records
    → HasRecords bytes others → records ≡ others
records_only bytes records others h g = same_lines bytes records others (has_lines bytes records h)
    (has_lines bytes others g)

whole_length : (records : List (List ℕ)) → All IsRecord records
    → length (flat_map (λ (r : List ℕ). r) records) ≡ 80 * length records
whole_length [] each = refl
whole_length (r ∷ rs) each =
    let first : length r ≡ 80 = (All-head IsRecord r rs each).0 in
    let more = whole_length rs (All-tail IsRecord r rs each) in
    omega (arith, first, more, length-append r (flat_map (λ (r : List ℕ). r) rs))

whole_printable : (records : List (List ℕ)) → All IsRecord records
    → All IsPrintable (flat_map (λ (r : List ℕ). r) records)
whole_printable [] each = All-nil IsPrintable
whole_printable (r ∷ rs) each =
    All-append IsPrintable r (flat_map (λ (r : List ℕ). r) rs) (All-head IsRecord r rs each).1
    (whole_printable rs (All-tail IsRecord r rs each))

-- No file has records and a fault of its records.
pub rec_fault_no_records : (bytes : List ℕ) (fault : RecFault) (records : List (List ℕ)) → IsRecFault bytes fault
    → HasRecords bytes records → ⊥
rec_fault_no_records bytes (ShortRecord n) records f h =
    let whole = ap length h.bytes_are ∙ whole_length records h.each in
    f.0 (omega (arith, whole))
rec_fault_no_records bytes (BadByte n column) records f h =
    let all = subst (All IsPrintable) (sym h.bytes_are) (whole_printable records h.each) in
    f.2 (all f.0 0 (omega (arith, f.1)))

-- a byte at a place before which all are printable
early : (bytes : List ℕ) (n i : ℕ) → All IsPrintable (take n bytes) → i < n → n ≤ length bytes
    → IsPrintable (slice_index bytes i)
early bytes n i all below within =
    let len = length-take-le n bytes within in
    subst IsPrintable (get_or-take n bytes i 0 below) (all i 0 (omega (arith, below, len)))

bad_only : (bytes : List ℕ) (i j end : ℕ) → end ≤ length bytes → i < end → j < end
    → (IsPrintable (slice_index bytes i) → ⊥) → (IsPrintable (slice_index bytes j) → ⊥) → All IsPrintable (take i bytes)
    → All IsPrintable (take j bytes) → i ≡ j
bad_only bytes i j end within i_in j_in bad bad' all all' =
    elim (cases_order i j) [
      | inl same ↦ same
      | inr (inl before) ↦ absurd (bad (early bytes j i all' before (omega (arith, j_in, within))))
      | inr (inr behind) ↦ absurd (bad' (early bytes i j all behind (omega (arith, i_in, within))))
    ]

-- The first fault of a file's records is determined.
pub rec_fault_only : (bytes : List ℕ) (fault other : RecFault) → IsRecFault bytes fault → IsRecFault bytes other
    → fault ≡ other
rec_fault_only bytes (ShortRecord n) (ShortRecord m) f g = ap ShortRecord (f.2 ∙ sym g.2)
rec_fault_only bytes (ShortRecord n) (BadByte m column) f g = absurd (g.2
    (early bytes (length bytes / 80 * 80) g.0 f.1 g.1 (omega arith)))
rec_fault_only bytes (BadByte n column) (ShortRecord m) f g = absurd (f.2
    (early bytes (length bytes / 80 * 80) f.0 g.1 f.1 (omega arith)))
rec_fault_only bytes (BadByte n column) (BadByte m column') f g =
    let same : f.0 ≡ g.0 = bad_only bytes f.0 g.0 (length bytes / 80 * 80) (omega arith) f.1 g.1 f.2 g.2 f.3 g.3 in
    ap₂ BadByte (f.4 ∙ ap (λ i. i / 80 + 1) same ∙ sym g.4) (f.5 ∙ ap (λ i. i % 80 + 1) same ∙ sym g.5)

abbrev IsLater : List ℕ → Type 0
IsLater r = begins_statement r ≡ false

starts_without : (records : List (List ℕ)) → starts_outside records ≡ false → StartsWithout IsLater records
starts_without [] starts = tt
starts_without (r ∷ rs) starts = λ later. true≢false (sym (not-false (begins_statement r) starts) ∙ later)

cut_only : (front back front' back' : List (List ℕ)) → front ++ back ≡ front' ++ back' → IsGroup front → IsGroup front'
    → starts_outside back ≡ false → starts_outside back' ≡ false → (front ≡ front') × (back ≡ back')
cut_only [] back front' back' e g g' starts starts' = absurd g
cut_only (r ∷ front) back [] back' e g g' starts starts' = absurd g'
cut_only (r ∷ front) back (r' ∷ front') back' e g g' starts starts' =
    let more = longest_only IsLater front back front' back' (cc (e)) g.1 (starts_without back starts) g'.1
    (starts_without back' starts') in
    let same : r ≡ r' = cc (e) in
    (cc (same, more.0), more.1)

-- The first group is determined, and so is what follows it.
pub group_only : (n m m' : ℕ) (records rest rest' : List (List ℕ)) (g g' : Group) → TakesGroup n records g m rest
    → TakesGroup n records g' m' rest' → (g ≡ g') × (m ≡ m') × (rest ≡ rest')
group_only n m m' records rest rest' g g' t u =
    let cut = cut_only g.records rest g'.records rest' (sym t.records_are ∙ u.records_are) t.is_group u.is_group
    t.rest_starts u.rest_starts in
    let number : g.number ≡ g'.number = t.number_is ∙ sym u.number_is in (
      ap₂ (λ (a : ℕ) (b : List (List ℕ)). record { number = a; records = b }) number cut.0,
      t.next_is ∙ ap (λ (l : List (List ℕ)). n + length l) cut.0 ∙ sym u.next_is,
      cut.1,
    )

empty_group : (front rest : List (List ℕ)) → [] ≡ front ++ rest → IsGroup front → ⊥
empty_group [] rest e g = g
empty_group (r ∷ front) rest e g = cc (e)

pub no_group : (n m : ℕ) (rest : List (List ℕ)) (g : Group) → TakesGroup n [] g m rest → ⊥
no_group n m rest g t = empty_group g.records rest t.records_are t.is_group

-- Records are one list of groups at most.
pub groups_only : (n : ℕ) (records : List (List ℕ)) (gs gs' : List Group) → HasGroups n records gs
    → HasGroups n records gs' → gs ≡ gs'
groups_only n records [] [] h k = refl
groups_only n records [] (g ∷ gs') h k = absurd (no_group n k.0 k.1 g (subst (λ rs. TakesGroup n rs g k.0 k.1) h k.2))
groups_only n records (g ∷ gs) [] h k = absurd (no_group n h.0 h.1 g (subst (λ rs. TakesGroup n rs g h.0 h.1) k h.2))
groups_only n records (g ∷ gs) (g' ∷ gs') h k =
    let first = group_only n h.0 k.0 records h.1 k.1 g g' h.2 k.2 in
    let rest = subst (λ m. HasGroups m k.1 gs') (sym first.1) k.3 in
    let more = groups_only h.0 h.1 gs gs' h.3 (subst (λ rs. HasGroups h.0 rs gs') (sym first.2) rest) in
    cc (first.0, more)

first_inside : (front rest : List (List ℕ)) → starts_outside (front ++ rest) ≡ true → IsGroup front → ⊥
first_inside [] rest out g = g
first_inside (r ∷ front) rest out g = true≢false (sym out ∙ ap not g.0)

-- Records whose first begins no statement are no groups.
pub outside_no_groups : (n : ℕ) (records : List (List ℕ)) (gs : List Group) → starts_outside records ≡ true
    → HasGroups n records gs → ⊥
outside_no_groups n records [] out h = true≢false (sym out ∙ ap starts_outside h)
outside_no_groups n records (g ∷ gs) out h = first_inside g.records h.1
    (subst (λ rs. starts_outside rs ≡ true) h.2.records_are out) h.2.is_group

group_inside : (front rest : List (List ℕ)) → IsGroup front → starts_outside (front ++ rest) ≡ false
group_inside [] rest g = absurd g
group_inside (r ∷ front) rest g = ap not g.0

-- Records that begin with a group begin no other way.
pub begins_inside : (n m : ℕ) (records rest : List (List ℕ)) (g : Group) → TakesGroup n records g m rest
    → starts_outside records ≡ false
begins_inside n m records rest g t = ap starts_outside t.records_are ∙ group_inside g.records rest t.is_group
