-- Entries as their rows have them, and the numbers that other rows give them.
use Rattle.std.proofs.Common.{◌≡◌, ◌≢◌, ◌⊎◌, inl, inr, List, [], ◌∷◌, ◌++◌, map, Bool, true, false, Option, None, Some}
use Rattle.std.proofs.Common.{IfSome, IsTrue, arith, refl, sym, ap, ap₂, subst, ◌∙◌, append_assoc}
use Rattle.std.specs.Prelude.{◌&&◌, AllPairs, is_some}
use Rattle.std.specs.List.{AllByRecursion, flat_map}
use Rattle.std.specs.Ordering.{nat_cmp}
use Rattle.std.specs.Str.{bytes_eq}
use Rattle.std.specs.Cmp.Lexicographic.{slice_cmp}
use Rattle.std.proofs.lemmas.Bool.{and_parts}
use Rattle.std.proofs.lemmas.Bool.Decides.{eqb_tells}
use Rattle.std.proofs.lemmas.List.{map-append}
use Rattle.std.proofs.lemmas.List.Elements.{All-from_recursion}
use Rattle.std.proofs.lemmas.List.Kept.{AllPairs-cons}
use Rattle.terms.proofs.Each.{recursion_append}
use Rattle.terms.proofs.Pairs.{AllPairs_first, AllPairs_rest, pairs_map, pairs_unmap}
use Rattle.terms.proofs.TextOrder.{same_from, same_itself, other_text}
use Rattle.terms.specs.Lookups.{is_before}
use Rattle.terms.specs.Rising.{Rises}
use Rattle.terms.specs.Types.{Text, Id, an_applied, Applied, Entry}
use Rattle.store_schema.specs.Rows.{entry_row, chosen_in}
use Rattle.store_schema.proofs.WrittenLists.{all_by}
use Rattle.store_schema.proofs.Spelled.{not_before_same}
use Rattle.store_zones.specs.declared.installed_vers.EntryNumber.{EntryNumber}
use Rattle.store_zones.specs.Numbered.{renumbered, as_first, number_in, numbers_of, is_number_of, with_first}
use Rattle.store_zones.specs.Numbered.{behind_first, numbered, left_over}
use Rattle.store_zones.specs.Chosen.{number_row}
use Rattle.store_zones.specs.Entries.{IsFirst}

abbrev pub RiseById : List Entry → Type 0
RiseById = Rises (slice_cmp nat_cmp) (λ (e : Entry). e.id)

-- ---- rows

-- the row of an entry does not have its number
first_row : (name : Text) (e : Entry) → entry_row name (as_first e) ≡ entry_row name e
first_row name e = by e.applied
  where
    by : (a : Option Applied)
        → entry_row name (as_first (record e { applied = a })) ≡ entry_row name (record e { applied = a })
    by None = refl
    by (Some a) = refl

pub first_rows : (name : Text) (es : List Entry) → map (entry_row name) (map as_first es) ≡ map (entry_row name) es
first_rows name [] = refl
first_rows name (e ∷ es) = ap₂ ◌∷◌ (first_row name e) (first_rows name es)

-- the row of another table does
rows_in : (name : Text) (e : Entry) → chosen_in name e ≡ map (number_row name) (number_in e)
rows_in name e = by e.applied
  where
    by : (a : Option Applied) → chosen_in name (record e { applied = a })
        ≡ map (number_row name) (number_in (record e { applied = a }))
    by None = refl
    by (Some a) = elim (eqb_tells a.number 1) [
      | inl same ↦ rw same.0 refl
      | inr other ↦ rw other.0 refl
    ]

pub number_rows : (name : Text) (es : List Entry) → flat_map (chosen_in name) es ≡ map (number_row name) (numbers_of es)
number_rows name [] = refl
number_rows name (e ∷ es) =
    ap₂ ◌++◌ (rows_in name e) (number_rows name es) ∙ sym (map-append (number_row name) (number_in e) (numbers_of es))

-- ---- the number of an entry

pub first_or_number : (e : Entry) → IsFirst e ⊎ ((a : Applied) × (e.applied ≡ Some a) × (a.number ≢ 1))
first_or_number e = by e.applied refl
  where
    by : (o : Option Applied) → e.applied ≡ o
        → IfSome o (λ a. a.number ≡ 1) ⊎ ((a : Applied) × (e.applied ≡ Some a) × (a.number ≢ 1))
    by None is = inl tt
    by (Some a) is = elim (eqb_tells a.number 1) [
      | inl same ↦ inl same.1
      | inr other ↦ inr (a, is, other.1)
    ]

no_number : (e : Entry) → IsFirst e → number_in e ≡ []
no_number e = by e.applied
  where
    by : (a : Option Applied) → IfSome a (λ v. v.number ≡ 1) → number_in (record e { applied = a }) ≡ []
    by None first = refl
    by (Some a) first = rw first refl

pub one_number : (e : Entry) (a : Applied) → e.applied ≡ Some a → a.number ≢ 1
    → number_in e ≡ record { id = e.id; number = a.number } ∷ []
one_number e a is apart = rw is (elim (eqb_tells a.number 1) [
  | inl same ↦ absurd (apart same.1)
  | inr other ↦ rw other.0 refl
])

first_is : (e : Entry) → IsFirst e → as_first e ≡ e
first_is e = by e.applied
  where
    by : (a : Option Applied) → IfSome a (λ v. v.number ≡ 1)
        → as_first (record e { applied = a }) ≡ record e { applied = a }
    by None first = refl
    by (Some a) first = ap (λ n. record e { applied = Some (an_applied a.date n) }) (sym first)

-- one number after the other
twice_numbered : (e : Entry) (n : EntryNumber) → as_first (renumbered e n.number) ≡ as_first e
twice_numbered e n = by e.applied
  where
    by : (a : Option Applied) → as_first (renumbered (record e { applied = a }) n.number)
        ≡ as_first (record e { applied = a })
    by None = refl
    by (Some a) = refl

renumbered_is : (e : Entry) (a : Applied) → e.applied ≡ Some a → renumbered (as_first e) a.number ≡ e
renumbered_is e a is = rw is refl

pub each_number : (P : EntryNumber → Type 0) (e : Entry)
    → ((a : Applied) → e.applied ≡ Some a → a.number ≢ 1 → P (record { id = e.id; number = a.number }))
    → AllByRecursion P (number_in e)
each_number P e f = elim (first_or_number e) [
  | inl first ↦ rw (no_number e first) tt
  | inr other ↦ rw (one_number e other.0 other.1 other.2) (f other.0 other.1 other.2, tt)
]

-- ---- all of them

pub no_numbers : (es : List Entry) → AllByRecursion IsFirst es → numbers_of es ≡ []
no_numbers [] h = refl
no_numbers (e ∷ es) h = ap₂ ◌++◌ (no_number e h.0) (no_numbers es h.1)

pub firsts_are : (es : List Entry) → AllByRecursion IsFirst es → map as_first es ≡ es
firsts_are [] h = refl
firsts_are (e ∷ es) h = ap₂ ◌∷◌ (first_is e h.0) (firsts_are es h.1)

-- where there is no number, each is the first
pub all_first : (es : List Entry) → numbers_of es ≡ [] → AllByRecursion IsFirst es
all_first [] none = tt
all_first (e ∷ es) none = elim (first_or_number e) [
  | inl first ↦ (first, all_first es (sym (ap (λ xs. xs ++ numbers_of es) (no_number e first)) ∙ none))
  | inr other ↦
      absurd (let it = sym (ap (λ xs. xs ++ numbers_of es) (one_number e other.0 other.1 other.2)) ∙ none in cc)
]

-- numbers that are over an id are those of entries that are
numbers_over : (x : Id) (es : List Entry) → AllByRecursion (λ e. IsTrue (is_before x e.id)) es
    → AllByRecursion (λ n. IsTrue (is_before x n.id)) (numbers_of es)
numbers_over x [] h = tt
numbers_over x (e ∷ es) h =
    recursion_append (λ (n : EntryNumber). IsTrue (is_before x n.id)) (number_in e) (numbers_of es)
    (each_number (λ n. IsTrue (is_before x n.id)) e (λ a is apart. h.0)) (numbers_over x es h.1)

above : (e : Entry) (es : List Entry) → RiseById (e ∷ es) → AllByRecursion (λ x. IsTrue (is_before e.id x.id)) es
above e es rise = all_by (λ (x : Entry). IsTrue (is_before e.id x.id)) es
    (AllPairs_first (λ (x y : Entry). IsTrue (is_before x.id y.id)) e es rise)

below : (e : Entry) (es : List Entry) → RiseById (e ∷ es) → RiseById es
below e es rise = AllPairs_rest (λ (x y : Entry). IsTrue (is_before x.id y.id)) e es rise

pub numbers_rise : (es : List Entry) → RiseById es
    → Rises (slice_cmp nat_cmp) (λ (n : EntryNumber). n.id) (numbers_of es)
numbers_rise [] rise = λ i j d less within. absurd (omega (arith, within))
numbers_rise (e ∷ es) rise = elim (first_or_number e) [
  | inl first ↦ rw (no_number e first) (numbers_rise es (below e es rise))
  | inr other ↦
      rw (one_number e other.0 other.1 other.2)
      (AllPairs-cons (λ (n m : EntryNumber). IsTrue (is_before n.id m.id)) _ (numbers_of es)
      (All-from_recursion (λ (m : EntryNumber). IsTrue (is_before e.id m.id)) (numbers_of es)
      (numbers_over e.id es (above e es rise))) (numbers_rise es (below e es rise)))
]

pub firsts_rise : (es : List Entry) → RiseById es → RiseById (map as_first es)
firsts_rise = pairs_map (λ (x y : Entry). IsTrue (is_before x.id y.id)) (λ (x y : Entry). IsTrue (is_before x.id y.id))
    as_first (λ x y low. low)

pub all_rise : (es : List Entry) → RiseById (map as_first es) → RiseById es
all_rise = pairs_unmap (λ (x y : Entry). IsTrue (is_before x.id y.id))
    (λ (x y : Entry). IsTrue (is_before x.id y.id)) as_first (λ x y low. low)

-- ---- numbers that are given to entries

given : (e : Entry) (n : EntryNumber) → is_number_of e n ≡ true → n.number ≢ 1
    → number_in (renumbered e n.number) ≡ n ∷ []
given e n is apart = by e.applied (and_parts (is_some e.applied) (bytes_eq n.id e.id) is).0
  where
    same : n.id ≡ e.id
    same = same_from n.id e.id (and_parts (is_some e.applied) (bytes_eq n.id e.id) is).1

    by : (a : Option Applied) → is_some a ≡ true
        → number_in (renumbered (record e { applied = a }) n.number) ≡ n ∷ []
    by None there = absurd cc
    by (Some a) there = elim (eqb_tells n.number 1) [
      | inl one ↦ absurd (apart one.1)
      | inr other ↦ rw other.0 (ap (λ x. record { id = x; number = n.number } ∷ []) (sym same))
    ]

record IsGiven (e : Entry) (ns : List EntryNumber) : Type 0 where
  entry : as_first (with_first e ns) ≡ e
  numbers : number_in (with_first e ns) ++ behind_first e ns ≡ ns

one_given : (e : Entry) (ns : List EntryNumber) → IsFirst e → AllByRecursion (λ n. n.number ≢ 1) ns → IsGiven e ns
one_given e [] first apart = record {
  entry = first_is e first;
  numbers = ap (λ xs. xs ++ []) (no_number e first);
}
one_given e (n ∷ ns) first apart = by (is_number_of e n) refl
  where
    by : (b : Bool) → is_number_of e n ≡ b → IsGiven e (n ∷ ns)
    by true is = record {
      entry = rw is (twice_numbered e n ∙ first_is e first);
      numbers = rw is (ap (λ xs. xs ++ ns) (given e n is apart.0));
    }
    by false is = record {
      entry = rw is (first_is e first);
      numbers = rw is (ap (λ xs. xs ++ n ∷ ns) (no_number e first));
    }

behind_all : (P : EntryNumber → Type 0) (e : Entry) (ns : List EntryNumber) → AllByRecursion P ns
    → AllByRecursion P (behind_first e ns)
behind_all P e [] h = tt
behind_all P e (n ∷ ns) h = by (is_number_of e n) refl
  where
    by : (b : Bool) → is_number_of e n ≡ b → AllByRecursion P (behind_first e (n ∷ ns))
    by true is = rw is h.1
    by false is = rw is h

-- they have them then, and what is left over is no entry's
pub all_given : (es : List Entry) (ns : List EntryNumber) → AllByRecursion IsFirst es
    → AllByRecursion (λ n. n.number ≢ 1) ns
    → (map as_first (numbered es ns) ≡ es) × (numbers_of (numbered es ns) ++ left_over es ns ≡ ns)
all_given [] ns firsts apart = (refl, refl)
all_given (e ∷ es) ns firsts apart =
    let one = one_given e ns firsts.0 apart in
    let rest = behind_first e ns in
    let more = all_given es rest firsts.1 (behind_all (λ n. n.number ≢ 1) e ns apart) in (
      ap₂ ◌∷◌ one.entry more.0,
      append_assoc (number_in (with_first e ns)) (numbers_of (numbered es rest)) (left_over es rest)
          ∙ (ap (λ xs. number_in (with_first e ns) ++ xs) more.1 ∙ one.numbers),
    )

-- ---- numbers that entries have

-- those of later ones are not its own
not_begun : (e : Entry) (ns : List EntryNumber) → AllByRecursion (λ n. IsTrue (is_before e.id n.id)) ns
    → (with_first e ns ≡ e) × (behind_first e ns ≡ ns)
not_begun e [] h = (refl, refl)
not_begun e (n ∷ ns) h =
    let other : bytes_eq n.id e.id ≡ false =
    other_text n.id e.id (λ same. not_before_same e.id n.id (sym same) h.0) in
    let never : is_number_of e n ≡ false = and_false (is_some e.applied) (bytes_eq n.id e.id) other in
    (rw never refl, rw never refl)
  where
    and_false : (a b : Bool) → b ≡ false → (a && b) ≡ false
    and_false true b is = is
    and_false false b is = refl

record IsTaken (e : Entry) (es : List Entry) : Type 0 where
  entry : with_first (as_first e) (numbers_of (e ∷ es)) ≡ e
  numbers : behind_first (as_first e) (numbers_of (e ∷ es)) ≡ numbers_of es

one_taken : (e : Entry) (es : List Entry) → AllByRecursion (λ x. IsTrue (is_before e.id x.id)) es → IsTaken e es
one_taken e es over = elim (first_or_number e) [
  | inl first ↦
      let none : numbers_of (e ∷ es) ≡ numbers_of es = ap (λ xs. xs ++ numbers_of es) (no_number e first) in
      let kept = not_begun e (numbers_of es) (numbers_over e.id es over) in
      record {
        entry = rw (none, first_is e first) kept.0;
        numbers = rw (none, first_is e first) kept.1;
      }
  | inr other ↦
      let n : EntryNumber = record { id = e.id; number = other.0.number } in
      let all : numbers_of (e ∷ es) ≡ n ∷ numbers_of es =
      ap (λ xs. xs ++ numbers_of es) (one_number e other.0 other.1 other.2) in
      let own : is_number_of (as_first e) n ≡ true = rw (other.1, same_itself e.id) refl in
      record {
        entry = ap (with_first (as_first e)) all ∙ rw own (renumbered_is e other.0 other.1);
        numbers = ap (behind_first (as_first e)) all ∙ rw own refl;
      }
]

pub all_taken : (es : List Entry) → RiseById es
    → (numbered (map as_first es) (numbers_of es) ≡ es) × (left_over (map as_first es) (numbers_of es) ≡ [])
all_taken [] rise = (refl, refl)
all_taken (e ∷ es) rise =
    let one = one_taken e es (above e es rise) in
    let more = all_taken es (below e es rise) in (
      ap₂ ◌∷◌ one.entry (ap (numbered (map as_first es)) one.numbers ∙ more.0),
      ap (left_over (map as_first es)) one.numbers ∙ more.1,
    )

-- ---- ids, and no numbers

same_id : (e : Entry) (ns : List EntryNumber) → (with_first e ns).id ≡ e.id
same_id e [] = refl
same_id e (n ∷ ns) = by (is_number_of e n) refl
  where
    by : (b : Bool) → is_number_of e n ≡ b → (with_first e (n ∷ ns)).id ≡ e.id
    by true is = rw is refl
    by false is = rw is refl

same_ids : (es : List Entry) (ns : List EntryNumber) → map (λ e. e.id) (numbered es ns) ≡ map (λ e. e.id) es
same_ids [] ns = refl
same_ids (e ∷ es) ns = ap₂ ◌∷◌ (same_id e ns) (same_ids es (behind_first e ns))

pub numbered_rise : (es : List Entry) (ns : List EntryNumber) → RiseById es → RiseById (numbered es ns)
numbered_rise es ns rise =
    let Low : Id → Id → Type 0 = λ x y. IsTrue (is_before x y) in
    let ById : Entry → Entry → Type 0 = λ x y. IsTrue (is_before x.id y.id) in
    pairs_unmap ById Low (λ e. e.id) (λ x y low. low) (numbered es ns)
    (subst (AllPairs Low) (sym (same_ids es ns)) (pairs_map ById Low (λ e. e.id) (λ x y low. low) es rise))

-- a list that is these rises
pub all_rising : (es : List Entry) (ns : List EntryNumber) (all : List Entry) {sorted : List Entry}
    → all ≡ numbered es ns → sorted ≡ es → RiseById sorted → RiseById all
all_rising es ns all is same rise = subst RiseById (sym is) (numbered_rise es ns (subst RiseById same rise))

pub none_given : (es : List Entry) → (numbered es [] ≡ es) × (left_over es [] ≡ [])
none_given [] = (refl, refl)
none_given (e ∷ es) = let more = none_given es in (ap (λ xs. e ∷ xs) more.0, more.1)
