-- Texts and their parts between commas, and records and their bytes.
use Rattle.std.proofs.Common.{get_or, map, take, IsTrue, append-nil, subst, subst₂, length-take, Bor, ◌≡◌, ◌≢◌, ◌==◌}
use Rattle.std.proofs.Common.{◌<◌, ◌*◌, ◌%◌, ℕ, List, [], ◌∷◌, ◌++◌, length, length-append, All, false, arith, refl}
use Rattle.std.proofs.Common.{◌+◌, sym, ap, ap₂, ◌∙◌}
use Rattle.std.specs.List.{AllByRecursion, slice_split, join_with_byte, concat}
use Rattle.std.proofs.lemmas.List.Splits.{slice_split_none, slice_split_at, join_with_byte-slice_split}
use Rattle.std.proofs.lemmas.List.Elements.{All-from_recursion, recursion_from_All}
use Rattle.std.proofs.lemmas.List.{get_or_default, get_or-map, get_or-take, length-map, map_more, take-map}
use Rattle.terms.specs.Types.{Text}
use Rattle.terms.specs.Lookups.{is_before}
use Rattle.terms.specs.Texts.{HasLines}
use Rattle.store_schema.specs.Forms.{AreSorted, AreRecords}
use Rattle.terms.proofs.Each.{All_between, recursion_back, recursion_front}
use Rattle.terms.proofs.Pairs.{AllPairs_between}
use Rattle.store_rows.proofs.Pieces.{flat_concat}
use Rattle.store_schema.proofs.WrittenLists.{IsWord}
use Rattle.store_schema.specs.Parts.{parts_of}

-- joined again they are the text
pub joined_parts : (text : List ℕ) → join_with_byte 44 (parts_of text) ≡ text
joined_parts [] = refl
joined_parts (b ∷ text) = join_with_byte-slice_split 44 (b ∷ text)

no_comma : (x : List ℕ) → AllByRecursion (λ b. b ≢ 44) x → AllByRecursion (λ b. (b == 44) ≡ false) x
no_comma [] h = tt
no_comma (b ∷ x) h = (grind (arith, h.0), no_comma x h.1)

plain : (x : List ℕ) → AllByRecursion (λ b. b ≢ 44) x → All (λ b. (b == 44) ≡ false) x
plain x h = All-from_recursion _ x (no_comma x h)

split_joined : (x : List ℕ) (xs : List (List ℕ)) → AllByRecursion IsWord (x ∷ xs)
    → slice_split (λ c. c == 44) (join_with_byte 44 (x ∷ xs)) ≡ x ∷ xs
split_joined x [] h = slice_split_none (λ c. c == 44) x (plain x h.0.1)
split_joined x (y ∷ xs) h =
    slice_split_at (λ c. c == 44) x 44 (join_with_byte 44 (y ∷ xs)) (plain x h.0.1) refl
    ∙ ap (λ ys. x ∷ ys) (split_joined y xs h.1)

pub parts_are : (text : List ℕ) → text ≢ [] → parts_of text ≡ slice_split (λ c. c == 44) text
parts_are [] some = absurd (some refl)
parts_are (b ∷ text) some = refl

filled : (x : List ℕ) (xs : List (List ℕ)) → x ≢ [] → join_with_byte 44 (x ∷ xs) ≢ []
filled [] xs some e = some refl
filled (b ∷ x) [] some e = absurd cc
filled (b ∷ x) (y ∷ xs) some e = absurd cc

-- words that are joined are its parts
pub parts_joined : (xs : List (List ℕ)) → AllByRecursion IsWord xs → parts_of (join_with_byte 44 xs) ≡ xs
parts_joined [] h = refl
parts_joined (x ∷ xs) h = parts_are _ (filled x xs h.0.0) ∙ split_joined x xs h

-- ---- lists that are read part by part

module _ (form : Text → Type 0) where
  pub none_listed : AreSorted form []
  none_listed = record { each = λ k d within. absurd (omega arith); rising = λ i j d less within. absurd (omega arith) }

  -- one more that all others stand before
  pub listed_more : (xs : List Text) (x : Text) → AreSorted form xs → form x → All (λ y. IsTrue (is_before y x)) xs
      → AreSorted form (xs ++ x ∷ [])
  listed_more xs x h formed last = record {
    each = All_between form xs [] x (rw append-nil h.each) formed;
    rising = AllPairs_between (λ y z. IsTrue (is_before y z)) xs [] x (rw append-nil h.rising) last
        (λ k d within. absurd (omega arith));
  }

  module _ (parts : List (Bor Text)) (i : ℕ) (d : Bor Text) (within : i < length parts)
      (h : AreSorted form (map (λ part. part.now) parts)) where
    at : (e : Text) → get_or (map (λ part. part.now) parts) i e ≡ (get_or parts i d).now
    at e = get_or-map (λ (part : Bor Text). part.now) parts i d e within

    -- each part has the form, and those before it stand before it
    pub part_formed : form (get_or parts i d).now
    part_formed = subst form (at []) (h.each i [] (rw length-map within))

    pub part_last : All (λ y. IsTrue (is_before y (get_or parts i d).now)) (map (λ part. part.now) (take i parts))
    part_last = λ k e below.
        let less : k < i = let e = length-map (take i parts) (λ (part : Bor Text). part.now) in let m =
        length-take i parts in omega arith in
        let front : get_or (map (λ part. part.now) (take i parts)) k e ≡ get_or (map (λ part. part.now) parts) k e =
        ap (λ xs. get_or xs k e) (sym (take-map (λ (part : Bor Text). part.now) i parts))
        ∙ get_or-take i (map (λ part. part.now) parts) k e less in
        subst₂ (λ y z. IsTrue (is_before y z)) (sym front) (at e) (h.rising k i e less (rw length-map within))

  -- a list of the parts before one, and that one behind them
  pub parts_grown : (parts : List (Bor Text)) (i : ℕ) (d : Bor Text) → i < length parts
      → (list new : List Text) (item : Text) → list ≡ map (λ part. part.now) (take i parts)
      → AreSorted form list → item ≡ (get_or parts i d).now → form item → All (λ y. IsTrue (is_before y item)) list
      → new ≡ list ++ item ∷ []
      → (new ≡ map (λ part. part.now) (take (i + 1) parts)) × AreSorted form new
  parts_grown parts i d within list new item same listed is formed last grown = (
    grown ∙ sym (map_more (λ (part : Bor Text). part.now) parts i d within
        ∙ ap₂ (λ (xs : List Text) (x : Text). xs ++ x ∷ []) (sym same) (sym is)),
    rw grown (listed_more list item listed formed last),
  )

whole_of : (lines : List (List ℕ)) → AllByRecursion (λ line. length line ≡ 80) lines
    → length (concat lines) ≡ length lines * 80
whole_of [] h = refl
whole_of (line ∷ lines) h = let rest = whole_of lines h.1 in omega (arith, length-append line (concat lines), h.0)

-- no part of a record is left
pub no_rest : (lines : List (List ℕ)) → AreRecords lines → length (concat lines) % 80 ≡ 0
no_rest lines h = let whole = whole_of lines (recursion_from_All _ lines (λ k d within. (h k d within).0))
    in omega (arith, whole)

bytes_of : (lines : List (List ℕ)) → AllByRecursion (λ b. b < 256) (concat lines)
    → AllByRecursion (λ line. All (λ b. b < 256) line) lines
bytes_of [] h = tt
bytes_of (line ∷ lines) h = (
  All-from_recursion _ line (recursion_front (λ b. b < 256) line (concat lines) h),
  bytes_of lines (recursion_back (λ b. b < 256) line (concat lines) h),
)

pub are_records : (bytes : List ℕ) (lines : List (List ℕ)) → HasLines bytes lines → ((i : ℕ) → get_or bytes i 0 < 256)
    → (bytes ≡ concat lines) × AreRecords lines
are_records bytes lines h small =
    let same : bytes ≡ concat lines = h.bytes_are ∙ flat_concat lines in
    let each : All (λ b. b < 256) bytes = λ k d within. let b = small k in let s : get_or bytes k d ≡ get_or bytes k 0 =
    get_or_default bytes k d 0 within in omega arith in (
      same,
      λ k d within. (
        h.each k d within,
        All-from_recursion _ lines
            (bytes_of lines (subst (AllByRecursion (λ b. b < 256)) same (recursion_from_All _ bytes each))) k d within,
      ),
    )
