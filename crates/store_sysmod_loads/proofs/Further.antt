-- Which ++VERs are the first for their SREL, and which are further ones.
use Rattle.std.proofs.Common.{◌≡◌, ◌≢◌, inl, inr, ℕ, ◌<◌, ◌==◌, true, false, not, List, [], ◌∷◌, map, filter}
use Rattle.std.proofs.Common.{IsTrue, IsPermutation, arith, refl, sym, ap, subst, ◌∙◌}
use Rattle.std.specs.Prelude.{All}
use Rattle.std.specs.List.{AllByRecursion}
use Rattle.std.proofs.lemmas.Bool.{eqb-true}
use Rattle.std.proofs.lemmas.List.Elements.{All-from_recursion}
use Rattle.sqlite.specs.Tree.{IsAscending}
use Rattle.sqlite_rules.specs.Lists.{Has}
use Rattle.sqlite_rules.proofs.ListLemmas.{all_has, all_from, has_filtered, has_kept}
use Rattle.sqlite_trees.proofs.ListLemmas.{map-map, ascending-map}
use Rattle.terms.proofs.Each.{recursion_append, recursion_weaker}
use Rattle.terms.specs.Types.{Text, Id, Ver, Sysmod}
use Rattle.terms.specs.Lookups.{is_before}
use Rattle.store_rows.specs.Rows.{Contents}
use Rattle.store_rows.proofs.RowLemmas.{mapped, unmapped}
use Rattle.store_schema.specs.Forms.{VerSuitsKind, AreVersApart}
use Rattle.store_schema.specs.Tables.{morever, moreif}
use Rattle.store_schema.specs.declared.schema.Schema.{Schema}
use Rattle.store_schema.specs.declared.schema.Schema.TheVariants.{First, Second, Third}
use Rattle.store_schema.proofs.WrittenLists.{ascending, all_by, has_all, flat_has, flat_had}
use Rattle.store_schema.proofs.Numbered.{numbered, numbered_is, numbered_has, number_above, IsVerBefore}
use Rattle.store_schema.proofs.Numbered.{numbered_service, one_or_other, other_one}
use Rattle.store_schema.proofs.Singles.{HasSingles, alone, numbered_alone}
use Rattle.store_schema.proofs.OneState.{service_suits}
use Rattle.store_sysmods.specs.declared.ver.VerRow.{VerRow}
use Rattle.store_sysmods.specs.declared.ifreq.IfRow.{IfRow}
use Rattle.store_sysmods.specs.Vers.{is_first_row, HasVerRowForms, HasFirstForms}
use Rattle.store_sysmods.specs.Ifs.{is_first_if, HasIfRowForms, HasFirstIfForms}
use Rattle.store_sysmods.specs.MoreVers.{HasFurtherForms}
use Rattle.store_sysmods.specs.MoreIfs.{HasFurtherIfForms}
use Rattle.store_sysmod_loads.specs.Runs.{parent_of_if, if_rows, ver_rows}
use Rattle.store_sysmod_loads.specs.Built.{IsBuilt}
use Rattle.store_sysmod_loads.specs.Flats.{ifs_of, all_vers, all_ifs, AreWhole, AreMoreRowsOf}
use Rattle.store_sysmod_loads.specs.Gathered.{HoldMoreVers, HoldMoreIfs}
use Rattle.store_sysmod_loads.proofs.FlatLemmas.{recursion_flat, if_parents, numbers_up, rows_of_more_vers}
use Rattle.store_sysmod_loads.proofs.FlatLemmas.{rows_of_more_ifs}
use Rattle.store_sysmod_loads.proofs.Parted.{others, of_part}
use Rattle.store_sysmod_loads.proofs.RiseLemmas.{pairs_from}

not_one : (n : ℕ) → not (n == 1) ≡ true → n ≢ 1
not_one n e same = absurd (let wrong = rw same at e in cc)

above_one : (n : ℕ) → 0 < n → not (n == 1) ≡ true → 1 < n
above_one n least e = let other = not_one n e in omega (arith, least, other)

-- ---- by their numbers

pub passes_first : (n : ℕ) → n ≡ 1 → (n == 1) ≡ true
passes_first n is = ap (λ k. k == 1) is

pub fails_further : (n : ℕ) → 1 < n → (n == 1) ≡ false
fails_further n more = other_one n (λ is. omega (arith, more, is))

pub firsts_pass : (rows : List VerRow) → AllByRecursion HasFirstForms rows
    → AllByRecursion (λ r. is_first_row r ≡ true) rows
firsts_pass rows h = recursion_weaker HasFirstForms (λ r. is_first_row r ≡ true) (λ r f. passes_first r.number f.1)
    rows h

pub furthers_fail : (rows : List VerRow) → AllByRecursion HasFurtherForms rows
    → AllByRecursion (λ r. is_first_row r ≡ false) rows
furthers_fail rows h =
    recursion_weaker HasFurtherForms (λ r. is_first_row r ≡ false) (λ r f. fails_further r.number f.1) rows h

pub first_ifs_pass : (rows : List IfRow) → AllByRecursion HasFirstIfForms rows
    → AllByRecursion (λ r. is_first_if r ≡ true) rows
first_ifs_pass rows h =
    recursion_weaker HasFirstIfForms (λ r. is_first_if r ≡ true) (λ r f. passes_first r.place f.1) rows h

pub further_ifs_fail : (rows : List IfRow) → AllByRecursion HasFurtherIfForms rows
    → AllByRecursion (λ r. is_first_if r ≡ false) rows
further_ifs_fail rows h =
    recursion_weaker HasFurtherIfForms (λ r. is_first_if r ≡ false) (λ r f. fails_further r.place f.1) rows h

-- ---- those of SYSMODs

pub first_forms : (ss : List Sysmod) → AllByRecursion HasVerRowForms (all_vers ss)
    → AllByRecursion HasFirstForms (filter is_first_row (all_vers ss))
first_forms ss h = of_part is_first_row HasVerRowForms HasFirstForms
    (λ r pass forms. (forms, eqb-true r.number 1 pass)) (all_vers ss) h

pub first_if_forms : (ss : List Sysmod) → AllByRecursion HasIfRowForms (all_ifs ss)
    → AllByRecursion HasFirstIfForms (filter is_first_if (all_ifs ss))
first_if_forms ss h = of_part is_first_if HasIfRowForms HasFirstIfForms
    (λ r pass forms. (forms, eqb-true r.place 1 pass)) (all_ifs ss) h

abbrev pub ver_line : Id → ℕ × Ver → VerRow
ver_line x v = record { id = x; number = v.0; ver = record v.1 { ifs = [] } }

-- what a row says that is not of a first ++VER
abbrev IsFurtherRow : VerRow → Type 0
IsFurtherRow r = (1 < r.number) × (r.ver.npre ≡ []) × (r.ver.del ≡ [])

further_ver : (s : Sysmod) → IsBuilt s → (v : ℕ × Ver) → Has (numbered s) v → not (v.0 == 1) ≡ true
    → IsFurtherRow (ver_line s.id v)
further_ver s h v there pass =
    let service = numbered_service s.kind [] s.vers (λ u w hu hw. absurd hu)
    (ascending (AreVersApart s.kind) s.vers h.apart) v there (not_one v.0 pass) in
    let bare = service_suits s.kind v.1 service
    (has_all (VerSuitsKind s.kind) s.vers v.1 h.suits (numbered_has [] s.vers v there)) in
    (above_one v.0 (number_above [] s.vers v there) pass, bare.0, bare.1)

further_row : (ss : List Sysmod) → AllByRecursion IsBuilt ss → (r : VerRow) → Has (all_vers ss) r
    → not (is_first_row r) ≡ true → IsFurtherRow r
further_row ss built r there pass =
    let at = flat_had (λ (s : Sysmod). ver_rows s.id (numbered s)) ss r there in
    let s = at.0 in
    let line = unmapped (ver_line s.id) (numbered s) r at.2 in
    subst IsFurtherRow (sym line.2) (further_ver s (all_has IsBuilt ss s built at.1) line.0 line.1
    (subst (λ (q : VerRow). not (is_first_row q) ≡ true) line.2 pass))

pub further_forms : (ss : List Sysmod) → AllByRecursion IsBuilt ss → AllByRecursion HasVerRowForms (all_vers ss)
    → AllByRecursion HasFurtherForms (others is_first_row (all_vers ss))
further_forms ss built h = all_from HasFurtherForms (others is_first_row (all_vers ss)) (λ r there.
    let it = has_filtered (λ q. not (is_first_row q)) (all_vers ss) r there in
    let far = further_row ss built r it.0 it.1 in
    (all_has HasVerRowForms (all_vers ss) r h it.0, far.0, far.1, far.2))

place_above : (s : Sysmod) (r : IfRow) → Has (ifs_of s.id (numbered s)) r → 0 < r.place
place_above s r there =
    let at = flat_had (λ (v : ℕ × Ver). if_rows s.id v.1.srel v.0 1 v.1.ifs) (numbered s) r there in
    let v = at.0 in
    let parent = all_has (λ q. parent_of_if q ≡ (s.id, v.1.srel, v.0)) (if_rows s.id v.1.srel v.0 1 v.1.ifs) r
    (if_parents s.id v.1.srel v.0 1 v.1.ifs) at.2 in
    let place : r.place ≡ v.0 = ap (λ (k : Id × Text × ℕ). k.2) parent in
    let least = number_above [] s.vers v at.1 in
    omega (arith, place, least)

pub further_if_forms : (ss : List Sysmod) → AllByRecursion HasIfRowForms (all_ifs ss)
    → AllByRecursion HasFurtherIfForms (others is_first_if (all_ifs ss))
further_if_forms ss h = all_from HasFurtherIfForms (others is_first_if (all_ifs ss)) (λ r there.
    let it = has_filtered (λ q. not (is_first_if q)) (all_ifs ss) r there in
    let at = flat_had (λ (s : Sysmod). ifs_of s.id (numbered s)) ss r it.0 in
    (all_has HasIfRowForms (all_ifs ss) r h it.0, above_one r.place (place_above at.0 r at.2) it.1))

-- ---- where no SYSMOD has two for one SREL

alone_rows : (x : Id) (vs : List Ver) → AllByRecursion (λ r. is_first_row r ≡ true) (ver_rows x (map alone vs))
alone_rows x [] = tt
alone_rows x (v ∷ vs) = (refl, alone_rows x vs)

pub singles_first : (ss : List Sysmod) → All HasSingles ss
    → AllByRecursion (λ r. is_first_row r ≡ true) (all_vers ss)
singles_first ss singles =
    recursion_flat (λ (s : Sysmod). ver_rows s.id (numbered s)) HasSingles (λ r. is_first_row r ≡ true)
    (λ s single. subst (λ (vs : List (ℕ × Ver)). AllByRecursion (λ r. is_first_row r ≡ true) (ver_rows s.id vs))
    (sym (numbered_alone s.vers single)) (alone_rows s.id s.vers)) ss (all_by HasSingles ss singles)

alone_ifs : (x : Id) (vs : List Ver) → AllByRecursion (λ r. is_first_if r ≡ true) (ifs_of x (map alone vs))
alone_ifs x [] = tt
alone_ifs x (v ∷ vs) =
    recursion_append (λ r. is_first_if r ≡ true) (if_rows x v.srel 1 1 v.ifs) (ifs_of x (map alone vs))
    (recursion_weaker (λ r. parent_of_if r ≡ (x, v.srel, 1)) (λ r. is_first_if r ≡ true)
    (λ r e. passes_first r.place (ap (λ (k : Id × Text × ℕ). k.2) e)) (if_rows x v.srel 1 1 v.ifs)
    (if_parents x v.srel 1 1 v.ifs)) (alone_ifs x vs)

pub singles_first_ifs : (ss : List Sysmod) → All HasSingles ss
    → AllByRecursion (λ r. is_first_if r ≡ true) (all_ifs ss)
singles_first_ifs ss singles =
    recursion_flat (λ (s : Sysmod). ifs_of s.id (numbered s)) HasSingles (λ r. is_first_if r ≡ true)
    (λ s single. subst (λ (vs : List (ℕ × Ver)). AllByRecursion (λ r. is_first_if r ≡ true) (ifs_of s.id vs))
    (sym (numbered_alone s.vers single)) (alone_ifs s.id s.vers)) ss (all_by HasSingles ss singles)

-- and the other way round
asc_with : {X : Type 0} (P : X → Type 0) (R S : X → X → Type 0) → ((a b : X) → P a → P b → R a b → S a b)
    → (xs : List X) → AllByRecursion P xs → IsAscending R xs → IsAscending S xs
asc_with P R S h [] all up = tt
asc_with P R S h (x ∷ xs) all up = (
  all_from (S x) xs (λ y there. h x y all.0 (all_has P xs y all.1 there) (all_has (R x) xs y up.0 there)),
  asc_with P R S h xs all.1 up.1,
)

strict : (a b : ℕ × Ver) → a.0 ≡ 1 → b.0 ≡ 1 → IsVerBefore a b → IsTrue (is_before a.1.srel b.1.srel)
strict a b one two (inl before) = before
strict a b one two (inr up) = absurd (let more = up.1 in omega (arith, one, two, more))

rising_from : (s : Sysmod) → IsBuilt s → AllByRecursion (λ (v : ℕ × Ver). v.0 ≡ 1) (numbered s) → HasSingles s
rising_from s h ones =
    let up = asc_with (λ (v : ℕ × Ver). v.0 ≡ 1) IsVerBefore (λ a b. IsTrue (is_before a.1.srel b.1.srel)) strict
    (numbered s) ones (numbers_up s h) in
    let srels : map (λ (v : ℕ × Ver). v.1.srel) (numbered s) ≡ map (λ (v : Ver). v.srel) s.vers =
    sym (map-map (λ (v : Ver). v.srel) (λ (v : ℕ × Ver). v.1) (numbered s))
    ∙ ap (map (λ (v : Ver). v.srel)) (numbered_is [] s.vers) in
    pairs_from (λ x y. IsTrue (is_before x y)) (map (λ (v : Ver). v.srel) s.vers)
    (subst (IsAscending (λ x y. IsTrue (is_before x y))) srels
    (ascending-map (λ x y. IsTrue (is_before x y)) (λ (v : ℕ × Ver). v.1.srel) (numbered s) up))

pub singles_from : (ss : List Sysmod) → AllByRecursion IsBuilt ss → others is_first_row (all_vers ss) ≡ []
    → All HasSingles ss
singles_from ss built none = All-from_recursion HasSingles ss (all_from HasSingles ss (λ s there.
    rising_from s (all_has IsBuilt ss s built there) (all_from (λ (v : ℕ × Ver). v.0 ≡ 1) (numbered s) (one s there))))
  where
    one : (s : Sysmod) → Has ss s → (v : ℕ × Ver) → Has (numbered s) v → v.0 ≡ 1
    one s hs v hv = elim (one_or_other v.0) [
      | inl is ↦ is
      | inr other ↦ absurd (subst (λ rows. Has rows (ver_line s.id v)) none
          (has_kept (λ r. not (is_first_row r)) (all_vers ss) (ver_line s.id v)
          (flat_has (λ (t : Sysmod). ver_rows t.id (numbered t)) ss s (ver_line s.id v) hs
          (mapped (ver_line s.id) (numbered s) v hv)) (ap not (other_one v.0 other))))
    ]

-- ---- under each schema

pub more_held : (r : Schema) (ss : List Sysmod) (contents : Contents) → AreWhole ss
    → HoldMoreVers r (others is_first_row (all_vers ss)) contents
    → HoldMoreIfs r (others is_first_if (all_ifs ss)) contents → AreMoreRowsOf r ss contents
more_held First ss contents whole vers ifs = singles_from ss whole.built vers
more_held Second ss contents whole vers ifs = singles_from ss whole.built vers
more_held Third ss contents whole vers ifs = (
  subst (λ rows. IsPermutation rows (contents morever.tree)) (rows_of_more_vers ss) vers,
  subst (λ rows. IsPermutation rows (contents moreif.tree)) (rows_of_more_ifs ss) ifs,
)
