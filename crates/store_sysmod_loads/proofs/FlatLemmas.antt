-- The rows of SYSMODs, table by table: what is taken off the front of them, and that they rise.
use Rattle.std.proofs.Common.{◌≡◌, ◌≢◌, inl, inr, ℕ, ◌+◌, ◌==◌, Bool, true, false, not, List, [], ◌∷◌, ◌++◌, map}
use Rattle.std.proofs.Common.{filter, IsTrue, append_assoc, arith, refl, sym, ap, ap₂, subst, ◌∙◌}
use Rattle.std.specs.List.{AllByRecursion, flat_map, enumerate_from}
use Rattle.std.proofs.lemmas.List.{map-append}
use Rattle.std.proofs.lemmas.List.Elements.{filter-append}
use Rattle.sqlite.specs.Tree.{IsAscending}
use Rattle.sqlite_trees.proofs.ListLemmas.{map-map, filter-map}
use Rattle.terms.proofs.Each.{recursion_append, recursion_weaker}
use Rattle.terms.specs.Types.{Text, Id, IfReq, Ver, Change, Sysmod}
use Rattle.terms.specs.Lookups.{is_before}
use Rattle.store_schema.proofs.WrittenLists.{ascending}
use Rattle.store_schema.proofs.Numbered.{numbered, IsVerBefore, numbers_ascend}
use Rattle.store_schema.proofs.Spelled.{not_before_same}
use Rattle.store_schema.specs.Forms.{AreVersApart}
use Rattle.store_schema.specs.Rows.{sysmod_row, source_row, sources_of, ver_row, vers_of, ifreq_row, ifreqs_of}
use Rattle.store_schema.specs.Rows.{elems_of, morever_row, morevers_of, moreif_row, moreifs_of, first_vers}
use Rattle.store_schema.specs.Rows.{further_vers}
use Rattle.store_schema.specs.Earlier.{first_sysmod_row}
use Rattle.store_sysmods.specs.declared.head.HeadRow.{HeadRow}
use Rattle.store_sysmods.specs.declared.ver.VerRow.{VerRow}
use Rattle.store_sysmods.specs.declared.ifreq.IfRow.{IfRow}
use Rattle.store_sysmods.specs.declared.elem.ElemRow.{ElemRow}
use Rattle.store_sysmods.specs.Heads.{row_of_head, row_of_bare}
use Rattle.store_sysmods.specs.Sources.{row_of_source}
use Rattle.store_sysmods.specs.Vers.{row_of_ver, is_first_row}
use Rattle.store_sysmods.specs.Ifs.{row_of_if, is_first_if}
use Rattle.store_sysmods.specs.Elems.{row_of_elem}
use Rattle.store_sysmods.specs.MoreVers.{row_of_more_ver}
use Rattle.store_sysmods.specs.MoreIfs.{row_of_more_if}
use Rattle.store_sysmod_loads.specs.Runs.{StandsApart, parent_of_ver, parent_of_if, parent_of_elem, source_rows}
use Rattle.store_sysmod_loads.specs.Runs.{if_rows, ver_rows, elem_rows, HasAllIfs}
use Rattle.store_sysmod_loads.specs.Joined.{bare_of, all_sources}
use Rattle.store_sysmod_loads.specs.Built.{IsBuilt, BeginsWithSysmod, AreTaken}
use Rattle.store_sysmod_loads.specs.Flats.{head_of, ifs_of, all_vers, all_ifs, all_elems}
use Rattle.store_sysmod_loads.proofs.RunLemmas.{if_row}

-- ---- rows of items

map_flat : {A B C : Type 0} (g : B → C) (f : A → List B) (h : A → List C) → ((a : A) → map g (f a) ≡ h a)
    → (xs : List A) → map g (flat_map f xs) ≡ flat_map h xs
map_flat g f h same [] = refl
map_flat g f h same (x ∷ xs) = map-append g (f x) (flat_map f xs) ∙ ap₂ ◌++◌ (same x) (map_flat g f h same xs)

pub rows_of_heads : (ss : List Sysmod) → map row_of_head (map head_of ss) ≡ map first_sysmod_row ss
rows_of_heads [] = refl
rows_of_heads (s ∷ ss) = ap (λ rows. first_sysmod_row s ∷ rows) (rows_of_heads ss)

pub rows_of_bare : (ss : List Sysmod) → map row_of_bare (map bare_of (map head_of ss)) ≡ map sysmod_row ss
rows_of_bare [] = refl
rows_of_bare (s ∷ ss) = ap (λ rows. sysmod_row s ∷ rows) (rows_of_bare ss)

rows_of_names : (x : Id) (names : List Text) → map row_of_source (source_rows x names) ≡ map (source_row x) names
rows_of_names x [] = refl
rows_of_names x (n ∷ names) = ap (λ rows. source_row x n ∷ rows) (rows_of_names x names)

pub rows_of_sources : (ss : List Sysmod) → map row_of_source (all_sources (map head_of ss)) ≡ flat_map sources_of ss
rows_of_sources [] = refl
rows_of_sources (s ∷ ss) =
    map-append row_of_source (source_rows s.id s.sources) (all_sources (map head_of ss))
    ∙ ap₂ ◌++◌ (rows_of_names s.id s.sources) (rows_of_sources ss)

passing : {X : Type 0} (p : X → Bool) (x : X) (xs : List X) → p x ≡ true → filter p (x ∷ xs) ≡ x ∷ filter p xs
passing p x xs e = rw e refl

failing : {X : Type 0} (p : X → Bool) (x : X) (xs : List X) → p x ≡ false → filter p (x ∷ xs) ≡ filter p xs
failing p x xs e = rw e refl

-- those of items that pass a test
rows_filtered : {A B C : Type 0} (g : B → C) (p : B → Bool) (f : A → List B) (h : A → List C)
    → ((a : A) → map g (filter p (f a)) ≡ h a) → (xs : List A) → map g (filter p (flat_map f xs)) ≡ flat_map h xs
rows_filtered g p f h same [] = refl
rows_filtered g p f h same (x ∷ xs) =
    ap (map g) (filter-append p (f x) (flat_map f xs)) ∙ map-append g (filter p (f x)) (filter p (flat_map f xs))
    ∙ ap₂ ◌++◌ (same x) (rows_filtered g p f h same xs)

-- ++VERs whose numbers pass a test
filtered_vers : (q : ℕ → Bool) (x : Id) (vers : List (ℕ × Ver))
    → filter (λ (r : VerRow). q r.number) (ver_rows x vers) ≡ ver_rows x (filter (λ (v : ℕ × Ver). q v.0) vers)
filtered_vers q x vers = filter-map (λ (r : VerRow). q r.number) _ vers

rows_of_ver_list : (x : Id) (vers : List (ℕ × Ver))
    → map row_of_ver (ver_rows x vers) ≡ map (λ (v : ℕ × Ver). ver_row x v.1) vers
rows_of_ver_list x vers = map-map row_of_ver _ vers

rows_of_more_list : (x : Id) (vers : List (ℕ × Ver)) → map row_of_more_ver (ver_rows x vers) ≡ map (morever_row x) vers
rows_of_more_list x vers = map-map row_of_more_ver _ vers

pub rows_of_vers : (ss : List Sysmod) → map row_of_ver (filter is_first_row (all_vers ss)) ≡ flat_map vers_of ss
rows_of_vers ss =
    rows_filtered row_of_ver is_first_row (λ (s : Sysmod). ver_rows s.id (numbered s)) vers_of
    (λ s. ap (map row_of_ver) (filtered_vers (λ n. n == 1) s.id (numbered s)) ∙ rows_of_ver_list s.id (first_vers s)) ss

pub rows_of_more_vers : (ss : List Sysmod)
    → map row_of_more_ver (filter (λ r. not (is_first_row r)) (all_vers ss)) ≡ flat_map morevers_of ss
rows_of_more_vers ss =
    rows_filtered row_of_more_ver (λ r. not (is_first_row r)) (λ (s : Sysmod). ver_rows s.id (numbered s)) morevers_of
    (λ s. ap (map row_of_more_ver) (filtered_vers (λ n. not (n == 1)) s.id (numbered s))
    ∙ rows_of_more_list s.id (further_vers s)) ss

-- and their ++IFs
kept_ifs : (q : ℕ → Bool) (x : Id) (srel : Text) (place n : ℕ) (ifs : List IfReq) → q place ≡ true
    → filter (λ (r : IfRow). q r.place) (if_rows x srel place n ifs) ≡ if_rows x srel place n ifs
kept_ifs q x srel place n [] e = refl
kept_ifs q x srel place n (i ∷ ifs) e =
    rw e (ap (λ rows. if_row x srel place n i ∷ rows) (kept_ifs q x srel place (n + 1) ifs e))

dropped_ifs : (q : ℕ → Bool) (x : Id) (srel : Text) (place n : ℕ) (ifs : List IfReq) → q place ≡ false
    → filter (λ (r : IfRow). q r.place) (if_rows x srel place n ifs) ≡ []
dropped_ifs q x srel place n [] e = refl
dropped_ifs q x srel place n (i ∷ ifs) e = rw e (dropped_ifs q x srel place (n + 1) ifs e)

filtered_ifs : (q : ℕ → Bool) (x : Id) (vers : List (ℕ × Ver))
    → filter (λ (r : IfRow). q r.place) (ifs_of x vers) ≡ ifs_of x (filter (λ (v : ℕ × Ver). q v.0) vers)
filtered_ifs q x [] = refl
filtered_ifs q x (v ∷ vers) = go (q v.0) refl (filtered_ifs q x vers)
  where
    go : (b : Bool) → q v.0 ≡ b
        → filter (λ (r : IfRow). q r.place) (ifs_of x vers) ≡ ifs_of x (filter (λ (w : ℕ × Ver). q w.0) vers)
        → filter (λ (r : IfRow). q r.place) (ifs_of x (v ∷ vers))
        ≡ ifs_of x (filter (λ (w : ℕ × Ver). q w.0) (v ∷ vers))
    go true e later =
        filter-append (λ (r : IfRow). q r.place) (if_rows x v.1.srel v.0 1 v.1.ifs) (ifs_of x vers)
        ∙ ap₂ ◌++◌ (kept_ifs q x v.1.srel v.0 1 v.1.ifs e) later
        ∙ sym (ap (ifs_of x) (passing (λ (w : ℕ × Ver). q w.0) v vers e))
    go false e later =
        filter-append (λ (r : IfRow). q r.place) (if_rows x v.1.srel v.0 1 v.1.ifs) (ifs_of x vers)
        ∙ ap₂ ◌++◌ (dropped_ifs q x v.1.srel v.0 1 v.1.ifs e) later
        ∙ sym (ap (ifs_of x) (failing (λ (w : ℕ × Ver). q w.0) v vers e))

rows_of_if_list : (x : Id) (srel : Text) (place n : ℕ) (ifs : List IfReq)
    → map row_of_if (if_rows x srel place n ifs) ≡ map (ifreq_row x srel) (enumerate_from n ifs)
rows_of_if_list x srel place n [] = refl
rows_of_if_list x srel place n (i ∷ ifs) = ap (λ rows. ifreq_row x srel (n, i) ∷ rows)
    (rows_of_if_list x srel place (n + 1) ifs)

rows_of_more_if_list : (x : Id) (srel : Text) (place n : ℕ) (ifs : List IfReq)
    → map row_of_more_if (if_rows x srel place n ifs) ≡ map (moreif_row x srel place) (enumerate_from n ifs)
rows_of_more_if_list x srel place n [] = refl
rows_of_more_if_list x srel place n (i ∷ ifs) = ap (λ rows. moreif_row x srel place (n, i) ∷ rows)
    (rows_of_more_if_list x srel place (n + 1) ifs)

pub rows_of_ifs : (ss : List Sysmod) → map row_of_if (filter is_first_if (all_ifs ss)) ≡ flat_map ifreqs_of ss
rows_of_ifs ss =
    rows_filtered row_of_if is_first_if (λ (s : Sysmod). ifs_of s.id (numbered s)) ifreqs_of
    (λ s. ap (map row_of_if) (filtered_ifs (λ n. n == 1) s.id (numbered s))
    ∙ map_flat row_of_if (λ (v : ℕ × Ver). if_rows s.id v.1.srel v.0 1 v.1.ifs)
    (λ (v : ℕ × Ver). map (ifreq_row s.id v.1.srel) (enumerate_from 1 v.1.ifs))
    (λ v. rows_of_if_list s.id v.1.srel v.0 1 v.1.ifs) (first_vers s)) ss

pub rows_of_more_ifs : (ss : List Sysmod)
    → map row_of_more_if (filter (λ r. not (is_first_if r)) (all_ifs ss)) ≡ flat_map moreifs_of ss
rows_of_more_ifs ss =
    rows_filtered row_of_more_if (λ r. not (is_first_if r)) (λ (s : Sysmod). ifs_of s.id (numbered s)) moreifs_of
    (λ s. ap (map row_of_more_if) (filtered_ifs (λ n. not (n == 1)) s.id (numbered s))
    ∙ map_flat row_of_more_if (λ (v : ℕ × Ver). if_rows s.id v.1.srel v.0 1 v.1.ifs)
    (λ (v : ℕ × Ver). map (moreif_row s.id v.1.srel v.0) (enumerate_from 1 v.1.ifs))
    (λ v. rows_of_more_if_list s.id v.1.srel v.0 1 v.1.ifs) (further_vers s)) ss

rows_of_elem_list : (x : Id) (changes : List Change) → map row_of_elem (elem_rows x changes) ≡ map
    (Rattle.store_schema.specs.Rows.elem_row x) changes
rows_of_elem_list x [] = refl
rows_of_elem_list x (d ∷ changes) = ap (λ rows. Rattle.store_schema.specs.Rows.elem_row x d ∷ rows)
    (rows_of_elem_list x changes)

pub rows_of_elems : (ss : List Sysmod) → map row_of_elem (all_elems ss) ≡ flat_map elems_of ss
rows_of_elems ss = map_flat row_of_elem (λ (s : Sysmod). elem_rows s.id s.changes) elems_of
    (λ s. rows_of_elem_list s.id s.changes) ss

-- ---- what was taken is all

all_ifs_flat : (x : Id) (rows : List IfRow) (vers : List (ℕ × Ver)) (rest : List IfRow) → HasAllIfs x rows vers rest
    → rows ≡ ifs_of x vers ++ rest
all_ifs_flat x rows [] rest h = h
all_ifs_flat x rows (v ∷ vers) rest h =
    h.1.0 ∙ ap (λ more. if_rows x v.1.srel v.0 1 v.1.ifs ++ more) (all_ifs_flat x h.0 vers rest h.2)
    ∙ sym (append_assoc (if_rows x v.1.srel v.0 1 v.1.ifs) (ifs_of x vers) rest)

-- what the rows are, if these are the SYSMODs
pub record AreFlat (heads : List HeadRow) (ss : List Sysmod) (vers : List VerRow) (ifs : List IfRow)
    (elems : List ElemRow) : Type 0 where
  pub heads_are : heads ≡ map head_of ss
  pub vers_are : vers ≡ all_vers ss
  pub ifs_are : ifs ≡ all_ifs ss
  pub elems_are : elems ≡ all_elems ss
  pub built : AllByRecursion IsBuilt ss
  pub none_carried : AllByRecursion (λ s. s.holds ≡ []) ss

pub taken_flat : (heads : List HeadRow) (ss : List Sysmod) (vers : List VerRow) (ifs : List IfRow)
    (elems : List ElemRow) → AreTaken heads ss vers ifs elems → AreFlat heads ss vers ifs elems
taken_flat [] [] vers ifs elems h = record {
  heads_are = refl;
  vers_are = h.0;
  ifs_are = h.1;
  elems_are = h.2;
  built = tt;
  none_carried = tt;
}
taken_flat [] (s ∷ ss) vers ifs elems h = absurd h
taken_flat (x ∷ heads) [] vers ifs elems h = absurd h
taken_flat (x ∷ heads) (s ∷ ss) vers ifs elems h =
    let t = h.3 in
    let rest = taken_flat heads ss h.0 h.1 h.2 h.4 in
    let head : head_of s ≡ x = ap head_of t.same in
    let id : x.id ≡ s.id = sym (ap (λ (r : Sysmod). r.id) t.same) in
    record {
      heads_are = ap₂ ◌∷◌ (sym head) rest.heads_are;
      vers_are = t.vers_are.0 ∙ ap₂ (λ (y : Id) (more : List VerRow). ver_rows y (numbered s) ++ more) id rest.vers_are;
      ifs_are = all_ifs_flat x.id ifs (numbered s) h.1 t.vers_are.2
          ∙ ap₂ (λ (y : Id) (more : List IfRow). ifs_of y (numbered s) ++ more) id rest.ifs_are;
      elems_are = t.elems_are.0 ∙ ap₂ (λ (y : Id) (more : List ElemRow). elem_rows y s.changes ++ more) id
          rest.elems_are;
      built = (t.built, rest.built);
      none_carried = (ap (λ (r : Sysmod). r.holds) t.same, rest.none_carried);
    }

-- ---- all is taken

pub recursion_flat : {A X : Type 0} (f : A → List X) (Q : A → Type 0) (P : X → Type 0)
    → ((a : A) → Q a → AllByRecursion P (f a)) → (xs : List A) → AllByRecursion Q xs → AllByRecursion P (flat_map f xs)
recursion_flat f Q P each [] h = tt
recursion_flat f Q P each (x ∷ xs) h = recursion_append P (f x) (flat_map f xs) (each x h.0)
    (recursion_flat f Q P each xs h.1)

pub stands_apart : {X K : Type 0} (parent : X → K) (k : K) (xs : List X) → AllByRecursion (λ x. parent x ≢ k) xs
    → StandsApart parent k xs
stands_apart parent k [] h begins = begins
stands_apart parent k (x ∷ xs) h begins = h.0 begins

pub ver_parents : (x : Id) (vers : List (ℕ × Ver)) → AllByRecursion (λ r. parent_of_ver r ≡ x) (ver_rows x vers)
ver_parents x [] = tt
ver_parents x (v ∷ vers) = (refl, ver_parents x vers)

pub if_parents : (x : Id) (srel : Text) (place n : ℕ) (ifs : List IfReq)
    → AllByRecursion (λ r. parent_of_if r ≡ (x, srel, place)) (if_rows x srel place n ifs)
if_parents x srel place n [] = tt
if_parents x srel place n (i ∷ ifs) = (refl, if_parents x srel place (n + 1) ifs)

pub elem_parents : (x : Id) (changes : List Change) → AllByRecursion (λ r. parent_of_elem r ≡ x) (elem_rows x changes)
elem_parents x [] = tt
elem_parents x (d ∷ changes) = (refl, elem_parents x changes)

pub if_ids : (x : Id) (vers : List (ℕ × Ver)) → AllByRecursion (λ (r : IfRow). r.id ≡ x) (ifs_of x vers)
if_ids x [] = tt
if_ids x (v ∷ vers) =
    recursion_append (λ (r : IfRow). r.id ≡ x) (if_rows x v.1.srel v.0 1 v.1.ifs) (ifs_of x vers)
    (recursion_weaker (λ r. parent_of_if r ≡ (x, v.1.srel, v.0)) (λ r. r.id ≡ x)
    (λ r e. ap (λ (k : Id × Text × ℕ). k.0) e) _ (if_parents x v.1.srel v.0 1 v.1.ifs)) (if_ids x vers)

pub other_by : (x y z : Id) → y ≡ z → z ≢ x → y ≢ x
other_by x y z e other same = other (sym e ∙ same)

-- another ++VER, by its SREL and number
abbrev pub IsOtherVer : ℕ × Ver → ℕ × Ver → Type 0
IsOtherVer v w = w.1.srel ≡ v.1.srel → w.0 ≢ v.0

-- the ++IFs of one ++VER stand apart from those of others, and of other SYSMODs
ifs_taken : (x : Id) (vers : List (ℕ × Ver)) (rest : List IfRow) → IsAscending IsOtherVer vers
    → AllByRecursion (λ (r : IfRow). r.id ≢ x) rest → HasAllIfs x (ifs_of x vers ++ rest) vers rest
ifs_taken x [] rest up others = refl
ifs_taken x (v ∷ vers) rest up others =
    let of_rest = recursion_weaker (λ (r : IfRow). r.id ≢ x) (λ r. parent_of_if r ≢ (x, v.1.srel, v.0))
    (λ r other e. other (ap (λ (k : Id × Text × ℕ). k.0) e)) rest others in
    let of_vers = recursion_flat (λ (w : ℕ × Ver). if_rows x w.1.srel w.0 1 w.1.ifs) (IsOtherVer v)
    (λ r. parent_of_if r ≢ (x, v.1.srel, v.0))
    (λ w other. recursion_weaker (λ r. parent_of_if r ≡ (x, w.1.srel, w.0)) (λ r. parent_of_if r ≢ (x, v.1.srel, v.0))
    (λ r e f. other (ap (λ (k : Id × Text × ℕ). k.1) (sym e ∙ f)) (ap (λ (k : Id × Text × ℕ). k.2) (sym e ∙ f))) _
    (if_parents x w.1.srel w.0 1 w.1.ifs)) vers up.0 in
    let apart = stands_apart parent_of_if (x, v.1.srel, v.0) (ifs_of x vers ++ rest)
    (recursion_append _ (ifs_of x vers) rest of_vers of_rest) in (
      ifs_of x vers ++ rest,
      (append_assoc (if_rows x v.1.srel v.0 1 v.1.ifs) (ifs_of x vers) rest, apart),
      ifs_taken x vers rest up.1 others,
    )

pub weaker_pairs : {X : Type 0} (R S : X → X → Type 0) → ((x y : X) → R x y → S x y) → (xs : List X) → IsAscending R xs
    → IsAscending S xs
weaker_pairs R S f [] h = tt
weaker_pairs R S f (x ∷ xs) h = (recursion_weaker (R x) (S x) (f x) xs h.0, weaker_pairs R S f xs h.1)

other_ver : (v w : ℕ × Ver) → IsVerBefore v w → IsOtherVer v w
other_ver v w (inl before) same number = absurd (not_before_same v.1.srel w.1.srel (sym same) before)
other_ver v w (inr up) same number = absurd (let more = up.1 in omega (arith, more, number))

-- the ++VERs rise by SREL and number
pub numbers_up : (s : Sysmod) → IsBuilt s → IsAscending IsVerBefore (numbered s)
numbers_up s h = numbers_ascend s.kind [] s.vers (ascending (AreVersApart s.kind) s.vers h.apart)

abbrev pub BelowId : Sysmod → Sysmod → Type 0
BelowId s t = IsTrue (is_before s.id t.id)

pub flat_taken : (ss : List Sysmod) → IsAscending BelowId ss → AllByRecursion IsBuilt ss
    → AllByRecursion (λ s. s.holds ≡ []) ss → AreTaken (map head_of ss) ss (all_vers ss) (all_ifs ss) (all_elems ss)
flat_taken [] up built none = (refl, refl, refl)
flat_taken (s ∷ ss) up built none =
    let others : AllByRecursion (λ (t : Sysmod). t.id ≢ s.id) ss =
    recursion_weaker (BelowId s) (λ t. t.id ≢ s.id) (λ t low same. not_before_same s.id t.id (sym same) low) ss
    up.0 in
    let of_vers = recursion_flat (λ (t : Sysmod). ver_rows t.id (numbered t)) (λ t. t.id ≢ s.id)
    (λ r. parent_of_ver r ≢ s.id)
    (λ t other. recursion_weaker (λ r. parent_of_ver r ≡ t.id) (λ r. parent_of_ver r ≢ s.id)
    (λ r e. other_by s.id r.id t.id e other) _ (ver_parents t.id (numbered t))) ss others in
    let of_ifs = recursion_flat (λ (t : Sysmod). ifs_of t.id (numbered t)) (λ t. t.id ≢ s.id)
    (λ (r : IfRow). r.id ≢ s.id)
    (λ t other. recursion_weaker (λ (r : IfRow). r.id ≡ t.id) (λ r. r.id ≢ s.id)
    (λ r e. other_by s.id r.id t.id e other) _ (if_ids t.id (numbered t))) ss others in
    let of_elems = recursion_flat (λ (t : Sysmod). elem_rows t.id t.changes) (λ t. t.id ≢ s.id)
    (λ r. parent_of_elem r ≢ s.id)
    (λ t other. recursion_weaker (λ r. parent_of_elem r ≡ t.id) (λ r. parent_of_elem r ≢ s.id)
    (λ r e. other_by s.id r.id t.id e other) _ (elem_parents t.id t.changes)) ss others in
    let schemas = weaker_pairs IsVerBefore IsOtherVer other_ver (numbered s) (numbers_up s built.0)
    in (
      all_vers ss,
      all_ifs ss,
      all_elems ss,
      record {
        same = ap (λ x. record s { holds = x }) none.0;
        vers_are = (
          refl,
          stands_apart parent_of_ver s.id (all_vers ss) of_vers,
          ifs_taken s.id (numbered s) (all_ifs ss) schemas of_ifs,
        );
        elems_are = (refl, stands_apart parent_of_elem s.id (all_elems ss) of_elems);
        built = built.0;
      },
      flat_taken ss up.1 built.1 none.1,
    )

-- ---- one by one

pub taken_step : (x : HeadRow) (new : List HeadRow) (ss : List Sysmod) (vers : List VerRow) (ifs : List IfRow)
    (elems : List ElemRow) → AreTaken (x ∷ new) ss vers ifs elems
    → (s : Sysmod) × (left : List Sysmod) × (vers' : List VerRow) × (ifs' : List IfRow) × (elems' : List ElemRow)
    × (ss ≡ s ∷ left) × BeginsWithSysmod x s vers ifs elems vers' ifs' elems' × AreTaken new left vers' ifs' elems'
taken_step x new [] vers ifs elems h = absurd h
taken_step x new (s ∷ left) vers ifs elems h = (s, left, h.0, h.1, h.2, refl, h.3, h.4)

pub taken_as : (ss : List Sysmod) (heads h : List HeadRow) (vers v : List VerRow) (ifs i : List IfRow)
    (elems e : List ElemRow) → heads ≡ h → vers ≡ v → ifs ≡ i → elems ≡ e → AreTaken h ss v i e
    → AreTaken heads ss vers ifs elems
taken_as ss heads h vers v ifs i elems e p q r t taken =
    subst (λ x. AreTaken x ss vers ifs elems) (sym p) (subst (λ x. AreTaken h ss x ifs elems) (sym q)
    (subst (λ x. AreTaken h ss v x elems) (sym r) (subst (λ x. AreTaken h ss v i x) (sym t) taken)))
