-- What the tables hold when a SYSMOD comes, goes, or has other sources.
use Rattle.std.proofs.Common.{◌≡◌, inl, inr, arith, ℕ, List, [], ◌∷◌, ◌++◌, append-nil, map, filter, length, Bool, true}
use Rattle.std.proofs.Common.{false, not, if◌then◌else◌, IsPermutation, Ordering, Less, Equal, Greater, refl, sym, ap}
use Rattle.std.proofs.Common.{ap₂, subst, subst₂, ◌∙◌}
use Rattle.std.specs.List.{AllByRecursion, flat_map, enumerate_from}
use Rattle.std.specs.Prelude.{find, is_some}
use Rattle.std.specs.Ordering.{is_lt, is_eq, nat_cmp, ordering_reverse}
use Rattle.std.specs.Cmp.Lexicographic.{slice_cmp}
use Rattle.std.specs.Str.{bytes_eq}
use Rattle.std.proofs.lemmas.Cmp.{nat_list_cmp_total}
use Rattle.std.proofs.lemmas.Map.Text.{is_eq-slice_cmp}
use Rattle.std.proofs.lemmas.List.Concat.{flat_map_single}
use Rattle.std.proofs.lemmas.List.{append_assoc}
use Rattle.std.proofs.lemmas.List.Sorted.{IsPermutation-refl, IsPermutation-sym, IsPermutation-trans}
use Rattle.std.proofs.lemmas.List.Sorted.{IsPermutation-append_right}
use Rattle.sqlite.specs.declared.types.Value.TheVariants as value
use Rattle.sqlite.specs.Effect.{Database}
use Rattle.sqlite.specs.Order.{Row}
use Rattle.sqlite.specs.Table.{Table}
use Rattle.sqlite_rules.specs.Lists.{Has}
use Rattle.sqlite_rules.proofs.ListLemmas.{has_left, has_kept}
use Rattle.terms.specs.Types.{Text, Id, Ver, Sysmod, Global}
use Rattle.terms.specs.Global.{with_sysmod}
use Rattle.terms.specs.Lookups.{is_received}
use Rattle.terms.proofs.TextOrder.{same_from}
use Rattle.sysmods_values.specs.Edited.{with_sources, less_sysmod}
use Rattle.store_rows.specs.Rows.{Contents, has_key, without, HasContents}
use Rattle.store_rows.proofs.Keys.{equals, and_true}
use Rattle.store_rows.proofs.ContentsLemmas.{permuted}
use Rattle.store_rows.proofs.Parts.{moved_front}
use Rattle.store_rows.proofs.RowLemmas.{same_rows}
use Rattle.store_schema.specs.Inventory.{Inventory}
use Rattle.store_schema.specs.Rows.{sysmod_row, source_row, sources_of, ver_row, vers_of, ifreq_row, ifreqs_of}
use Rattle.store_schema.specs.Rows.{elem_row, elems_of, morever_row, morevers_of, moreif_row, moreifs_of}
use Rattle.store_schema.specs.Rows.{first_vers, further_vers, hold_row}
use Rattle.store_schema.specs.Stands.{rows_of}
use Rattle.store_schema.specs.Tables.{store_schema, meta, sysmod, ver, ifreq, hold, elem, zone, entry, zelem, source}
use Rattle.store_schema.specs.Tables.{morever, moreif, chosen}
use Rattle.store_sysmods.specs.Sysmods.{AreNew, with_sysmods, with_sysmods_rows, without_sysmod_rows}
use Rattle.store_sysmods.specs.Sysmods.{with_source_rows, sysmod_key}
use Rattle.store_sysmods.proofs.KeyLemmas.{at_most_one, has_sysmod}
use Rattle.store_sysmods.proofs.Partings.{parted, between, all_map, all_flat, without_items, flat_kept}

-- the tables that hold no rows of SYSMODs
abbrev other_tables : List Table
other_tables = meta ∷ hold ∷ zone ∷ entry ∷ zelem ∷ chosen ∷ []

-- The tables hold the rows of SYSMODs in another order, and in the other tables the same.
permuted_sysmods : (c d : Contents) (db : Database) → AllByRecursion (λ t. d t.tree ≡ c t.tree) other_tables
    → IsPermutation (d sysmod.tree) (c sysmod.tree) → IsPermutation (d source.tree) (c source.tree)
    → IsPermutation (d ver.tree) (c ver.tree) → IsPermutation (d ifreq.tree) (c ifreq.tree)
    → IsPermutation (d elem.tree) (c elem.tree) → IsPermutation (d morever.tree) (c morever.tree)
    → IsPermutation (d moreif.tree) (c moreif.tree) → HasContents store_schema c db → HasContents store_schema d db
permuted_sysmods c d db others on_sysmod on_source on_ver on_ifreq on_elem on_morever on_moreif =
    let at_hold = others.1 in
    let at_zone = at_hold.1 in
    let at_entry = at_zone.1 in
    let at_zelem = at_entry.1 in
    let at_chosen = at_zelem.1 in
    permuted store_schema c d db (
      same_rows others.0,
      (
        on_sysmod,
        (
          on_ver,
          (
            on_ifreq,
            (
              same_rows at_hold.0,
              (
                on_elem,
                (
                  same_rows at_zone.0,
                  (
                    same_rows at_entry.0,
                    (
                      same_rows at_zelem.0,
                      (
                        on_source,
                        (on_morever, (on_moreif, (same_rows at_chosen.0, tt))),
                      ),
                    ),
                  ),
                ),
              ),
            ),
          ),
        ),
      ),
    )

-- ---- a SYSMOD comes

none_found : (x : Id) (ss : List Sysmod) → is_some (find (λ (s : Sysmod). bytes_eq s.id x) ss) ≡ false → (s : Sysmod)
    → Has ss s → bytes_eq s.id x ≡ false
none_found x [] none s h = absurd h
none_found x (r ∷ ss) none s h = go (bytes_eq r.id x) refl none h (none_found x ss)
  where
    go : (b : Bool) → bytes_eq r.id x ≡ b → is_some (find (λ (s : Sysmod). bytes_eq s.id x) (r ∷ ss)) ≡ false
        → Has (r ∷ ss) s
        → (is_some (find (λ (s : Sysmod). bytes_eq s.id x) ss) ≡ false → (s : Sysmod) → Has ss s
        → bytes_eq s.id x ≡ false) → bytes_eq s.id x ≡ false
    go true e none h later = absurd (let wrong = rw e at none in cc)
    go false e none (inl here) later = ap (λ (t : Sysmod). bytes_eq t.id x) here ∙ e
    go false e none (inr there) later = later (rw e at none) s there

one_side : (o p : Ordering) → p ≡ ordering_reverse o → is_eq o ≡ false → is_lt p ≡ not (is_lt o)
one_side Less p e other = ap is_lt e
one_side Equal p e other = absurd cc
one_side Greater p e other = ap is_lt e

-- of two ids that differ one stands before the other
apart : (x y : Id) → bytes_eq x y ≡ false → is_lt (slice_cmp nat_cmp y x) ≡ not (is_lt (slice_cmp nat_cmp x y))
apart x y other = one_side (slice_cmp nat_cmp x y) (slice_cmp nat_cmp y x) (nat_list_cmp_total.antisymm y x)
    (is_eq-slice_cmp x y ∙ other)

-- the rows of all SYSMODs, one row or more for each
abbrev own_row : Sysmod → List Row
own_row s = sysmod_row s ∷ []

rows_between : (g : Global) (s : Sysmod) (f : Sysmod → List Row) → is_received g s.id ≡ false
    → IsPermutation (flat_map f (with_sysmod g s).sysmods) (f (record s { holds = [] }) ++ flat_map f g.sysmods)
rows_between g s f none =
    between f (λ r. is_lt (slice_cmp nat_cmp r.id s.id)) (λ r. is_lt (slice_cmp nat_cmp s.id r.id)) g.sysmods
    (record s { holds = [] }) (λ r h. apart r.id s.id (none_found s.id g.sysmods none r h))

-- Several come, whose rows do not tell holds.
rows_added : (f : Sysmod → List Row) → ((s : Sysmod) → f (record s { holds = [] }) ≡ f s) → (ss : List Sysmod)
    (g : Global) → AreNew ss g
    → IsPermutation (flat_map f (with_sysmods ss g).sysmods) (flat_map f ss ++ flat_map f g.sysmods)
rows_added f same [] g new = IsPermutation-refl _
rows_added f same (s ∷ ss) g (none, later) =
    let first = subst (λ l. IsPermutation (flat_map f (with_sysmod g s).sysmods) (l ++ flat_map f g.sysmods)) (same s)
    (rows_between g s f none) in
    subst (IsPermutation (flat_map f (with_sysmods ss (with_sysmod g s)).sysmods))
    (sym (append_assoc (f s) (flat_map f ss) (flat_map f g.sysmods)))
    (IsPermutation-trans _ _ _ (rows_added f same ss (with_sysmod g s) later)
    (IsPermutation-trans _ _ _ (IsPermutation-append_right (flat_map f ss) _ _ first)
    (moved_front (flat_map f ss) (f s) (flat_map f g.sysmods))))

holds_kept : (ss : List Sysmod) (g : Global) → (with_sysmods ss g).holds ≡ g.holds
holds_kept [] g = refl
holds_kept (s ∷ ss) g = holds_kept ss (with_sysmod g s)

pub sysmods_added : (ss : List Sysmod) (i : Inventory) (db : Database) → AreNew ss i.global
    → HasContents store_schema (with_sysmods_rows ss (rows_of i)) db
    → HasContents store_schema (rows_of (record i { global = with_sysmods ss i.global })) db
sysmods_added ss i db new =
    let all = i.global.sysmods in
    let own : IsPermutation (map sysmod_row (with_sysmods ss i.global).sysmods)
    (map sysmod_row ss ++ map sysmod_row all) =
    subst₂ IsPermutation (flat_map_single sysmod_row (with_sysmods ss i.global).sysmods)
    (ap₂ ◌++◌ (flat_map_single sysmod_row ss) (flat_map_single sysmod_row all))
    (rows_added own_row (λ s. refl) ss i.global new) in
    permuted_sysmods (with_sysmods_rows ss (rows_of i)) (rows_of (record i { global = with_sysmods ss i.global })) db
    (refl, (ap (map hold_row) (holds_kept ss i.global), (refl, (refl, (refl, (refl, tt)))))) own
    (rows_added sources_of (λ s. refl) ss i.global new) (rows_added vers_of (λ s. refl) ss i.global new)
    (rows_added ifreqs_of (λ s. refl) ss i.global new) (rows_added elems_of (λ s. refl) ss i.global new)
    (rows_added morevers_of (λ s. refl) ss i.global new) (rows_added moreifs_of (λ s. refl) ss i.global new)

-- ---- a SYSMOD goes

-- whatever its other cells are
begins : (id x : Id) (cells : Row) → has_key (sysmod_key id) (value.Text x ∷ cells) ≡ bytes_eq x id
begins id x cells = and_true _ ∙ equals x id

module _ (id : Id) where
  abbrev IsOf : Sysmod → Row → Type 0
  IsOf s r = has_key (sysmod_key id) r ≡ bytes_eq s.id id

  pub own_sources : (s : Sysmod) → AllByRecursion (IsOf s) (sources_of s)
  own_sources s = all_map (IsOf s) (source_row s.id) (λ name. begins id s.id []) s.sources

  own_vers : (s : Sysmod) → AllByRecursion (IsOf s) (vers_of s)
  own_vers s = all_map (IsOf s) (λ (v : ℕ × Ver). ver_row s.id v.1) (λ v. begins id s.id []) (first_vers s)

  own_ifreqs : (s : Sysmod) → AllByRecursion (IsOf s) (ifreqs_of s)
  own_ifreqs s = all_flat (IsOf s) (λ (v : ℕ × Ver). map (ifreq_row s.id v.1.srel) (enumerate_from 1 v.1.ifs))
      (λ v. all_map (IsOf s) (ifreq_row s.id v.1.srel) (λ j. begins id s.id []) (enumerate_from 1 v.1.ifs))
      (first_vers s)

  own_morevers : (s : Sysmod) → AllByRecursion (IsOf s) (morevers_of s)
  own_morevers s = all_map (IsOf s) (morever_row s.id) (λ v. begins id s.id []) (further_vers s)

  own_moreifs : (s : Sysmod) → AllByRecursion (IsOf s) (moreifs_of s)
  own_moreifs s = all_flat (IsOf s) (λ (v : ℕ × Ver). map (moreif_row s.id v.1.srel v.0) (enumerate_from 1 v.1.ifs))
      (λ v. all_map (IsOf s) (moreif_row s.id v.1.srel v.0) (λ j. begins id s.id []) (enumerate_from 1 v.1.ifs))
      (further_vers s)

  own_elems : (s : Sysmod) → AllByRecursion (IsOf s) (elems_of s)
  own_elems s = all_map (IsOf s) (elem_row s.id) (λ c. begins id s.id []) s.changes

  left_in : (f : Sysmod → List Row) → ((s : Sysmod) → AllByRecursion (IsOf s) (f s)) → (ss : List Sysmod)
      → flat_map f (filter (λ s. not (bytes_eq s.id id)) ss) ≡ without (sysmod_key id) (flat_map f ss)
  left_in f own ss = without_items f (λ s. bytes_eq s.id id) (has_key (sysmod_key id)) own ss

  pub sysmod_removed : (i : Inventory) (db : Database) → HasContents store_schema (without_sysmod_rows id (rows_of i))
      db → HasContents store_schema (rows_of (record i { global = less_sysmod id i.global })) db
  sysmod_removed i db =
      let all = i.global.sysmods in
      let left = filter (λ (s : Sysmod). not (bytes_eq s.id id)) all in
      let own : map sysmod_row left ≡ without (sysmod_key id) (map sysmod_row all) =
      sym (flat_map_single sysmod_row left) ∙ left_in own_row (λ s. (begins id s.id [], tt)) all
      ∙ ap (without (sysmod_key id)) (flat_map_single sysmod_row all) in
      permuted_sysmods (without_sysmod_rows id (rows_of i)) (rows_of (record i { global = less_sysmod id i.global })) db
      (refl, (refl, (refl, (refl, (refl, (refl, tt)))))) (same_rows own)
      (same_rows (left_in sources_of own_sources all)) (same_rows (left_in vers_of own_vers all))
      (same_rows (left_in ifreqs_of own_ifreqs all)) (same_rows (left_in elems_of own_elems all))
      (same_rows (left_in morevers_of own_morevers all)) (same_rows (left_in moreifs_of own_moreifs all))

-- ---- a SYSMOD has other sources

module _ (s : Sysmod) where
  abbrev sourced : Sysmod → Sysmod
  sourced r = if bytes_eq r.id s.id then record r { sources = s.sources } else r

  -- rows that do not tell sources
  kept_rows : (f : Sysmod → List Row) → ((r : Sysmod) → f (record r { sources = s.sources }) ≡ f r)
      → (ss : List Sysmod) → flat_map f (map sourced ss) ≡ flat_map f ss
  kept_rows f same = flat_kept f sourced (λ r. go r (bytes_eq r.id s.id))
    where
      go : (r : Sysmod) (b : Bool) → f (if b then record r { sources = s.sources } else r) ≡ f r
      go r true = same r
      go r false = refl

  abbrev is_it : Sysmod → Bool
  is_it r = bytes_eq r.id s.id

  -- those of each SYSMOD of the id are the new ones, and the others are kept
  new_sources : (ss : List Sysmod) → flat_map sources_of (filter is_it (map sourced ss))
      ≡ flat_map (λ r. sources_of s) (filter is_it ss)
  new_sources [] = refl
  new_sources (r ∷ ss) = go (is_it r) refl (new_sources ss)
    where
      go : (b : Bool) → is_it r ≡ b
          → flat_map sources_of (filter is_it (map sourced ss)) ≡ flat_map (λ r. sources_of s) (filter is_it ss)
          → flat_map sources_of (filter is_it (map sourced (r ∷ ss)))
          ≡ flat_map (λ r. sources_of s) (filter is_it (r ∷ ss))
      go true e later =
          let own : map (source_row r.id) s.sources ≡ sources_of s =
          ap (λ x. map (source_row x) s.sources) (same_from r.id s.id e) in
          rw (e, e) (ap₂ ◌++◌ own later)
      go false e later = rw (e, e) later

  old_sources : (ss : List Sysmod) → flat_map sources_of (filter (λ r. not (is_it r)) (map sourced ss))
      ≡ flat_map sources_of (filter (λ r. not (is_it r)) ss)
  old_sources [] = refl
  old_sources (r ∷ ss) = go (is_it r) refl (old_sources ss)
    where
      go : (b : Bool) → is_it r ≡ b
          → flat_map sources_of (filter (λ r. not (is_it r)) (map sourced ss))
          ≡ flat_map sources_of (filter (λ r. not (is_it r)) ss)
          → flat_map sources_of (filter (λ r. not (is_it r)) (map sourced (r ∷ ss)))
          ≡ flat_map sources_of (filter (λ r. not (is_it r)) (r ∷ ss))
      go true e later = rw (e, e) later
      go false e later = rw (e, e) (ap (λ rows. sources_of r ++ rows) later)

  own_rows : (ss : List Sysmod)
      → filter (has_key (sysmod_key s.id)) (map sysmod_row ss) ≡ map sysmod_row (filter is_it ss)
  own_rows [] = refl
  own_rows (r ∷ ss) = go (is_it r) refl (own_rows ss)
    where
      go : (b : Bool) → is_it r ≡ b
          → filter (has_key (sysmod_key s.id)) (map sysmod_row ss) ≡ map sysmod_row (filter is_it ss)
          → filter (has_key (sysmod_key s.id)) (map sysmod_row (r ∷ ss)) ≡ map sysmod_row (filter is_it (r ∷ ss))
      go true e later = rw (begins s.id r.id [], e) (ap (λ rows. sysmod_row r ∷ rows) later)
      go false e later = rw (begins s.id r.id [], e) later

  module _ (i : Inventory) (db : Database)
      (held : HasContents store_schema (with_source_rows s (rows_of i)) db) where
    abbrev all_of : List Sysmod
    all_of = i.global.sysmods

    -- where no SYSMOD has the id, there are no sources,
    no_sources : filter is_it all_of ≡ [] → (names : List Text) → s.sources ≡ names → sources_of s ≡ []
    no_sources none [] is = ap (map (source_row s.id)) is
    no_sources none (name ∷ names) is =
        let there : Has (sources_of s) (source_row s.id name) =
        subst (λ l. Has (map (source_row s.id) l) (source_row s.id name)) (sym is) (inl refl) in
        let its = has_sysmod (with_source_rows s (rows_of i)) db held s.id (value.Text name ∷ [])
        (has_left (sources_of s) _ (source_row s.id name) there) in
        absurd (subst (λ l. Has l its.0) (own_rows all_of ∙ ap (map sysmod_row) none)
        (has_kept (has_key (sysmod_key s.id)) (map sysmod_row all_of) its.0 its.1 its.2))

    -- and no more than one has it
    one_has : (l : List Sysmod) → filter is_it all_of ≡ l → flat_map (λ r. sources_of s) l ≡ sources_of s
    one_has [] is = sym (no_sources is s.sources refl)
    one_has (r ∷ []) is = append-nil (sources_of s)
    one_has (q ∷ r ∷ rest) is =
        let few = at_most_one (with_source_rows s (rows_of i)) db held s.id in
        let two = ap length (own_rows all_of ∙ ap (map sysmod_row) is) in
        absurd (omega (arith, few, two))

    pub sources_replaced : HasContents store_schema
        (rows_of (record i { global = with_sources s.id s.sources i.global })) db
    sources_replaced =
        let parts : flat_map sources_of (filter is_it (map sourced all_of))
        ++ flat_map sources_of (filter (λ r. not (is_it r)) (map sourced all_of))
        ≡ sources_of s ++ without (sysmod_key s.id) (flat_map sources_of all_of) =
        ap₂ ◌++◌ (new_sources all_of ∙ one_has (filter is_it all_of) refl)
        (old_sources all_of ∙ left_in s.id sources_of (own_sources s.id) all_of) in
        let sources = subst (IsPermutation (flat_map sources_of (map sourced all_of))) parts
        (IsPermutation-sym _ _ (parted sources_of is_it (λ r. not (is_it r)) (map sourced all_of) (λ r h. refl))) in
        let own : map sysmod_row (map sourced all_of) ≡ map sysmod_row all_of =
        sym (flat_map_single sysmod_row (map sourced all_of)) ∙ kept_rows own_row (λ r. refl) all_of
        ∙ flat_map_single sysmod_row all_of in
        permuted_sysmods (with_source_rows s (rows_of i))
        (rows_of (record i { global = with_sources s.id s.sources i.global })) db
        (refl, (refl, (refl, (refl, (refl, (refl, tt)))))) (same_rows own) sources
        (same_rows (kept_rows vers_of (λ r. refl) all_of)) (same_rows (kept_rows ifreqs_of (λ r. refl) all_of))
        (same_rows (kept_rows elems_of (λ r. refl) all_of)) (same_rows (kept_rows morevers_of (λ r. refl) all_of))
        (same_rows (kept_rows moreifs_of (λ r. refl) all_of)) held
