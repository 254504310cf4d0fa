-- The rows of ++VERs and of ++IFs, in one table or in two.
use Rattle.std.proofs.Common.{◌≡◌, ◌⊎◌, inl, inr, List, [], map, filter, Bool, true, false, IsPermutation}
use Rattle.std.proofs.Common.{sym, ap, subst, ◌∙◌}
use Rattle.std.specs.List.{AllByRecursion}
use Rattle.terms.proofs.Each.{recursion_weaker}
use Rattle.sqlite.specs.Order.{Row}
use Rattle.terms.specs.Types.{Sysmod}
use Rattle.store_rows.specs.Rows.{Contents}
use Rattle.store_schema.specs.Tables.{ver, ifreq, morever, moreif}
use Rattle.store_schema.specs.declared.schema.Schema.{Schema}
use Rattle.store_schema.specs.declared.schema.Schema.TheVariants.{First, Second, Third}
use Rattle.store_sysmods.specs.declared.ver.VerRow.{VerRow}
use Rattle.store_sysmods.specs.declared.ifreq.IfRow.{IfRow}
use Rattle.store_sysmod_loads.specs.Both.{AreOfBoth, AreRowsIn}
use Rattle.store_sysmods.specs.Vers.{is_first_row, row_of_ver, HasFirstForms, HasVerRowForms}
use Rattle.store_sysmods.specs.Ifs.{is_first_if, row_of_if, HasFirstIfForms, HasIfRowForms}
use Rattle.store_sysmods.specs.MoreVers.{row_of_more_ver, HasFurtherForms}
use Rattle.store_sysmods.specs.MoreIfs.{row_of_more_if, HasFurtherIfForms}
use Rattle.store_sysmod_loads.specs.Flats.{all_vers, all_ifs, AreFormed, AreRowsOf}
use Rattle.store_sysmod_loads.specs.Gathered.{HoldVers, HoldIfs}
use Rattle.store_sysmod_loads.proofs.FlatLemmas.{rows_of_vers, rows_of_more_vers, rows_of_ifs, rows_of_more_ifs}
use Rattle.store_sysmod_loads.proofs.Further.{firsts_pass, furthers_fail, first_ifs_pass, further_ifs_fail}
use Rattle.store_sysmod_loads.proofs.Further.{first_forms, further_forms, first_if_forms, further_if_forms}
use Rattle.store_sysmod_loads.proofs.Further.{singles_first, singles_first_ifs}
use Rattle.store_sysmod_loads.proofs.Parted.{others, parted, first_part, other_part, rows_of_part, all_pass, none_left}

module _ {X : Type 0} (p : X → Bool) {row_of further_row_of : X → Row} {HasForm HasFurtherForm : X → Type 0} where
  -- what passes the test is in the first table, and what does not in the other
  held_apart : ((xs : List X) → AllByRecursion HasForm xs → AllByRecursion (λ x. p x ≡ true) xs)
      → ((xs : List X) → AllByRecursion HasFurtherForm xs → AllByRecursion (λ x. p x ≡ false) xs)
      → (held further_held : List Row) (firsts furthers rows : List X)
      → AreOfBoth row_of further_row_of HasForm HasFurtherForm held further_held firsts furthers rows
      → IsPermutation (map row_of (filter p rows)) held
      × IsPermutation (map further_row_of (others p rows)) further_held
  held_apart passes fails held further_held firsts furthers rows h =
      let pass = passes firsts h.firsts_forms in
      let fail = fails furthers h.furthers_forms in (
        rows_of_part p row_of _ firsts _ (first_part p firsts furthers rows pass fail h.all) h.firsts_are,
        rows_of_part p further_row_of _ furthers _ (other_part p firsts furthers rows pass fail h.all) h.furthers_are,
      )

module _ {X : Type 0} (p : X → Bool) (row_of : X → Row) (HasForm : X → Type 0) where
  -- where all pass there are no others
  held_alone : ((xs : List X) → AllByRecursion HasForm xs → AllByRecursion (λ x. p x ≡ true) xs)
      → (held : List Row) (rows : List X) → AllByRecursion HasForm rows → IsPermutation (map row_of rows) held
      → IsPermutation (map row_of (filter p rows)) held × (others p rows ≡ [])
  held_alone passes held rows forms same =
      let pass = passes rows forms in (
        subst (λ (xs : List X). IsPermutation (map row_of xs) held) (sym (all_pass p rows pass)) same,
        none_left p rows pass,
      )

  own_alone : (held own : List Row) (rows : List X) → AllByRecursion (λ x. p x ≡ true) rows
      → AllByRecursion HasForm (filter p rows) → map row_of (filter p rows) ≡ own → IsPermutation own held
      → AllByRecursion HasForm rows × IsPermutation (map row_of rows) held
  own_alone held own rows pass forms are same =
      let all = all_pass p rows pass in (
        subst (AllByRecursion HasForm) all forms,
        subst (λ l. IsPermutation l held) (sym are ∙ ap (map row_of) all) same,
      )

-- ---- ++VERs

abbrev pub AreVersIn : Schema → List VerRow → Contents → Type 0
AreVersIn r rows contents =
    AreRowsIn r row_of_ver row_of_more_ver HasFirstForms HasFurtherForms (contents ver.tree) (contents morever.tree)
    rows

pub vers_held : (r : Schema) (rows : List VerRow) (contents : Contents) → AreVersIn r rows contents
    → HoldVers r rows contents
vers_held First rows contents h =
    let it = held_alone is_first_row row_of_ver HasFirstForms firsts_pass _ rows h.0 h.1 in
    record { firsts = it.0; more = it.1 }
vers_held Second rows contents h =
    let it = held_alone is_first_row row_of_ver HasFirstForms firsts_pass _ rows h.0 h.1 in
    record { firsts = it.0; more = it.1 }
vers_held Third rows contents h =
    let it = held_apart is_first_row firsts_pass furthers_fail _ _ h.0 h.1 rows h.2 in
    record { firsts = it.0; more = it.1 }

pub its_vers : (r : Schema) (ss : List Sysmod) (contents : Contents) → AreFormed r ss → AreRowsOf r ss contents
    → AreVersIn r (all_vers ss) contents
its_vers First ss contents formed rows =
    own_alone is_first_row row_of_ver HasFirstForms _ _ (all_vers ss) (singles_first ss rows.more)
    (first_forms ss formed.vers) (rows_of_vers ss) rows.vers
its_vers Second ss contents formed rows =
    own_alone is_first_row row_of_ver HasFirstForms _ _ (all_vers ss) (singles_first ss rows.more)
    (first_forms ss formed.vers) (rows_of_vers ss) rows.vers
its_vers Third ss contents formed rows = (
  filter is_first_row (all_vers ss),
  others is_first_row (all_vers ss),
  record {
    firsts_forms = first_forms ss formed.vers;
    furthers_forms = further_forms ss formed.whole.built formed.vers;
    firsts_are = rw (rows_of_vers ss) rows.vers;
    furthers_are = rw (rows_of_more_vers ss) rows.more.0;
    all = parted is_first_row (all_vers ss);
  },
)

a_ver : (r : VerRow) → HasFirstForms r ⊎ HasFurtherForms r → HasVerRowForms r
a_ver r (inl h) = h.0
a_ver r (inr h) = h.0

pub vers_formed : (rows : List VerRow) → AllByRecursion (λ r. HasFirstForms r ⊎ HasFurtherForms r) rows
    → AllByRecursion HasVerRowForms rows
vers_formed = recursion_weaker (λ r. HasFirstForms r ⊎ HasFurtherForms r) HasVerRowForms a_ver

-- ---- ++IFs

abbrev pub AreIfsIn : Schema → List IfRow → Contents → Type 0
AreIfsIn r rows contents =
    AreRowsIn r row_of_if row_of_more_if HasFirstIfForms HasFurtherIfForms (contents ifreq.tree) (contents moreif.tree)
    rows

pub ifs_held : (r : Schema) (rows : List IfRow) (contents : Contents) → AreIfsIn r rows contents
    → HoldIfs r rows contents
ifs_held First rows contents h =
    let it = held_alone is_first_if row_of_if HasFirstIfForms first_ifs_pass _ rows h.0 h.1 in
    record { firsts = it.0; more = it.1 }
ifs_held Second rows contents h =
    let it = held_alone is_first_if row_of_if HasFirstIfForms first_ifs_pass _ rows h.0 h.1 in
    record { firsts = it.0; more = it.1 }
ifs_held Third rows contents h =
    let it = held_apart is_first_if first_ifs_pass further_ifs_fail _ _ h.0 h.1 rows h.2 in
    record { firsts = it.0; more = it.1 }

pub its_ifs : (r : Schema) (ss : List Sysmod) (contents : Contents) → AreFormed r ss → AreRowsOf r ss contents
    → AreIfsIn r (all_ifs ss) contents
its_ifs First ss contents formed rows =
    own_alone is_first_if row_of_if HasFirstIfForms _ _ (all_ifs ss) (singles_first_ifs ss rows.more)
    (first_if_forms ss formed.ifs) (rows_of_ifs ss) rows.ifs
its_ifs Second ss contents formed rows =
    own_alone is_first_if row_of_if HasFirstIfForms _ _ (all_ifs ss) (singles_first_ifs ss rows.more)
    (first_if_forms ss formed.ifs) (rows_of_ifs ss) rows.ifs
its_ifs Third ss contents formed rows = (
  filter is_first_if (all_ifs ss),
  others is_first_if (all_ifs ss),
  record {
    firsts_forms = first_if_forms ss formed.ifs;
    furthers_forms = further_if_forms ss formed.ifs;
    firsts_are = rw (rows_of_ifs ss) rows.ifs;
    furthers_are = rw (rows_of_more_ifs ss) rows.more.1;
    all = parted is_first_if (all_ifs ss);
  },
)

an_if : (r : IfRow) → HasFirstIfForms r ⊎ HasFurtherIfForms r → HasIfRowForms r
an_if r (inl h) = h.0
an_if r (inr h) = h.0

pub ifs_formed : (rows : List IfRow) → AllByRecursion (λ r. HasFirstIfForms r ⊎ HasFurtherIfForms r) rows
    → AllByRecursion HasIfRowForms rows
ifs_formed = recursion_weaker (λ r. HasFirstIfForms r ⊎ HasFurtherIfForms r) HasIfRowForms an_if
