use Rattle.std.proofs.Common.{◌≡◌, [], List, IsPermutation, map, filter, rules, sym, ap, subst, ◌∙◌}
use Rattle.std.specs.List.{AllByRecursion}
use Rattle.terms.proofs.Each.{recursion_weaker}
use Rattle.store_rows.proofs.InsideLemmas.{if_ok}
use Rattle.store_rows.proofs.Queries.{reads_err}
use Rattle.store_schema.proofs.UnderEach.{rows_under, stands_rows}
use Rattle.store_schema.specs.Tables.{ver, ifreq, elem}
use Rattle.store_sysmods.specs.declared.head.HeadRow.{HeadRow}
use Rattle.store_sysmods.specs.declared.ver.VerRow.{VerRow}
use Rattle.store_sysmods.specs.declared.ifreq.IfRow.{IfRow}
use Rattle.store_sysmods.specs.Vers.{is_first_row, row_of_ver, HasVerRowForms}
use Rattle.store_sysmods.specs.Ifs.{is_first_if, row_of_if, HasIfRowForms}
use Rattle.store_sysmods.specs.Elems.{row_of_elem, HasElemRowForms}
use Rattle.store_sysmods.specs.Heads.{HasFormsUnder}
use Rattle.store_sysmod_loads.specs.Flats.{AreRowsOf}
use Rattle.store_sysmod_loads.specs.Gathered.{HoldHeads, HoldMoreVers, HoldMoreIfs}
use Rattle.store_sysmod_loads.specs.Parts.{LoadsPart}
use Rattle.store_sysmod_loads.proofs.FlatLemmas.{rows_of_vers, rows_of_ifs, rows_of_elems}
use Rattle.store_sysmod_loads.proofs.Further.{more_held}
use Rattle.store_sysmod_loads.proofs.Later.{heads_held}
use Rattle.store_sysmod_loads.proofs.Parted.{others}
use Rattle.store_sysmod_loads.proofs.PartLemmas.{part_more}
use Rattle.store_sysmod_loads.proofs.Standing.{stands_formed, inventory_rows}
use Rattle.store_sysmod_loads.proofs.load.load_sysmods.Given.{Over}
use Rattle.store_sysmod_loads.proofs.load.load_sysmods.Goals.{After-gather_sysmods}
use Rattle.store_sysmod_loads.proofs.load.load_sysmods.Goals as goal

pub gather_sysmods-requires : goal.gather_sysmods-requires
gather_sysmods-requires g c = recursion_weaker HasVerRowForms (λ r. r.ver.ifs ≡ []) (λ r h. h.2)
    c.in_ok-rows.rows.vers.items
    c.in_ok-rows.ensures.forms.vers

-- ---- the rows are not read

pub returns-in_err-rows-clause-no_rows : goal.returns-in_err-rows-clause-no_rows
returns-in_err-rows-clause-no_rows g c clean bad contents was sysmods formed =
    c.load_rows.ensures.part.none clean (search rules) contents was sysmods formed

pub returns-in_err-rows-clause-none : goal.returns-in_err-rows-clause-none
returns-in_err-rows-clause-none g c clean bad i stands =
    let r = c.args.schema in
    returns-in_err-rows-clause-no_rows g c clean bad (rows_under r i) (stands_rows r i _ stands) i.global.sysmods
    (stands_formed r i _ stands) (inventory_rows r i _ stands)

pub returns-in_err-rows-clause-reads : goal.returns-in_err-rows-clause-reads
returns-in_err-rows-clause-reads g c =
    reads_err g.S.Store _ _ _ c.args.conn.now c.load_rows.new.conn c.load_rows.result _ (search rules)
    (λ bad. search rules) (λ failed. search rules) c.load_rows.ensures.part.reads

-- ---- and they are

loaded : (g : Over) (c : After-gather_sysmods g) → LoadsPart g.S.Store c.args.schema
    (λ sysmods contents. AreRowsOf c.args.schema sysmods.items contents) (λ sysmods others. others ≡ sysmods.items)
    c.args.conn.now c.load_rows.new.conn c.gather_sysmods.result
loaded g c =
    let r = c.args.schema in
    part_more c.gather_sysmods.result c.in_ok-rows.was
    (if_ok c.gather_sysmods.result _ _ (λ sysmods told contents held.
    let ss = sysmods.items in
    record {
      heads = heads_held r ss contents (subst (λ (heads : List HeadRow). HoldHeads r heads contents) told.rows_are.heads
          held.heads);
      vers = subst (λ rows. IsPermutation rows (contents ver.tree))
          (ap (λ (rows : List VerRow). map row_of_ver (filter is_first_row rows)) told.rows_are.vers ∙ rows_of_vers ss)
          held.vers.firsts;
      ifs = subst (λ rows. IsPermutation rows (contents ifreq.tree))
          (ap (λ (rows : List IfRow). map row_of_if (filter is_first_if rows)) told.rows_are.ifs ∙ rows_of_ifs ss)
          held.ifs.firsts;
      elems = subst (λ rows. IsPermutation rows (contents elem.tree))
          (ap (map row_of_elem) told.rows_are.elems ∙ rows_of_elems ss) held.elems;
      more = more_held r ss contents told.whole
          (subst (λ (rows : List VerRow). HoldMoreVers r (others is_first_row rows) contents) told.rows_are.vers
          held.vers.more)
          (subst (λ (rows : List IfRow). HoldMoreIfs r (others is_first_if rows) contents) told.rows_are.ifs
          held.ifs.more);
    }) c.gather_sysmods.ensures.taken)
    (if_ok c.gather_sysmods.result _ _ (λ sysmods only ss formed has. only ss formed.whole has)
    c.gather_sysmods.ensures.only)
    (λ bad ss formed has. c.gather_sysmods.ensures.none bad ss formed.whole has)
    c.gather_sysmods.ensures.fault
    c.load_rows.ensures.part

pub returns-clause-rows : goal.returns-clause-rows
returns-clause-rows g c = (loaded g (goal.at.returns-clause-rows g c).After-gather_sysmods).found

pub returns-clause-no_rows : goal.returns-clause-no_rows
returns-clause-no_rows g c = (loaded g (goal.at.returns-clause-no_rows g c).After-gather_sysmods).none

pub returns-clause-reads : goal.returns-clause-reads
returns-clause-reads g c = (loaded g (goal.at.returns-clause-reads g c).After-gather_sysmods).reads

pub returns-clause-found : goal.returns-clause-found
returns-clause-found g c clean i stands =
    let r = c.args.schema in
    if_ok c.gather_sysmods.result _ _ (λ sysmods same. sym same)
    ((loaded g (goal.at.returns-clause-found g c).After-gather_sysmods).only clean (rows_under r i)
    (stands_rows r i _ stands) i.global.sysmods (stands_formed r i _ stands) (inventory_rows r i _ stands))

pub returns-clause-none : goal.returns-clause-none
returns-clause-none g c clean bad i stands =
    let r = c.args.schema in
    (loaded g (goal.at.returns-clause-none g c).After-gather_sysmods).none clean bad (rows_under r i)
    (stands_rows r i _ stands) i.global.sysmods (stands_formed r i _ stands) (inventory_rows r i _ stands)

pub returns-clause-forms : goal.returns-clause-forms
returns-clause-forms g c =
    let forms = c.in_ok-rows.ensures.forms in
    if_ok c.gather_sysmods.result _ _ (λ sysmods told. record {
      heads = subst (AllByRecursion (HasFormsUnder c.args.schema)) told.rows_are.heads forms.heads;
      vers = subst (AllByRecursion HasVerRowForms) told.rows_are.vers forms.vers;
      ifs = subst (AllByRecursion HasIfRowForms) told.rows_are.ifs forms.ifs;
      elems = subst (AllByRecursion HasElemRowForms) told.rows_are.elems forms.elems;
      whole = told.whole;
    }) c.gather_sysmods.ensures.taken
