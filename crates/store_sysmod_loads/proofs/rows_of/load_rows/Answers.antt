use Rattle.std.proofs.Common.{◌≡◌, Ok, IsPermutation, map, rules}
use Rattle.store_rows.proofs.InsideLemmas.{if_ok}
use Rattle.store_schema.specs.Tables.{elem}
use Rattle.store_sysmods.specs.Elems.{row_of_elem}
use Rattle.store_sysmod_loads.specs.Flats.{all_vers, all_ifs, all_elems}
use Rattle.store_sysmod_loads.specs.Gathered.{HoldVers, HoldIfs}
use Rattle.store_sysmod_loads.specs.Parts.{LoadsPart}
use Rattle.store_sysmod_loads.proofs.Apart.{part_of}
use Rattle.store_sysmod_loads.proofs.Both.{vers_held, its_vers, vers_formed, ifs_held, its_ifs, ifs_formed}
use Rattle.store_sysmod_loads.proofs.FlatLemmas.{rows_of_elems}
use Rattle.store_sysmod_loads.proofs.PartLemmas.{part_err, part_more, part_then}
use Rattle.store_sysmod_loads.proofs.RiseLemmas.{vers_rise, ifs_rise, elems_rise, elems_derived}
use Rattle.store_sysmod_loads.proofs.rows_of.load_rows.Given.{Over}
use Rattle.store_sysmod_loads.proofs.rows_of.load_rows.Goals.{After-load_firsts_and_furthers}
use Rattle.store_sysmod_loads.proofs.rows_of.load_rows.Goals.{After-load_firsts_and_furthers-2, After-load_sorted}
use Rattle.store_sysmod_loads.proofs.rows_of.load_rows.Goals as goal

vers : (g : Over) (c : After-load_firsts_and_furthers g)
    → LoadsPart g.S.Store c.args.schema (λ rows contents. HoldVers c.args.schema rows.items contents)
    (λ rows ss. rows.items ≡ all_vers ss) c.load_heads.new.conn c.load_firsts_and_furthers.new.conn
    c.load_firsts_and_furthers.result
vers g c =
    let r = c.args.schema in
    part_of all_vers (HoldVers r) (vers_held r) (its_vers r) (λ ss formed. vers_rise ss formed.whole)
    c.load_firsts_and_furthers.ensures.rows

ifs : (g : Over) (c : After-load_firsts_and_furthers-2 g)
    → LoadsPart g.S.Store c.args.schema (λ rows contents. HoldIfs c.args.schema rows.items contents)
    (λ rows ss. rows.items ≡ all_ifs ss) c.load_firsts_and_furthers.new.conn c.load_firsts_and_furthers-2.new.conn
    c.load_firsts_and_furthers-2.result
ifs g c =
    let r = c.args.schema in
    part_of all_ifs (HoldIfs r) (ifs_held r) (its_ifs r) (λ ss formed. ifs_rise ss formed.whole)
    c.load_firsts_and_furthers-2.ensures.rows

elems : (g : Over) (c : After-load_sorted g)
    → LoadsPart g.S.Store c.args.schema
    (λ rows contents. IsPermutation (map row_of_elem rows.items) (contents elem.tree))
    (λ rows ss. rows.items ≡ all_elems ss) c.load_firsts_and_furthers-2.new.conn c.load_sorted.new.conn
    c.load_sorted.result
elems g c = record {
  found = λ clean contents was. c.load_sorted.ensures.found clean c.args.schema tt contents was;
  only = λ clean contents was ss formed rows.
      if_ok c.load_sorted.result _ _ (λ items only.
      only (all_elems ss) formed.elems (elems_derived (all_elems ss) (elems_rise ss formed.whole))
      (rw (rows_of_elems ss) rows.elems))
      (c.load_sorted.ensures.only clean c.args.schema tt contents was);
  none = λ clean bad contents was ss formed rows.
      c.load_sorted.ensures.none clean bad c.args.schema tt contents was (all_elems ss) formed.elems
      (rw (rows_of_elems ss) rows.elems);
  reads = c.load_sorted.ensures.reads c.args.schema tt;
}

pub returns-in_err-heads-clause-part : goal.returns-in_err-heads-clause-part
returns-in_err-heads-clause-part g c =
    part_err (search rules) (λ bad. search rules) (λ failed. search rules) c.load_heads.ensures.part

pub returns-in_err-vers-clause-part : goal.returns-in_err-vers-clause-part
returns-in_err-vers-clause-part g c =
    let p = goal.at.returns-in_err-vers-clause-part g c in
    let two = part_then c.in_ok-heads.was c.load_heads.ensures.part (vers g p.After-load_firsts_and_furthers) in
    part_err (search rules) (λ bad. search rules) (λ failed. search rules) two

pub returns-in_err-ifs-clause-part : goal.returns-in_err-ifs-clause-part
returns-in_err-ifs-clause-part g c =
    let p = goal.at.returns-in_err-ifs-clause-part g c in
    let two = part_then c.in_ok-heads.was c.load_heads.ensures.part (vers g p.After-load_firsts_and_furthers) in
    let three = part_then c.in_ok-vers.was two (ifs g p.After-load_firsts_and_furthers-2) in
    part_err (search rules) (λ bad. search rules) (λ failed. search rules) three

pub returns-in_err-elems-clause-part : goal.returns-in_err-elems-clause-part
returns-in_err-elems-clause-part g c =
    let p = goal.at.returns-in_err-elems-clause-part g c in
    let two = part_then c.in_ok-heads.was c.load_heads.ensures.part (vers g p.After-load_firsts_and_furthers) in
    let three = part_then c.in_ok-vers.was two (ifs g p.After-load_firsts_and_furthers-2) in
    let four = part_then c.in_ok-ifs.was three (elems g p.After-load_sorted) in
    part_err (search rules) (λ bad. search rules) (λ failed. search rules) four

pub returns-clause-part : goal.returns-clause-part
returns-clause-part g c =
    let p = goal.at.returns-clause-part g c in
    let two = part_then c.in_ok-heads.was c.load_heads.ensures.part (vers g p.After-load_firsts_and_furthers) in
    let three = part_then c.in_ok-vers.was two (ifs g p.After-load_firsts_and_furthers-2) in
    let four = part_then c.in_ok-ifs.was three (elems g p.After-load_sorted) in
    part_more (Ok _) c.in_ok-elems.was
    (λ contents h. record {
      heads = h.0.0.0;
      vers = h.0.0.1;
      ifs = h.0.1;
      elems = h.1;
    })
    (λ ss formed h. record { heads = h.0.0.0; vers = h.0.0.1; ifs = h.0.1; elems = h.1 })
    (λ bad. search rules) (λ failed. search rules) four

pub returns-clause-forms : goal.returns-clause-forms
returns-clause-forms g c = record {
  heads = c.in_ok-heads.ensures.forms;
  vers = vers_formed _ c.in_ok-vers.ensures.forms;
  ifs = ifs_formed _ c.in_ok-ifs.ensures.forms;
  elems = c.in_ok-elems.ensures.forms;
}
