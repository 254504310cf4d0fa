use Rattle.std.proofs.Common.{◌≡◌, ◌≢◌, List, map, IsPermutation, rules, sym, subst, ◌∙◌}
use Rattle.std.specs.List.{AllByRecursion}
use Rattle.store_rows.proofs.InsideLemmas.{if_ok}
use Rattle.store_schema.specs.declared.schema.Schema.{Schema}
use Rattle.store_schema.specs.declared.schema.Schema.TheVariants.{First}
use Rattle.store_schema.specs.Tables.{sysmod, source}
use Rattle.store_sysmods.specs.declared.head.BareHead.{BareHead}
use Rattle.store_sysmods.specs.declared.source.SourceRow.{SourceRow}
use Rattle.store_sysmods.specs.Heads.{row_of_bare, HasBareForms}
use Rattle.store_sysmods.specs.Sources.{row_of_source, HasSourceForms}
use Rattle.store_sysmod_loads.specs.Flats.{head_of}
use Rattle.store_sysmod_loads.specs.Joined.{bare_of, all_sources}
use Rattle.store_sysmod_loads.specs.Parts.{LoadsPart}
use Rattle.store_sysmod_loads.proofs.FlatLemmas.{rows_of_bare, rows_of_sources}
use Rattle.store_sysmod_loads.proofs.JoinLemmas.{bare_formed, sources_formed, joined_flat, joined_formed, joined_as}
use Rattle.store_sysmod_loads.proofs.Later.{later_rows, later_formed, later_held, later_joined}
use Rattle.store_sysmod_loads.proofs.PartLemmas.{part_err, part_more, part_then}
use Rattle.store_sysmod_loads.proofs.RiseLemmas.{bare_rise, sources_rise}
use Rattle.store_sysmod_loads.proofs.heads.load_and_join_heads.Given.{Over}
use Rattle.store_sysmod_loads.proofs.heads.load_and_join_heads.Goals.{After-load_sorted, After-load_sorted-2}
use Rattle.store_sysmod_loads.proofs.heads.load_and_join_heads.Goals as goal

-- the heads without their sources
bare_heads : (g : Over) (c : After-load_sorted g) (r : Schema) → r ≢ First → LoadsPart g.S.Store r
    (λ heads contents. IsPermutation (map row_of_bare heads.items) (contents sysmod.tree))
    (λ heads sysmods. heads.items ≡ map bare_of (map head_of sysmods)) c.args.conn.now c.load_sorted.new.conn
    c.load_sorted.result
bare_heads g c r later = record {
  found = λ clean contents was. c.load_sorted.ensures.found clean r tt contents was;
  only = λ clean contents was ss formed rows.
      if_ok c.load_sorted.result _ _ (λ heads only.
      only (map bare_of (map head_of ss)) (bare_formed (map head_of ss) (later_formed r later _ formed.heads))
      (bare_rise ss formed.whole) (rw (rows_of_bare ss) (later_rows r later ss contents rows.heads).0))
      (c.load_sorted.ensures.only clean r tt contents was);
  none = λ clean bad contents was ss formed rows.
      c.load_sorted.ensures.none clean bad r tt contents was (map bare_of (map head_of ss))
      (bare_formed (map head_of ss) (later_formed r later _ formed.heads))
      (rw (rows_of_bare ss) (later_rows r later ss contents rows.heads).0);
  reads = c.load_sorted.ensures.reads r tt;
}

-- the sources of all SYSMODs
all_their_sources : (g : Over) (c : After-load_sorted-2 g) (r : Schema) → r ≢ First → LoadsPart g.S.Store r
    (λ rows contents. IsPermutation (map row_of_source rows.items) (contents source.tree))
    (λ rows sysmods. rows.items ≡ all_sources (map head_of sysmods)) c.load_sorted.new.conn c.load_sorted-2.new.conn
    c.load_sorted-2.result
all_their_sources g c r later = record {
  found = λ clean contents was. c.load_sorted-2.ensures.found clean r later contents was;
  only = λ clean contents was ss formed rows.
      let forms = later_formed r later (map head_of ss) formed.heads in
      if_ok c.load_sorted-2.result _ _ (λ heads only.
      only (all_sources (map head_of ss)) (sources_formed (map head_of ss) forms) (sources_rise ss formed.whole forms)
      (rw (rows_of_sources ss) (later_rows r later ss contents rows.heads).1))
      (c.load_sorted-2.ensures.only clean r later contents was);
  none = λ clean bad contents was ss formed rows.
      c.load_sorted-2.ensures.none clean bad r later contents was (all_sources (map head_of ss))
      (sources_formed (map head_of ss) (later_formed r later (map head_of ss) formed.heads))
      (rw (rows_of_sources ss) (later_rows r later ss contents rows.heads).1);
  reads = c.load_sorted-2.ensures.reads r later;
}

pub returns-in_err-bare-clause-part : goal.returns-in_err-bare-clause-part
returns-in_err-bare-clause-part g c r later =
    let p = goal.at.returns-in_err-bare-clause-part g c in
    part_err (search rules) (λ bad. search rules) (λ failed. search rules) (bare_heads g p.After-load_sorted r later)

pub returns-in_err-sources-clause-part : goal.returns-in_err-sources-clause-part
returns-in_err-sources-clause-part g c r later =
    let p = goal.at.returns-in_err-sources-clause-part g c in
    part_err (search rules) (λ bad. search rules) (λ failed. search rules)
    (part_then c.in_ok-bare.was (bare_heads g p.After-load_sorted r later)
    (all_their_sources g p.After-load_sorted-2 r later))

pub returns-clause-part : goal.returns-clause-part
returns-clause-part g c r later =
    let p = goal.at.returns-clause-part g c in
    let bare = c.from.ensures.0 in
    let sources = c.from-2.ensures.0 in
    part_more c.join_sources.result c.in_ok-sources.was
    (if_ok c.join_sources.result _ _ (λ heads told contents held.
    let flat = joined_flat _ _ heads.items told in
    later_held r later heads.items contents
    (subst (λ (xs : List BareHead). IsPermutation (map row_of_bare xs) (contents sysmod.tree)) (sym bare ∙ flat.0)
    held.0)
    (subst (λ (xs : List SourceRow). IsPermutation (map row_of_source xs) (contents source.tree)) (sym sources ∙ flat.1)
    held.1)) c.join_sources.ensures.joined)
    (if_ok c.join_sources.result _ _ (λ heads only ss formed has.
    sym (only (map head_of ss) (joined_as _ _ _ _ _ (bare ∙ has.0) (sources ∙ has.1) (later_joined r later ss formed))))
    c.join_sources.ensures.only)
    (λ bad ss formed has. c.join_sources.ensures.none bad (map head_of ss)
    (joined_as _ _ _ _ _ (bare ∙ has.0) (sources ∙ has.1) (later_joined r later ss formed)))
    c.join_sources.ensures.fault
    (part_then c.in_ok-bare.was (bare_heads g p.After-load_sorted r later)
    (all_their_sources g p.After-load_sorted-2 r later))

pub returns-clause-forms : goal.returns-clause-forms
returns-clause-forms g c =
    if_ok c.join_sources.result _ _ (λ heads told.
    joined_formed _ _ heads.items told
    (subst (AllByRecursion HasBareForms) (sym c.from.ensures.0) c.in_ok-bare.ensures.forms)
    (subst (AllByRecursion HasSourceForms) (sym c.from-2.ensures.0) c.in_ok-sources.ensures.forms))
    c.join_sources.ensures.joined
