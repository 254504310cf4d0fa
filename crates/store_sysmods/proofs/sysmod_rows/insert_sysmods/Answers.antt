use Rattle.std.proofs.Common.{List, ◌++◌, map, ap, ◌∙◌}
use Rattle.std.specs.List.{flat_map}
use Rattle.terms.specs.Types.{Sysmod}
use Rattle.store_rows.specs.Calls.{Call, puts}
use Rattle.store_rows.specs.Rows.{as_bound}
use Rattle.store_rows.proofs.InsideLemmas.{on_ok, continues_then}
use Rattle.store_schema.specs.Rows.{sysmod_row, sources_of, vers_of, ifreqs_of, elems_of, morevers_of, moreifs_of}
use Rattle.store_schema.specs.Stands.{rows_of}
use Rattle.store_schema.specs.Tables.{store_schema, sysmod, source, ver, ifreq, elem, morever, moreif}
use Rattle.store_sysmods.specs.Calls.{insert_sysmods_calls}
use Rattle.store_sysmods.specs.Elems.{insert_elem, insert_elems}
use Rattle.store_sysmods.specs.Heads.{insert_sysmod, insert_sysmods}
use Rattle.store_sysmods.specs.Ifs.{insert_ifreq, insert_ifreqs}
use Rattle.store_sysmods.specs.MoreIfs.{insert_moreif, insert_moreifs}
use Rattle.store_sysmods.specs.MoreVers.{insert_morever, insert_morevers}
use Rattle.store_sysmods.specs.Sources.{insert_source, insert_sources}
use Rattle.store_sysmods.specs.Vers.{insert_ver, insert_vers}
use Rattle.store_sysmods.specs.Steps.{RunsCalls, Puts}
use Rattle.store_sysmods.specs.Sysmods.{AreWaitingRows, with_sysmods_rows}
use Rattle.store_sysmods.proofs.Kept.{kept_sysmods, kept_sources, kept_vers, kept_ifreqs, kept_elems, kept_morevers}
use Rattle.store_sysmods.proofs.Kept.{kept_moreifs}
use Rattle.store_sysmods.proofs.Steps.{puts_rows, step_ok, step_then, step_stops, each_ok}
use Rattle.store_sysmods.proofs.SysmodLemmas.{sysmods_added}
use Rattle.store_sysmods.proofs.Texts.{puts_sysmod, puts_sysmods, puts_source, puts_sources, puts_ver, puts_vers}
use Rattle.store_sysmods.proofs.Texts.{puts_ifreq, puts_ifreqs, puts_elem, puts_elems, puts_morever, puts_morevers}
use Rattle.store_sysmods.proofs.Texts.{puts_moreif, puts_moreifs}
use Rattle.store_sysmods.proofs.sysmod_rows.insert_sysmods.Given.{Over}
use Rattle.store_sysmods.proofs.sysmod_rows.insert_sysmods.Goals.{After-insert_rows, After-insert_rows-2}
use Rattle.store_sysmods.proofs.sysmod_rows.insert_sysmods.Goals.{After-insert_rows-3, After-insert_rows-4}
use Rattle.store_sysmods.proofs.sysmod_rows.insert_sysmods.Goals.{After-insert_rows-5, After-insert_rows-6}
use Rattle.store_sysmods.proofs.sysmod_rows.insert_sysmods.Goals.{After-insert_rows-7}
use Rattle.store_sysmods.proofs.sysmod_rows.insert_sysmods.Goals as goal

module _ (ss : List Sysmod) where
  -- the statements behind those of each table
  abbrev behind_morevers : List Call
  behind_morevers = puts insert_moreifs insert_moreif (flat_map moreifs_of ss)

  abbrev behind_elems : List Call
  behind_elems = puts insert_morevers insert_morever (flat_map morevers_of ss) ++ behind_morevers

  abbrev behind_ifreqs : List Call
  behind_ifreqs = puts insert_elems insert_elem (flat_map elems_of ss) ++ behind_elems

  abbrev behind_vers : List Call
  behind_vers = puts insert_ifreqs insert_ifreq (flat_map ifreqs_of ss) ++ behind_ifreqs

  abbrev behind_sources : List Call
  behind_sources = puts insert_vers insert_ver (flat_map vers_of ss) ++ behind_vers

  abbrev behind_sysmods : List Call
  behind_sysmods = puts insert_sources insert_source (flat_map sources_of ss) ++ behind_sources

-- ---- each table

module _ (g : Over) (ss : List Sysmod) where
  sysmods : (c : After-insert_rows g) → AreWaitingRows c.args.rows.now ss
      → Puts g.S.Store insert_sysmods insert_sysmod sysmod (map sysmod_row ss) c.args.tx.now
      c.insert_rows.new.tx c.insert_rows.result
  sysmods c are =
      puts_rows g.S.Store insert_sysmods insert_sysmod sysmod
      (ap (map as_bound) c.as_slice-sysmods.ensures.value ∙ are.sysmods) (kept_sysmods ss)
      c.insert_rows.ensures.continues c.insert_rows.ensures.calls (on_ok c.insert_rows.result _ _
      (λ ran. ran store_schema 1 sysmod puts_sysmods puts_sysmod) c.insert_rows.ensures.ok)

  sources : (c : After-insert_rows-2 g) → AreWaitingRows c.args.rows.now ss
      → Puts g.S.Store insert_sources insert_source source (flat_map sources_of ss) c.insert_rows.new.tx
      c.insert_rows-2.new.tx c.insert_rows-2.result
  sources c are =
      puts_rows g.S.Store insert_sources insert_source source
      (ap (map as_bound) c.as_slice-sources.ensures.value ∙ are.sources) (kept_sources ss)
      c.insert_rows-2.ensures.continues c.insert_rows-2.ensures.calls (on_ok c.insert_rows-2.result _ _
      (λ ran. ran store_schema 9 source puts_sources puts_source) c.insert_rows-2.ensures.ok)

  vers : (c : After-insert_rows-3 g) → AreWaitingRows c.args.rows.now ss
      → Puts g.S.Store insert_vers insert_ver ver (flat_map vers_of ss) c.insert_rows-2.new.tx
      c.insert_rows-3.new.tx c.insert_rows-3.result
  vers c are =
      puts_rows g.S.Store insert_vers insert_ver ver
      (ap (map as_bound) c.as_slice-vers.ensures.value ∙ are.vers) (kept_vers ss)
      c.insert_rows-3.ensures.continues c.insert_rows-3.ensures.calls (on_ok c.insert_rows-3.result _ _
      (λ ran. ran store_schema 2 ver puts_vers puts_ver) c.insert_rows-3.ensures.ok)

  ifreqs : (c : After-insert_rows-4 g) → AreWaitingRows c.args.rows.now ss
      → Puts g.S.Store insert_ifreqs insert_ifreq ifreq (flat_map ifreqs_of ss) c.insert_rows-3.new.tx
      c.insert_rows-4.new.tx c.insert_rows-4.result
  ifreqs c are =
      puts_rows g.S.Store insert_ifreqs insert_ifreq ifreq
      (ap (map as_bound) c.as_slice-ifreqs.ensures.value ∙ are.ifreqs) (kept_ifreqs ss)
      c.insert_rows-4.ensures.continues c.insert_rows-4.ensures.calls (on_ok c.insert_rows-4.result _ _
      (λ ran. ran store_schema 3 ifreq puts_ifreqs puts_ifreq) c.insert_rows-4.ensures.ok)

  elems : (c : After-insert_rows-5 g) → AreWaitingRows c.args.rows.now ss
      → Puts g.S.Store insert_elems insert_elem elem (flat_map elems_of ss) c.insert_rows-4.new.tx
      c.insert_rows-5.new.tx c.insert_rows-5.result
  elems c are =
      puts_rows g.S.Store insert_elems insert_elem elem
      (ap (map as_bound) c.as_slice-elems.ensures.value ∙ are.elems) (kept_elems ss)
      c.insert_rows-5.ensures.continues c.insert_rows-5.ensures.calls (on_ok c.insert_rows-5.result _ _
      (λ ran. ran store_schema 5 elem puts_elems puts_elem) c.insert_rows-5.ensures.ok)

  morevers : (c : After-insert_rows-6 g) → AreWaitingRows c.args.rows.now ss
      → Puts g.S.Store insert_morevers insert_morever morever (flat_map morevers_of ss) c.insert_rows-5.new.tx
      c.insert_rows-6.new.tx c.insert_rows-6.result
  morevers c are =
      puts_rows g.S.Store insert_morevers insert_morever morever
      (ap (map as_bound) c.as_slice-morevers.ensures.value ∙ are.morevers) (kept_morevers ss)
      c.insert_rows-6.ensures.continues c.insert_rows-6.ensures.calls (on_ok c.insert_rows-6.result _ _
      (λ ran. ran store_schema 10 morever puts_morevers puts_morever) c.insert_rows-6.ensures.ok)

  moreifs : (c : After-insert_rows-7 g) → AreWaitingRows c.args.rows.now ss
      → Puts g.S.Store insert_moreifs insert_moreif moreif (flat_map moreifs_of ss) c.insert_rows-6.new.tx
      c.insert_rows-7.new.tx c.insert_rows-7.result
  moreifs c are =
      puts_rows g.S.Store insert_moreifs insert_moreif moreif
      (ap (map as_bound) c.as_slice-moreifs.ensures.value ∙ are.moreifs) (kept_moreifs ss)
      c.insert_rows-7.ensures.continues c.insert_rows-7.ensures.calls (on_ok c.insert_rows-7.result _ _
      (λ ran. ran store_schema 11 moreif puts_moreifs puts_moreif) c.insert_rows-7.ensures.ok)

-- ---- all tables

all : (g : Over) (c : After-insert_rows-7 g) (ss : List Sysmod) → AreWaitingRows c.args.rows.now ss
    → RunsCalls g.S.Store (insert_sysmods_calls ss) (with_sysmods_rows ss) c.args.tx.now c.insert_rows-7.new.tx
    c.insert_rows-7.result
all g c ss are =
    let p = goal.at.returns-clause-calls g c in
    let S = g.S.Store in
    step_then S (step_ok S c.in_ok-insert_rows.was (sysmods g ss p.After-insert_rows are))
    (step_then S (step_ok S c.in_ok-insert_rows-2.was (sources g ss p.After-insert_rows-2 are))
    (step_then S (step_ok S c.in_ok-insert_rows-3.was (vers g ss p.After-insert_rows-3 are))
    (step_then S (step_ok S c.in_ok-insert_rows-4.was (ifreqs g ss p.After-insert_rows-4 are))
    (step_then S (step_ok S c.in_ok-insert_rows-5.was (elems g ss p.After-insert_rows-5 are))
    (step_then S (step_ok S c.in_ok-insert_rows-6.was (morevers g ss p.After-insert_rows-6 are))
    (moreifs g ss c are))))))

pub returns-clause-continues : goal.returns-clause-continues
returns-clause-continues g c =
    let S = g.S.Store in
    continues_then S _ _ _ c.insert_rows.ensures.continues
    (continues_then S _ _ _ c.insert_rows-2.ensures.continues
    (continues_then S _ _ _ c.insert_rows-3.ensures.continues
    (continues_then S _ _ _ c.insert_rows-4.ensures.continues
    (continues_then S _ _ _ c.insert_rows-5.ensures.continues
    (continues_then S _ _ _ c.insert_rows-6.ensures.continues c.insert_rows-7.ensures.continues)))))

pub returns-clause-calls : goal.returns-clause-calls
returns-clause-calls g c ss are = (all g c ss are).runs

pub returns-clause-ok : goal.returns-clause-ok
returns-clause-ok g c =
    each_ok c.insert_rows-7.result (AreWaitingRows c.args.rows.now) _
    (λ ss are. (all g c ss are).ok)

pub returns-clause-stands : goal.returns-clause-stands
returns-clause-stands g c =
    on_ok c.insert_rows-7.result _ _ (λ turned ss are i new clean held.
    sysmods_added ss i _ new (turned ss are clean (rows_of i) held)) (returns-clause-ok g c)

-- ---- a table fails

pub returns-in_err-insert_rows-clause-calls : goal.returns-in_err-insert_rows-clause-calls
returns-in_err-insert_rows-clause-calls g c ss are =
    let p = goal.at.returns-in_err-insert_rows-clause-calls g c in
    let S = g.S.Store in
    let stops = step_stops S (behind_sysmods ss) c.from_residual.result
    c.in_err-insert_rows.was c.from_residual.ensures.1
    (sysmods g ss p.After-insert_rows are) in
    stops.runs

pub returns-in_err-insert_rows-2-clause-calls : goal.returns-in_err-insert_rows-2-clause-calls
returns-in_err-insert_rows-2-clause-calls g c ss are =
    let p = goal.at.returns-in_err-insert_rows-2-clause-calls g c in
    let S = g.S.Store in
    let stops = step_stops S (behind_sources ss) c.from_residual-in_err-insert_rows-2.result
    c.in_err-insert_rows-2.was c.from_residual-in_err-insert_rows-2.ensures.1
    (sources g ss p.After-insert_rows-2 are) in
    (step_then S (step_ok S c.in_ok-insert_rows.was (sysmods g ss p.After-insert_rows are))
    stops).runs

pub returns-in_err-insert_rows-3-clause-calls : goal.returns-in_err-insert_rows-3-clause-calls
returns-in_err-insert_rows-3-clause-calls g c ss are =
    let p = goal.at.returns-in_err-insert_rows-3-clause-calls g c in
    let S = g.S.Store in
    let stops = step_stops S (behind_vers ss) c.from_residual-in_err-insert_rows-3.result
    c.in_err-insert_rows-3.was c.from_residual-in_err-insert_rows-3.ensures.1
    (vers g ss p.After-insert_rows-3 are) in
    (step_then S (step_ok S c.in_ok-insert_rows.was (sysmods g ss p.After-insert_rows are))
    (step_then S (step_ok S c.in_ok-insert_rows-2.was (sources g ss p.After-insert_rows-2 are))
    stops)).runs

pub returns-in_err-insert_rows-4-clause-calls : goal.returns-in_err-insert_rows-4-clause-calls
returns-in_err-insert_rows-4-clause-calls g c ss are =
    let p = goal.at.returns-in_err-insert_rows-4-clause-calls g c in
    let S = g.S.Store in
    let stops = step_stops S (behind_ifreqs ss) c.from_residual-in_err-insert_rows-4.result
    c.in_err-insert_rows-4.was c.from_residual-in_err-insert_rows-4.ensures.1
    (ifreqs g ss p.After-insert_rows-4 are) in
    (step_then S (step_ok S c.in_ok-insert_rows.was (sysmods g ss p.After-insert_rows are))
    (step_then S (step_ok S c.in_ok-insert_rows-2.was (sources g ss p.After-insert_rows-2 are))
    (step_then S (step_ok S c.in_ok-insert_rows-3.was (vers g ss p.After-insert_rows-3 are))
    stops))).runs

pub returns-in_err-insert_rows-5-clause-calls : goal.returns-in_err-insert_rows-5-clause-calls
returns-in_err-insert_rows-5-clause-calls g c ss are =
    let p = goal.at.returns-in_err-insert_rows-5-clause-calls g c in
    let S = g.S.Store in
    let stops = step_stops S (behind_elems ss) c.from_residual-in_err-insert_rows-5.result
    c.in_err-insert_rows-5.was c.from_residual-in_err-insert_rows-5.ensures.1
    (elems g ss p.After-insert_rows-5 are) in
    (step_then S (step_ok S c.in_ok-insert_rows.was (sysmods g ss p.After-insert_rows are))
    (step_then S (step_ok S c.in_ok-insert_rows-2.was (sources g ss p.After-insert_rows-2 are))
    (step_then S (step_ok S c.in_ok-insert_rows-3.was (vers g ss p.After-insert_rows-3 are))
    (step_then S (step_ok S c.in_ok-insert_rows-4.was (ifreqs g ss p.After-insert_rows-4 are))
    stops)))).runs

pub returns-in_err-insert_rows-6-clause-calls : goal.returns-in_err-insert_rows-6-clause-calls
returns-in_err-insert_rows-6-clause-calls g c ss are =
    let p = goal.at.returns-in_err-insert_rows-6-clause-calls g c in
    let S = g.S.Store in
    let stops = step_stops S (behind_morevers ss) c.from_residual-in_err-insert_rows-6.result
    c.in_err-insert_rows-6.was c.from_residual-in_err-insert_rows-6.ensures.1
    (morevers g ss p.After-insert_rows-6 are) in
    (step_then S (step_ok S c.in_ok-insert_rows.was (sysmods g ss p.After-insert_rows are))
    (step_then S (step_ok S c.in_ok-insert_rows-2.was (sources g ss p.After-insert_rows-2 are))
    (step_then S (step_ok S c.in_ok-insert_rows-3.was (vers g ss p.After-insert_rows-3 are))
    (step_then S (step_ok S c.in_ok-insert_rows-4.was (ifreqs g ss p.After-insert_rows-4 are))
    (step_then S (step_ok S c.in_ok-insert_rows-5.was (elems g ss p.After-insert_rows-5 are))
    stops))))).runs
