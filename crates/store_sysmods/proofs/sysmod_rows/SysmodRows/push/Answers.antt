use Rattle.std.proofs.Common.{◌≡◌, ℕ, List, [], ◌∷◌, ◌++◌, map, filter, not, sym, ap, ap₂, ◌∙◌}
use Rattle.std.specs.List.{flat_map, enumerate_from}
use Rattle.std.proofs.lemmas.List.{map-append}
use Rattle.sqlite.specs.Order.{Row}
use Rattle.terms.specs.Types.{Id, Sysmod, Ver}
use Rattle.store_rows.specs.Rows.{as_bound}
use Rattle.store_rows.proofs.InsideLemmas.{on_ok}
use Rattle.store_schema.specs.Rows.{sysmod_row, source_row, sources_of, ver_row, vers_of, ifreq_row, ifreqs_of}
use Rattle.store_schema.specs.Rows.{elem_row, elems_of, morever_row, morevers_of, moreif_row, moreifs_of, is_first}
use Rattle.store_schema.specs.Rows.{numbered_behind}
use Rattle.store_sysmods.specs.Sysmods.{AreWaitingRows, sourced}
use Rattle.store_sysmods.proofs.Behind.{each_behind, first_rows, further_rows, first_if_rows, further_if_rows}
use Rattle.store_sysmods.proofs.Pushing.{one_pushed, pushed_as, flat_pushed}
use Rattle.store_sysmods.proofs.sysmod_rows.SysmodRows.push.Goals.{After-append_all_rows-6}
use Rattle.store_sysmods.proofs.sysmod_rows.SysmodRows.push.Goals as goal

module _ (c : After-append_all_rows-6) (ss : List Sysmod) (are : AreWaitingRows c.args.self.now ss) where
  abbrev all : List Sysmod
  all = ss ++ sourced c.args.sysmod.now c.args.sources.now ∷ []

  own : map as_bound c.push.new.self.items ≡ map sysmod_row all
  own =
      one_pushed c.args.self.now.sysmods.items c.push.new.self.items c.in_ok-make_head_row.field-0 _
      c.in_ok-push.ensures.items
      (ap (λ (row : Row). row ∷ []) c.in_ok-make_head_row.ensures)
      ∙ ap (λ rows. rows ++ sysmod_row c.args.sysmod.now ∷ []) are.sysmods
      ∙ sym (map-append sysmod_row ss (sourced c.args.sysmod.now c.args.sources.now ∷ []))

  sources : map as_bound c.append_all_rows.new.rows.items ≡ flat_map sources_of all
  sources =
      let names = c.args.sources.now in
      flat_pushed sources_of ss (sourced c.args.sysmod.now names) are.sources
      (pushed_as (map as_bound c.args.self.now.sources.items) (each_behind (source_row c.sysmod.inside.id) [] names
      ∙ ap (λ (t : Sysmod). map (source_row t.id) names) c.sysmod.view_is) c.in_ok-append_all_rows.ensures)

  abbrev view_id : c.sysmod.inside.id ≡ c.args.sysmod.now.id
  view_id = ap (λ (t : Sysmod). t.id) c.sysmod.view_is

  abbrev view_vers : c.as_slice-vers.result.now ≡ c.args.sysmod.now.vers
  view_vers = c.as_slice-vers.ensures.value ∙ ap (λ (t : Sysmod). t.vers) c.sysmod.view_is

  vers : map as_bound c.append_all_rows-2.new.rows.items ≡ flat_map vers_of all
  vers =
      flat_pushed vers_of ss (sourced c.args.sysmod.now c.args.sources.now) are.vers
      (pushed_as (map as_bound c.args.self.now.vers.items)
      (first_rows c.sysmod.inside.id c.as_slice-vers.result.now
      ∙ ap₂ (λ (x : Id) (vs : List Ver). map (λ (v : ℕ × Ver). ver_row x v.1)
      (filter is_first (numbered_behind [] vs))) view_id view_vers) c.in_ok-append_all_rows-2.ensures)

  ifreqs : map as_bound c.append_all_rows-3.new.rows.items ≡ flat_map ifreqs_of all
  ifreqs =
      flat_pushed ifreqs_of ss (sourced c.args.sysmod.now c.args.sources.now) are.ifreqs
      (pushed_as (map as_bound c.args.self.now.ifreqs.items)
      (first_if_rows c.sysmod.inside.id c.as_slice-vers.result.now
      ∙ ap₂ (λ (x : Id) (vs : List Ver). flat_map (λ (v : ℕ × Ver). map (ifreq_row x v.1.srel)
      (enumerate_from 1 v.1.ifs)) (filter is_first (numbered_behind [] vs))) view_id view_vers)
      c.in_ok-append_all_rows-3.ensures)

  elems : map as_bound c.append_all_rows-4.new.rows.items ≡ flat_map elems_of all
  elems =
      flat_pushed elems_of ss (sourced c.args.sysmod.now c.args.sources.now) are.elems
      (pushed_as (map as_bound c.args.self.now.elems.items)
      (each_behind (elem_row c.sysmod.inside.id) [] c.as_slice.result.now
      ∙ ap₂ (λ x changes. map (elem_row x) changes) view_id
      (c.as_slice.ensures.value ∙ ap (λ (t : Sysmod). t.changes) c.sysmod.view_is)) c.in_ok-append_all_rows-4.ensures)

  morevers : map as_bound c.append_all_rows-5.new.rows.items ≡ flat_map morevers_of all
  morevers =
      flat_pushed morevers_of ss (sourced c.args.sysmod.now c.args.sources.now) are.morevers
      (pushed_as (map as_bound c.args.self.now.morevers.items)
      (further_rows c.sysmod.inside.id c.as_slice-vers.result.now
      ∙ ap₂ (λ (x : Id) (vs : List Ver). map (morever_row x)
      (filter (λ v. not (is_first v)) (numbered_behind [] vs))) view_id view_vers) c.in_ok-append_all_rows-5.ensures)

  moreifs : map as_bound c.append_all_rows-6.new.rows.items
      ≡ map as_bound c.args.self.now.moreifs.items ++ moreifs_of c.args.sysmod.now
      → map as_bound c.append_all_rows-6.new.rows.items ≡ flat_map moreifs_of all
  moreifs = flat_pushed moreifs_of ss (sourced c.args.sysmod.now c.args.sources.now) are.moreifs

pub returns : goal.returns
returns c =
    on_ok c.append_all_rows-6.result _ _ (λ pushed ss are. record {
      sysmods = own c ss are;
      sources = sources c ss are;
      vers = vers c ss are;
      ifreqs = ifreqs c ss are;
      elems = elems c ss are;
      morevers = morevers c ss are;
      moreifs = moreifs c ss are (pushed_as (map as_bound c.args.self.now.moreifs.items)
          (further_if_rows c.sysmod.inside.id c.as_slice-vers.result.now
          ∙ ap₂ (λ (x : Id) (vs : List Ver). flat_map (λ (v : ℕ × Ver). map (moreif_row x v.1.srel v.0)
          (enumerate_from 1 v.1.ifs)) (filter (λ v. not (is_first v)) (numbered_behind [] vs)))
          (view_id c ss are) (view_vers c ss are)) pushed);
    }) c.append_all_rows-6.ensures
