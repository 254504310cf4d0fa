use Rattle.std.proofs.Common.{◌≡◌, true, false, List, subst, sym, ◌∙◌}
use Rattle.std.specs.Ordering.{nat_cmp}
use Rattle.std.specs.Cmp.Lexicographic.{slice_cmp}
use Rattle.store_rows.proofs.InsideLemmas.{if_ok}
use Rattle.terms.specs.Rising.{Rises}
use Rattle.store_sysmods.specs.declared.head.HeadRow.{HeadRow}
use Rattle.store_sysmod_loads.proofs.FlatLemmas.{taken_flat, flat_taken, taken_as}
use Rattle.store_sysmod_loads.proofs.RiseLemmas.{ids_up, heads_rise, ids_rise}
use Rattle.store_sysmod_loads.proofs.rows_of.gather_sysmods.Goals as goal

pub returns-then-not-are_rising-clause-none : goal.returns-then-not-are_rising-clause-none
returns-then-not-are_rising-clause-none c bad others formed has =
    let up = subst (λ (hs : List HeadRow). Rises (slice_cmp nat_cmp) (λ h. h.id) hs) (sym has.heads)
    (heads_rise others formed) in
    let rising : c.are_rising.result ≡ true = c.are_rising.ensures.1 (rw c.as_slice.ensures.value up) in
    let not_rising : c.are_rising.result ≡ false = c.if-not-are_rising.true in
    absurd cc

pub returns-clause-taken : goal.returns-clause-taken
returns-clause-taken c =
    let up : Rises (slice_cmp nat_cmp) (λ (h : HeadRow). h.id) c.args.rows.heads.items =
    rw c.as_slice.ensures.value at (c.are_rising.ensures.0 c.if-not-are_rising.false) in
    if_ok c.take_all_sysmods.result _ _ (λ sysmods told.
    let flat = taken_flat c.from-heads.result.items sysmods.items c.from-vers.result.items c.from-ifs.result.items
    c.from-elems.result.items told in
    let heads = sym c.from-heads.ensures.0 ∙ flat.heads_are in
    record {
      rows_are = record {
        heads = heads;
        vers = sym c.from-vers.ensures.0 ∙ flat.vers_are;
        ifs = sym c.from-ifs.ensures.0 ∙ flat.ifs_are;
        elems = sym c.from-elems.ensures.0 ∙ flat.elems_are;
      };
      whole = record {
        built = flat.built;
        ids = ids_rise sysmods.items (subst (λ (hs : List HeadRow). Rises (slice_cmp nat_cmp) (λ h. h.id) hs) heads up);
        none_carried = flat.none_carried;
      };
    }) c.take_all_sysmods.ensures.taken

pub returns-clause-only : goal.returns-clause-only
returns-clause-only c =
    if_ok c.take_all_sysmods.result _ _ (λ sysmods only others formed has.
    only others (taken_as others _ _ _ _ _ _ _ _ (c.from-heads.ensures.0 ∙ has.heads) (c.from-vers.ensures.0 ∙ has.vers)
    (c.from-ifs.ensures.0 ∙ has.ifs) (c.from-elems.ensures.0 ∙ has.elems)
    (flat_taken others (ids_up others formed) formed.built formed.none_carried))) c.take_all_sysmods.ensures.only

pub returns-clause-none : goal.returns-clause-none
returns-clause-none c bad others formed has =
    c.take_all_sysmods.ensures.none bad others (taken_as others _ _ _ _ _ _ _ _ (c.from-heads.ensures.0 ∙ has.heads)
    (c.from-vers.ensures.0 ∙ has.vers) (c.from-ifs.ensures.0 ∙ has.ifs) (c.from-elems.ensures.0 ∙ has.elems)
    (flat_taken others (ids_up others formed) formed.built formed.none_carried))
