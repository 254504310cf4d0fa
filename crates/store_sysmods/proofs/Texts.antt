-- What the texts mean.
use Rattle.std.proofs.Common.{◌≡◌, List, [], ◌∷◌, inl, inr, refl, arith}
use Rattle.sqlite.specs.Collation.TheVariants.{Binary}
use Rattle.sqlite.specs.Listing.{understood}
use Rattle.sqlite_tied.specs.Compute.{everything}
use Rattle.sqlite_schema.specs.Names.{same_name}
use Rattle.sqlite_value.specs.Keys.{first_key, joined}
use Rattle.sqlite.specs.Order.{Row}
use Rattle.sqlite.specs.Table.{Table}
use Rattle.sqlite_rules.specs.Action.{Work, pairs}
use Rattle.sqlite_rules.specs.Lists.{Has}
use Rattle.sqlite_rules.proofs.ListLemmas.{has_got}
use Rattle.store_rows.specs.Calls.{many}
use Rattle.store_rows.specs.Texts.{PutsIn, DeletesByKey, TakesOutParent, IsCascade}
use Rattle.store_rows.proofs.Meant.{puts_in, takes_out}
use Rattle.store_rows.proofs.Parents.{if_set_off}
use Rattle.store_schema.specs.Tables.{store_schema, sysmod, ver, ifreq, elem, source, morever, moreif}
use Rattle.store_sysmods.specs.Sources.{insert_source, insert_sources, delete_sources}
use Rattle.store_sysmods.specs.Vers.{insert_ver, insert_vers, delete_vers}
use Rattle.store_sysmods.specs.Ifs.{insert_ifreq, insert_ifreqs, delete_ifreqs}
use Rattle.store_sysmods.specs.Elems.{insert_elem, insert_elems, delete_elems}
use Rattle.store_sysmods.specs.Heads.{insert_sysmod, insert_sysmods, delete_sysmod}
use Rattle.store_sysmods.specs.MoreVers.{insert_morever, insert_morevers, delete_morevers}
use Rattle.store_sysmods.specs.MoreIfs.{insert_moreif, insert_moreifs, delete_moreifs}
use Rattle.store_sysmods.specs.Sysmods.{sysmod_children}

-- that what the deletion of a row sets off deletes rows of one of these tables
cascades : (children : List Table) (olds : List Row) {w : Work} → Has children w.child → w.ref.columns ≡ 1 ∷ []
    → w.places ≡ 1 ∷ [] → (first_key w.order).collation ≡ Binary → w.depth ≡ 0 → w.moves ≡ pairs olds []
    → IsCascade children olds w
cascades children olds child columns places collation shallow moves = record {
  child = child;
  columns = columns;
  places = places;
  collation = collation;
  shallow = shallow;
  moves = moves;
}

pub puts_sysmod : PutsIn store_schema 1 sysmod 1 insert_sysmod
unfolding understood everything
puts_sysmod = puts_in refl refl refl (refl, refl) refl refl

pub puts_sysmods : PutsIn store_schema 1 sysmod many insert_sysmods
unfolding understood everything
puts_sysmods = puts_in refl refl refl (refl, refl) refl refl

pub puts_source : PutsIn store_schema 9 source 1 insert_source
unfolding understood everything
puts_source = puts_in refl refl refl (refl, refl) refl refl

pub puts_sources : PutsIn store_schema 9 source many insert_sources
unfolding understood everything
puts_sources = puts_in refl refl refl (refl, refl) refl refl

pub puts_ver : PutsIn store_schema 2 ver 1 insert_ver
unfolding understood everything
puts_ver = puts_in refl refl refl (refl, refl) refl refl

pub puts_vers : PutsIn store_schema 2 ver many insert_vers
unfolding understood everything
puts_vers = puts_in refl refl refl (refl, refl) refl refl

pub puts_ifreq : PutsIn store_schema 3 ifreq 1 insert_ifreq
unfolding understood everything
puts_ifreq = puts_in refl refl refl (refl, refl) refl refl

pub puts_ifreqs : PutsIn store_schema 3 ifreq many insert_ifreqs
unfolding understood everything
puts_ifreqs = puts_in refl refl refl (refl, refl) refl refl

pub puts_elem : PutsIn store_schema 5 elem 1 insert_elem
unfolding understood everything
puts_elem = puts_in refl refl refl (refl, refl) refl refl

pub puts_elems : PutsIn store_schema 5 elem many insert_elems
unfolding understood everything
puts_elems = puts_in refl refl refl (refl, refl) refl refl

pub puts_morever : PutsIn store_schema 10 morever 1 insert_morever
unfolding understood everything
puts_morever = puts_in refl refl refl (refl, refl) refl refl

pub puts_morevers : PutsIn store_schema 10 morever many insert_morevers
unfolding understood everything
puts_morevers = puts_in refl refl refl (refl, refl) refl refl

pub puts_moreif : PutsIn store_schema 11 moreif 1 insert_moreif
unfolding understood everything
puts_moreif = puts_in refl refl refl (refl, refl) refl refl

pub puts_moreifs : PutsIn store_schema 11 moreif many insert_moreifs
unfolding understood everything
puts_moreifs = puts_in refl refl refl (refl, refl) refl refl

pub takes_vers : DeletesByKey store_schema 2 ver 1 delete_vers
unfolding understood everything same_name joined
takes_vers = takes_out refl refl refl (refl, refl) (omega arith) (λ olds. refl)

pub takes_ifreqs : DeletesByKey store_schema 3 ifreq 1 delete_ifreqs
unfolding understood everything same_name joined
takes_ifreqs = takes_out refl refl refl (refl, refl) (omega arith) (λ olds. refl)

pub takes_elems : DeletesByKey store_schema 5 elem 1 delete_elems
unfolding understood everything same_name joined
takes_elems = takes_out refl refl refl (refl, refl) (omega arith) (λ olds. refl)

pub takes_sources : DeletesByKey store_schema 9 source 1 delete_sources
unfolding understood everything same_name joined
takes_sources = takes_out refl refl refl (refl, refl) (omega arith) (λ olds. refl)

pub takes_morevers : DeletesByKey store_schema 10 morever 1 delete_morevers
unfolding understood everything same_name joined
takes_morevers = takes_out refl refl refl (refl, refl) (omega arith) (λ olds. refl)

pub takes_moreifs : DeletesByKey store_schema 11 moreif 1 delete_moreifs
unfolding understood everything same_name joined
takes_moreifs = takes_out refl refl refl (refl, refl) (omega arith) (λ olds. refl)

pub takes_sysmod : TakesOutParent store_schema 1 sysmod sysmod_children delete_sysmod
unfolding understood everything same_name joined
takes_sysmod = record {
  there = record { found = refl; alone = refl };
  command = refl;
  plain = (refl, refl);
  narrow = omega arith;
  children_there = (
    (has_got store_schema.tables 2 ver refl, (λ e. omega (arith, e)), omega arith),
    (
      (has_got store_schema.tables 3 ifreq refl, (λ e. omega (arith, e)), omega arith),
      (
        (has_got store_schema.tables 5 elem refl, (λ e. omega (arith, e)), omega arith),
        (
          (has_got store_schema.tables 9 source refl, (λ e. omega (arith, e)), omega arith),
          (
            (has_got store_schema.tables 10 morever refl, (λ e. omega (arith, e)), omega arith),
            (
              (has_got store_schema.tables 11 moreif refl, (λ e. omega (arith, e)), omega arith),
              tt,
            ),
          ),
        ),
      ),
    ),
  );
  acts = λ olds.
      let set_off = if_set_off (IsCascade sysmod_children olds) in
      let on_ver = set_off _ _ (cascades sysmod_children olds (inl refl) refl refl refl refl refl) in
      let on_ifreq = set_off _ _ (cascades sysmod_children olds (inr (inl refl)) refl refl refl refl refl) in
      let on_elem = set_off _ _ (cascades sysmod_children olds (inr (inr (inl refl))) refl refl refl refl refl) in
      let on_source = set_off _ _
      (cascades sysmod_children olds (inr (inr (inr (inl refl)))) refl refl refl refl refl) in
      let on_morever = set_off _ _
      (cascades sysmod_children olds (inr (inr (inr (inr (inl refl))))) refl refl refl refl refl) in
      let on_moreif = set_off _ _
      (cascades sysmod_children olds (inr (inr (inr (inr (inr (inl refl)))))) refl refl refl refl refl) in (
        tt,
        (
          tt,
          (
            (on_ver, tt),
            (
              (on_ifreq, tt),
              (
                tt,
                (
                  (on_elem, tt),
                  (
                    tt,
                    (
                      (tt, tt),
                      (
                        (tt, tt),
                        (
                          (on_source, tt),
                          ((on_morever, tt), ((on_moreif, tt), ((tt, tt), tt))),
                        ),
                      ),
                    ),
                  ),
                ),
              ),
            ),
          ),
        ),
      );
}
