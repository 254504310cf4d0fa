use Rattle.std.proofs.Common.{◌≡◌, ◌++◌, ◌∷◌, [], List, All, IsTrue, append-nil, true, false, arith, sym, ap, subst}
use Rattle.std.proofs.Common.{◌∙◌}
use Rattle.terms.specs.Types.{Text}
use Rattle.terms.specs.Lookups.{is_before, IsRising}
use Rattle.terms.proofs.Pairs.{AllPairs_between, AllPairs_parts}
use Rattle.store_sysmods.specs.declared.source.SourceRow.{SourceRow}
use Rattle.store_sysmod_loads.proofs.RunLemmas.{AreNamed, sources_told, sources_step, sources_end, next_left}
use Rattle.store_sysmod_loads.proofs.joining.take_sources.Goals as goal

pub returns-then-not-branch-clause-none : goal.returns-then-not-branch-clause-none
returns-then-not-branch-clause-none c bad others rest h =
    let x = c.args.id in
    let names = c.loop-row.names in
    let row = c.in-Some.row in
    let it = c.loop-row.invariant.only others rest (h.0, h.1) in
    let there = subst (λ (rows : List SourceRow). AreNamed x rows it.0 rest) c.in-Some.ensures.some.0 it.2 in
    let step = sources_step x row c.pop_row_of.new.rows.items it.0 rest c.in-Some.ensures.some.1 there in
    let rising : IsRising (names ++ row.name ∷ step.0) = subst IsRising (it.1 ∙ ap (λ (xs : List Text). names ++ xs)
    step.1) h.2 in
    let last = (AllPairs_parts (λ y z. IsTrue (is_before y z)) names step.0 row.name rising).0 in
    let fits : c.in_ok-push_last.field-0 ≡ true = c.in_ok-push_last.ensures.fits.1 last in
    let fits_not : c.in_ok-push_last.field-0 ≡ false = c.if-not-branch.true in
    absurd cc

pub loop-row-preserved : goal.loop-row-preserved
loop-row-preserved c =
    let x = c.args.id in
    let names = c.loop-row.names in
    let row = c.in-Some.row in
    let new = c.pop_row_of.new.rows.items in
    let grown : c.push_last.new.self ≡ names ++ row.name ∷ [] = rw c.if-not-branch.false at c.in_ok-push_last.ensures.ok
    in
    let last : All (λ y. IsTrue (is_before y row.name)) names = c.in_ok-push_last.ensures.fits.0 c.if-not-branch.false
    in
    record {
      told = rw grown (sources_told x c.args.rows.now.items names row c.loop-row.rows.items new
          c.loop-row.invariant.told c.in-Some.ensures.some.0 c.in-Some.ensures.some.1);
      rising = subst IsRising (sym grown) (AllPairs_between (λ y z. IsTrue (is_before y z)) names [] row.name
          (subst IsRising (sym (append-nil names)) c.loop-row.invariant.rising) last
          (λ k d within. absurd (omega arith)));
      only = λ others rest h.
          let it = c.loop-row.invariant.only others rest h in
          let there = subst (λ (rows : List SourceRow). AreNamed x rows it.0 rest) c.in-Some.ensures.some.0 it.2 in
          let step = sources_step x row new it.0 rest c.in-Some.ensures.some.1 there in (
            step.0,
            next_left others names row.name it.0 step.0 it.1 step.1
                ∙ ap (λ (xs : List Text). xs ++ step.0) (sym grown),
            step.2,
          );
    }

pub returns-clause-only : goal.returns-clause-only
returns-clause-only c others rest h =
    let it = c.loop-row.invariant.only others rest (h.0, h.1) in
    let last = sources_end c.args.id c.loop-row.rows.items it.0 rest c.in_default.ensures.none.1 it.2 in (
      it.1 ∙ ap (λ (xs : List Text). c.loop-row.names ++ xs) last.0 ∙ append-nil c.loop-row.names,
      last.1 ∙ sym c.in_default.ensures.none.0,
    )
