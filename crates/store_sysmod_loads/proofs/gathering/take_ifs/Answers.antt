use Rattle.std.proofs.Common.{◌≡◌, ◌+◌, ◌++◌, ◌∷◌, [], List, length, length-append, append-nil, arith, refl, sym, ap}
use Rattle.std.proofs.Common.{subst, ◌∙◌}
use Rattle.std.proofs.lemmas.Grind.{common_steps}
use Rattle.terms.specs.Types.{IfReq}
use Rattle.store_sysmods.specs.declared.ifreq.IfRow.{IfRow}
use Rattle.store_sysmod_loads.specs.Runs.{HasIfs}
use Rattle.store_sysmod_loads.proofs.RunLemmas.{ifs_told, ifs_step, ifs_end, next_left}
use Rattle.store_sysmod_loads.proofs.gathering.take_ifs.Goals as goal

pub loop-row-init : goal.loop-row-init
loop-row-init c = rw c.new-ifs.ensures.items (record { told = refl; only = λ others rest h. (others, refl, h) })

pub returns-then-row-len-clause-none : goal.returns-then-row-len-clause-none
returns-then-row-len-clause-none c bad others rest h =
    let it = c.loop-row.invariant.only others rest h in
    let n = length c.loop-row.ifs.items + 1 in
    let there = subst (λ (rows : List IfRow). HasIfs c.args.id c.args.srel c.args.place n rows it.0 rest)
    c.in-Some.ensures.some.0
    it.2 in
    let step = ifs_step c.args.id c.args.srel c.args.place n c.in-Some.row c.pop_row_of.new.rows.items it.0 rest
    c.in-Some.ensures.some.1
    there in
    let number : c.in-Some.row.number ≡ length c.loop-row.ifs.items + 1 = step.2 in
    c.if-row-len.true (grind (arith, common_steps))

pub loop-row-preserved : goal.loop-row-preserved
loop-row-preserved c =
    let x = c.args.id in
    let srel = c.args.srel in
    let place = c.args.place in
    let ifs = c.loop-row.ifs.items in
    let row = c.in-Some.row in
    let new = c.pop_row_of.new.rows.items in
    let grown : c.push.new.self.items ≡ c.loop-row.ifs.items ++ c.in-Some.row.ifreq ∷ [] = grind (arith, common_steps)
    in
    let number : c.in-Some.row.number ≡ length c.loop-row.ifs.items + 1 = grind (arith, common_steps) in
    let count : length c.push.new.self.items ≡ length c.loop-row.ifs.items + 1 =
    ap length grown ∙ length-append ifs (row.ifreq ∷ []) in
    record {
      told = rw grown (ifs_told x srel place c.args.rows.now.items ifs row c.loop-row.rows.items new
          c.loop-row.invariant.told
          c.in-Some.ensures.some.0 c.in-Some.ensures.some.1 number);
      only = λ others rest h.
          let it = c.loop-row.invariant.only others rest h in
          let there = subst (λ (rows : List IfRow). HasIfs x srel place (length ifs + 1) rows it.0 rest)
          c.in-Some.ensures.some.0 it.2 in
          let step = ifs_step x srel place (length ifs + 1) row new it.0 rest c.in-Some.ensures.some.1 there in (
            step.0,
            next_left others ifs row.ifreq it.0 step.0 it.1 step.1
                ∙ ap (λ (xs : List IfReq). xs ++ step.0) (sym grown),
            subst (λ n. HasIfs x srel place (n + 1) new step.0 rest) (sym count) step.3,
          );
    }

pub returns-clause-only : goal.returns-clause-only
returns-clause-only c others rest h =
    let it = c.loop-row.invariant.only others rest h in
    let last = ifs_end c.args.id c.args.srel c.args.place (length c.loop-row.ifs.items + 1) c.loop-row.rows.items it.0
    rest
    c.in_default.ensures.none.1 it.2 in (
      it.1 ∙ ap (λ (xs : List IfReq). c.loop-row.ifs.items ++ xs) last.0 ∙ append-nil c.loop-row.ifs.items
          ∙ sym c.shrink_to_fit.ensures.items,
      last.1
          ∙ sym c.in_default.ensures.none.0,
    )
