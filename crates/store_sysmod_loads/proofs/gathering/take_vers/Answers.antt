use Rattle.std.proofs.Common.{◌≡◌, ◌<◌, ◌++◌, ◌∷◌, [], List, length, length-append, append-nil, arith, rules}
use Rattle.std.proofs.Common.{true, false, sym, ap, subst, ◌∙◌}
use Rattle.std.proofs.lemmas.Grind.{common_steps}
use Rattle.terms.specs.Types.{IfReq, Ver}
use Rattle.store_schema.specs.Rows.{number_behind, numbered_behind}
use Rattle.store_sysmods.specs.declared.ver.VerRow.{VerRow}
use Rattle.store_sysmods.specs.declared.ifreq.IfRow.{IfRow}
use Rattle.store_sysmod_loads.specs.Runs.{AreBare, ver_rows, HasIfs, HasAllIfs, HasVersBehind}
use Rattle.store_sysmod_loads.proofs.RunLemmas.{vers_told, ver_ifs_more, vers_step, vers_end, next_left}
use Rattle.store_sysmod_loads.proofs.gathering.take_vers.Goals as goal

pub returns-then-not-may_come_next-clause-none : goal.returns-then-not-may_come_next-clause-none
returns-then-not-may_come_next-clause-none c bad others rest more small h =
    let vers = c.loop-row.vers.items in
    let it = c.loop-row.invariant.only others rest more h in
    let there = subst (λ (rows : List VerRow). HasVersBehind vers c.args.id rows c.loop-row.ifs.items it.0 rest more)
    c.in-Some.ensures.some.0 it.2 in
    let step = vers_step vers c.args.id c.in-Some.row c.pop_row_of.new.rows.items c.loop-row.ifs.items it.0 rest more
    c.in-Some.ensures.some.1 there in
    let all = ap length it.1 ∙ length-append vers it.0 in
    let one = ap length step.3 in
    let short : length vers < 8 = omega (arith, small, all, one) in
    let next : c.may_come_next.result ≡ true = c.may_come_next.ensures.1 (rw c.as_slice.ensures.value (short, step.4)) in
    let other : c.may_come_next.result ≡ false = c.if-not-may_come_next.true in
    absurd cc

pub returns-in_err-ver-clause-none : goal.returns-in_err-ver-clause-none
returns-in_err-ver-clause-none c bad others rest more small h =
    let (own, same, has) = c.loop-row.invariant.only others rest more h in
    let there = subst (λ (rows : List VerRow). HasVersBehind c.loop-row.vers.items c.args.id rows c.loop-row.ifs.items
    own rest more) c.in-Some.ensures.some.0 has in
    let step = vers_step c.loop-row.vers.items c.args.id c.in-Some.row c.pop_row_of.new.rows.items c.loop-row.ifs.items
    own
    rest more c.in-Some.ensures.some.1 there in
    c.fill_ver.ensures.none (search rules) step.0 step.1 step.5

pub loop-row-preserved : goal.loop-row-preserved
loop-row-preserved c =
    let x = c.args.id in
    let vers = c.loop-row.vers.items in
    let row = c.in-Some.row in
    let new = c.pop_row_of.new.rows.items in
    let found = c.in_ok-ver.ver.ifs in
    let ver : Ver = record row.ver { ifs = found } in
    let pushed : c.push.new.self.items ≡ c.loop-row.vers.items ++ c.in_ok-ver.ver ∷ [] = grind (arith, common_steps) in
    let grown : c.push.new.self.items ≡ vers ++ ver ∷ [] = pushed ∙ ap (λ v. vers ++ v ∷ []) c.in_ok-ver.ensures.same in
    let bare = subst AreBare c.in-Some.ensures.some.0 c.loop-row.invariant.bare in
    let next = rw c.as_slice.ensures.value at (c.may_come_next.ensures.0 c.if-not-may_come_next.false) in
    let number : row.number ≡ number_behind vers row.ver = next.1 in
    let taken = subst (λ n. HasIfs x row.ver.srel n 1 c.loop-row.ifs.items found c.fill_ver.new.ifs.items) number
    c.in_ok-ver.ensures.taken in
    record {
      bare = bare.1;
      most = (let count = ap length grown ∙ length-append vers (ver ∷ []) in
          let fewer = next.0 in
          omega (arith, count, fewer));
      told = subst (λ vs. c.args.rows.now.items ≡ ver_rows x (numbered_behind [] vs) ++ new) (sym grown)
          (vers_told x c.args.rows.now.items vers row c.loop-row.rows.items new found c.loop-row.invariant.told
          c.in-Some.ensures.some.0 c.in-Some.ensures.some.1 number bare.0);
      told_ifs = subst (λ vs. HasAllIfs x c.args.ifs.now.items (numbered_behind [] vs) c.fill_ver.new.ifs.items)
          (sym grown)
          (ver_ifs_more x c.args.ifs.now.items vers ver c.loop-row.ifs.items c.fill_ver.new.ifs.items
          c.loop-row.invariant.told_ifs taken);
      only = λ others rest more h.
          let it = c.loop-row.invariant.only others rest more h in
          let there = subst (λ (rows : List VerRow). HasVersBehind vers x rows c.loop-row.ifs.items it.0 rest more)
          c.in-Some.ensures.some.0 it.2 in
          let step = vers_step vers x row new c.loop-row.ifs.items it.0 rest more c.in-Some.ensures.some.1 there in
          let one = c.in_ok-ver.ensures.only step.0 step.1 step.5 in
          let left = step.2 in
          let front = ap (λ (i : List IfReq). vers ++ record row.ver { ifs = i } ∷ []) one.0 ∙ sym grown in (
            left,
            next_left others vers ver it.0 left it.1 (step.3
                ∙ ap (λ (i : List IfReq). record row.ver { ifs = i } ∷ left) one.0)
                ∙ ap (λ (xs : List Ver). xs ++ left) (sym grown),
            subst (λ (f : List Ver). HasVersBehind f x new c.fill_ver.new.ifs.items left rest more) front
                (subst (λ (i : List IfRow). HasVersBehind (vers ++ record row.ver { ifs = step.0 } ∷ []) x new i left
                rest more) one.1 step.6),
          );
    }

pub returns-clause-only : goal.returns-clause-only
returns-clause-only c others rest more h =
    let it = c.loop-row.invariant.only others rest more h in
    let last = vers_end c.loop-row.vers.items c.args.id c.loop-row.rows.items c.loop-row.ifs.items it.0 rest more
    c.in_default.ensures.none.1 it.2 in (
      it.1 ∙ ap (λ (xs : List Ver). c.loop-row.vers.items ++ xs) last.0 ∙ append-nil c.loop-row.vers.items
          ∙ sym c.shrink_to_fit.ensures.items,
      last.1
          ∙ sym c.in_default.ensures.none.0,
      last.2,
    )
