use Rattle.std.proofs.Common.{◌≡◌, ◌∙◌, ◌++◌, [], Some, ap, cond, sym, subst, arith, length, slice_get, true≢false}
use Rattle.std.proofs.lemmas.Option.{slice_get-get_or, same_Some}
use Rattle.undo.specs.declared.nodes.Node.TheVariants.{Sysmod}
use Rattle.undo.specs.ByNumbers.{AreFlagged, sysmod_in}
use Rattle.undo.proofs.RulesOfSteps.{flagged_more, flagged_skip}
use Rattle.undo.proofs.numbered.flagged_ids.Goals as goal

pub loop-i-preserved-then-not-flags-i : goal.loop-i-preserved-then-not-flags-i
loop-i-preserved-then-not-flags-i c =
    flagged_skip c.args.table.now c.args.flags.now c.loop-i.i c.loop-i.found.items
    (λ x f. true≢false (sym f.1 ∙ c.if-not-flags-i.true)) c.loop-i.invariant

pub loop-i-preserved-in_default : goal.loop-i-preserved-in_default
loop-i-preserved-in_default c =
    let table = c.args.table.now in
    let i = c.loop-i.i in
    let node = c.index-table-i.result in
    let at : slice_get table i ≡ Some node =
    slice_get-get_or table i node c.loop-i-test.true ∙ ap (λ v. Some v) (sym c.index-table-i.is) in
    flagged_skip table c.args.flags.now i c.loop-i.found.items
    (λ x f. absurd (cc (same_Some (Sysmod x) node (sym f.0 ∙ at) ∙ c.in_default.is))) c.loop-i.invariant

pub loop-i-preserved : goal.loop-i-preserved
loop-i-preserved c =
    let table = c.args.table.now in
    let i = c.loop-i.i in
    let node = c.index-table-i.result in
    let found = c.loop-i.found.items in
    flagged_more table c.args.flags.now i found c.push.new.self.items node
    (slice_get-get_or table i node c.loop-i-test.true ∙ ap (λ v. Some v) (sym c.index-table-i.is))
    c.loop-i.invariant
    (c.in_ok-push.ensures.items
    ∙ ap (λ ids. found ++ ids)
    (sym (ap (λ b. cond b (sysmod_in node) []) c.if-not-flags-i.false ∙ ap sysmod_in c.in-Sysmod.is)))

pub returns : goal.returns
returns c =
    let all : c.loop-i.i ≡ length c.args.table.now = omega (arith, c.loop-i-test.false, c.loop-i.auto.i-end) in
    subst (λ k. AreFlagged c.args.table.now c.args.flags.now k c.loop-i.found.items) all c.loop-i.invariant
