use Rattle.std.proofs.Common.{◌∙◌, ◌+◌, IsTrue, ap, drop, map, subst, sym, arith}
use Rattle.std.proofs.lemmas.List.{drop_all, nil_from_length}
use Rattle.cntl.specs.Views.{command_of}
use Rattle.intake_asked.specs.Said.{AreSaidAfter, is_no_decision}
use Rattle.intake_asked.proofs.InOrder.{passed_over, one_said}
use Rattle.intake_asked.proofs.commands.are_said.Goals as goal

pub loop-command-init : goal.loop-command-init
loop-command-init c = λ said. said

pub loop-command-preserved-then-changes_no_decision : goal.loop-command-preserved-then-changes_no_decision
loop-command-preserved-then-changes_no_decision c = λ rest.
    let l = c.loop-command in
    l.invariant (passed_over c.args.known.now l.received c.args.wide.now l.command-index c.command-item.result
    (map command_of l.left.now) (omega arith) c.command-item.is
    (subst (λ n. IsTrue (is_no_decision n)) c.as_slice.ensures.value
    (sym c.changes_no_decision.ensures ∙ c.if-changes_no_decision.true)) rest)

pub loop-command-preserved : goal.loop-command-preserved
loop-command-preserved c = λ rest.
    let l = c.loop-command in
    l.invariant (one_said c.args.known.now l.received c.args.wide.now l.command-index c.command-item.result
    (map command_of l.left.now) (map command_of c.in-Some.rest.now) (command_of c.in-Some.first.now) (omega arith)
    c.command-item.is (ap (map command_of) c.in-Some.ensures.cases.0) (c.in_ok-says_after.ensures c.if-not-branch.false)
    (subst (λ r. AreSaidAfter c.args.known.now r (drop (l.command-index + 1) c.args.wide.now)
    (map command_of c.in-Some.rest.now)) c.has_received-received.ensures rest))

pub returns : goal.returns
returns c = λ t.
    c.loop-command.invariant (subst (λ ws. AreSaidAfter c.args.known.now c.loop-command.received ws
    (map command_of c.loop-command.left.now))
    (sym (drop_all c.loop-command.command-index c.args.wide.now (omega arith)))
    (ap (map command_of) (nil_from_length c.loop-command.left.now (grind (arith, c.is_empty.ensures, t)))))
