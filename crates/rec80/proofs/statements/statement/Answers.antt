use Rattle.std.proofs.lemmas.Result.{err_from_is_err_and}
use Rattle.rec80.proofs.Stating.{is_statement, is_fault, no_statement}
use Rattle.rec80.proofs.statements.statement.Goals as goal

pub returns-in_err-inline-clause-fault : goal.returns-in_err-inline-clause-fault
returns-in_err-inline-clause-fault c =
    let p = err_from_is_err_and c.from_residual.result c.from_residual.ensures.1 in
    rw (p.1, p.2) (is_fault c.args.group.now.records.now c.in-Some.rest c.in_err-inline.field-0.0 c.in-Some.ensures.text
    c.in-Some.ensures.place c.in_err-inline.ensures.fault)

pub returns-in_err-inline-clause-good : goal.returns-in_err-inline-clause-good
returns-in_err-inline-clause-good c =
    λ pieces inline s.
    absurd (no_statement c.args.group.now.records.now c.in-Some.rest c.in_err-inline.field-0.0 c.in-Some.ensures.text
    c.in-Some.ensures.place c.in_err-inline.ensures.fault pieces inline s)

pub returns-clause-ok : goal.returns-clause-ok
returns-clause-ok c =
    let e = c.in_ok-inline.ensures.ok in
    is_statement c.args.group.now.records.now c.in-Some.rest e.0 e.1 c.in_ok-inline.inline.now c.in-Some.ensures.text
    c.in-Some.ensures.place e.2 e.3
