use Rattle.std.proofs.Common.{sym, ap, subst}
use Rattle.std.specs.Prelude.{IfOk, IfErr}
use Rattle.std.proofs.lemmas.Result.{err_from_is_err_and}
use Rattle.mcs.specs.KnownWords.{parts_of}
use Rattle.mcs.specs.Said.{IsStatementSaid, IsSaidError}
use Rattle.mcs.specs.Statements.{statement_of}
use Rattle.mcs.proofs.Printables.{known_printable}
use Rattle.mcs.specs.Files.{begun_in}
use Rattle.mcs.proofs.Judging.{Stands, stands, good_statement, bad_statement, form_error, no_release, may_begin}
use Rattle.mcs.proofs.statement.read_statement.Goals as goal
use Rattle.mcs.proofs.statement.read_statement.Goals.{Else-is_misplaced}

-- the statement is in order
at : (c : Else-is_misplaced)
    → Stands (begun_in c.args.current.now) c.args.later.now c.args.group.now.records.now
    (parts_of c.in_ok-known.known c.in_ok-known.ensures.ok.0)
at c =
    let k = c.in_ok-known.ensures.ok in
    stands (begun_in c.args.current.now) c.args.later.now c.args.group.now.records.now (parts_of c.in_ok-known.known k.0)
    c.is_misplaced.result k.1 (c.is_misplaced.ensures k.0 k.2) c.if-is_misplaced.false

pub read_inside_sysmod-requires : goal.read_inside_sysmod-requires
read_inside_sysmod-requires c =
    no_release (begun_in c.args.current.now) c.args.later.now c.args.group.now.records.now
    (parts_of c.in_ok-known.known c.in_ok-known.ensures.ok.0) (at (goal.at.read_inside_sysmod-requires c).Else-is_misplaced)

pub read_outside_sysmod-requires : goal.read_outside_sysmod-requires
read_outside_sysmod-requires c =
    may_begin (begun_in c.args.current.now) c.args.later.now c.args.group.now.records.now
    (parts_of c.in_ok-known.known c.in_ok-known.ensures.ok.0) (at (goal.at.read_outside_sysmod-requires c).Else-is_misplaced)
    (ap begun_in c.in-None.is)

pub returns-in-Some-clause-good : goal.returns-in-Some-clause-good
returns-in-Some-clause-good c =
    let k = c.in_ok-known.ensures.ok in
    let p = parts_of c.in_ok-known.known k.0 in
    good_statement (begun_in c.args.current.now) c.args.later.now c.args.group.now.records.now p
    c.read_inside_sysmod.result (at (goal.at.returns-in-Some-clause-good c).Else-is_misplaced)
    (subst (λ o. IfOk c.read_inside_sysmod.result (λ s. IsStatementSaid (begun_in o) p (statement_of s)))
    (sym c.in-Some.is) (c.read_inside_sysmod.ensures.said k.0 k.2))

pub returns-in-Some-clause-fault : goal.returns-in-Some-clause-fault
returns-in-Some-clause-fault c = λ each.
    let k = c.in_ok-known.ensures.ok in
    let p = parts_of c.in_ok-known.known k.0 in
    let printable = known_printable c.args.group.now.records.now p each k.1 in
    bad_statement (begun_in c.args.current.now) c.args.later.now c.args.group.now.records.now p
    c.read_inside_sysmod.result (at (goal.at.returns-in-Some-clause-fault c).Else-is_misplaced)
    (subst (λ o. IfErr c.read_inside_sysmod.result (IsSaidError (begun_in o) p)) (sym c.in-Some.is)
    (c.read_inside_sysmod.ensures.fault k.0 k.2 printable))

pub returns-clause-good : goal.returns-clause-good
returns-clause-good c =
    let k = c.in_ok-known.ensures.ok in
    let p = parts_of c.in_ok-known.known k.0 in
    good_statement (begun_in c.args.current.now) c.args.later.now c.args.group.now.records.now p
    c.read_outside_sysmod.result (at (goal.at.returns-clause-good c).Else-is_misplaced)
    (subst (λ o. IfOk c.read_outside_sysmod.result (λ s. IsStatementSaid (begun_in o) p (statement_of s)))
    (sym c.in-None.is) (c.read_outside_sysmod.ensures.said k.0 k.2))

pub returns-clause-fault : goal.returns-clause-fault
returns-clause-fault c = λ each.
    let k = c.in_ok-known.ensures.ok in
    let p = parts_of c.in_ok-known.known k.0 in
    bad_statement (begun_in c.args.current.now) c.args.later.now c.args.group.now.records.now p
    c.read_outside_sysmod.result (at (goal.at.returns-clause-fault c).Else-is_misplaced)
    (subst (λ o. IfErr c.read_outside_sysmod.result (IsSaidError (begun_in o) p)) (sym c.in-None.is)
    (c.read_outside_sysmod.ensures.fault k.0 k.2))

pub returns-then-is_misplaced-clause-fault : goal.returns-then-is_misplaced-clause-fault
returns-then-is_misplaced-clause-fault c = λ each.
    let k = c.in_ok-known.ensures.ok in
    (parts_of c.in_ok-known.known k.0, k.1, (c.is_misplaced.ensures k.0 k.2).0 c.if-is_misplaced.true)

pub returns-in_err-known-clause-fault : goal.returns-in_err-known-clause-fault
returns-in_err-known-clause-fault c = λ each.
    let p = err_from_is_err_and c.from_residual.result c.from_residual.ensures.1 in
    rw (p.1, p.2) (form_error (begun_in c.args.current.now) c.args.later.now c.args.group.now.records.now c.in_err-known.field-0.0
    c.in_err-known.ensures.fault)
