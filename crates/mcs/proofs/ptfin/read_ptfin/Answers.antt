use Rattle.std.proofs.Common.{sym, subst, [], ◌∷◌, ◌++◌}
use Rattle.std.specs.Prelude.{All}
use Rattle.std.proofs.lemmas.Result.{err_from_is_err_and}
use Rattle.terms.specs.Records.{IsRecord}
use Rattle.terms.proofs.Each.{All_front, All_back}
use Rattle.terms.specs.Ptfin.{nothing, BeginsWithStatements}
use Rattle.rec80.specs.Views.{group_of}
use Rattle.mcs.specs.FileFaults.{error_at}
use Rattle.mcs.specs.Statements.{statement_of}
use Rattle.mcs.specs.Files.{so_far, IsPtfinError, IsRestError}
use Rattle.mcs.proofs.Filing.{begins_more, rest_error, knows_last, good_suits, first_error, file_error, error_is}
use Rattle.mcs.proofs.ptfin.read_ptfin.Goals as goal
use Rattle.mcs.proofs.ptfin.read_ptfin.Goals.{After-error_at}

pub loop-group-preserved : goal.loop-group-preserved
loop-group-preserved c =
    let all = c.in_ok-left.left in
    let ss = c.loop-group.invariant.0 in
    let s = statement_of c.in-Ok.statement in
    let b = begins_more nothing all.number all.rest.now ss (so_far c.loop-group.made)
    c.loop-group.left.number c.loop-group.left.rest.now (group_of c.in-Some.group) c.next_group.new.self.number
    c.next_group.new.self.rest.now s c.loop-group.invariant.1 c.in-Some.ensures.group c.in-Ok.ensures.good in (
      ss ++ s ∷ [],
      subst (λ d. BeginsWithStatements nothing all.number all.rest.now (ss ++ s ∷ []) d
          c.next_group.new.self.number c.next_group.new.self.rest.now) (sym c.in_ok-made-in-Ok.ensures) b,
      λ each. All_back IsRecord c.in-Some.group.records.now c.next_group.new.self.rest.now
          (subst (All IsRecord) c.in-Some.ensures.group.records_are (c.loop-group.invariant.2 each)),
    )

pub add_statement-requires : goal.add_statement-requires
add_statement-requires c =
    let all = c.in_ok-left.left in
    good_suits c.loop-group.made.current c.next_group.new.self.rest.now c.in-Some.group.records.now
    (statement_of c.in-Ok.statement)
    (knows_last nothing all.number all.rest.now c.loop-group.invariant.0 (so_far c.loop-group.made)
    c.loop-group.left.number c.loop-group.left.rest.now tt c.loop-group.invariant.1) c.in-Ok.ensures.good

pub returns-in_err-left-clause-good : goal.returns-in_err-left-clause-good
returns-in_err-left-clause-good c = λ found is.
    let p = err_from_is_err_and c.from_residual.result c.from_residual.ensures.1 in
    rw (p.1, p.2) (error_is c.args.bytes.now c.in_err-left.field-0.0 found
    (first_error c.args.bytes.now c.in_err-left.field-0.0 c.in_err-left.ensures.fault) is)

-- the fault of the statement is the file's
fault_of : (c : After-error_at) → IsPtfinError c.args.bytes.now c.error_at.result
fault_of c =
    let all = c.in_ok-left.left in
    let k = c.in_ok-left.ensures.ok in
    let group = c.in-Some.ensures.group in
    let own = All_front IsRecord c.in-Some.group.records.now c.next_group.new.self.rest.now
    (subst (All IsRecord) group.records_are (c.loop-group.invariant.2 k.1.each)) in
    let error = error_at c.in-Some.group.number c.in-Err.error in
    rw c.error_at.ensures (file_error c.args.bytes.now all.rest.now error k.1
    (subst (λ n. IsRestError nothing n all.rest.now error) k.0
    (rest_error nothing all.number all.rest.now c.loop-group.invariant.0
    (so_far c.loop-group.made) c.loop-group.left.number c.loop-group.left.rest.now (group_of c.in-Some.group)
    c.next_group.new.self.number c.next_group.new.self.rest.now c.in-Err.error c.loop-group.invariant.1 group
    (c.in-Err.ensures.fault own))))

pub returns-in-Err-clause-fault : goal.returns-in-Err-clause-fault
returns-in-Err-clause-fault c = fault_of (goal.at.returns-in-Err-clause-fault c).After-error_at

pub returns-in-Err-clause-good : goal.returns-in-Err-clause-good
returns-in-Err-clause-good c = λ found is.
    error_is c.args.bytes.now c.error_at.result found
    (fault_of (goal.at.returns-in-Err-clause-good c).After-error_at) is
