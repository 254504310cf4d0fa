use Rattle.std.proofs.Common.{sym, subst}
use Rattle.std.proofs.lemmas.Result.{err_from_is_err_and}
use Rattle.terms.specs.HoldFile.{BeginsWithItems}
use Rattle.rec80.specs.Views.{group_of}
use Rattle.mcs.specs.FileFaults.{error_at}
use Rattle.mcs.specs.HoldItems.{items, IsHoldFileError, IsRestError}
use Rattle.mcs.proofs.HoldFiling.{items_more, rest_error, group_records, first_error, file_error, error_is}
use Rattle.mcs.proofs.hold_file.read_hold.Goals as goal
use Rattle.mcs.proofs.hold_file.read_hold.Goals.{After-error_at}

pub loop-group-preserved : goal.loop-group-preserved
loop-group-preserved c =
    let all = c.in_ok-left.left in
    let more = items_more all.number all.rest.now c.loop-group.found.items c.loop-group.left.number
    c.loop-group.left.rest.now (group_of c.in-Some.group) c.next_group.new.self.number
    c.next_group.new.self.rest.now c.in-Ok.item c.loop-group.invariant c.in-Some.ensures.group
    c.in-Ok.ensures.good in
    subst (λ l. BeginsWithItems all.number all.rest.now (items l) c.next_group.new.self.number
    c.next_group.new.self.rest.now) (sym c.in_ok-push-in-Ok.ensures.items) more

pub returns-in_err-left-clause-good : goal.returns-in_err-left-clause-good
returns-in_err-left-clause-good c = λ found is.
    let p = err_from_is_err_and c.from_residual.result c.from_residual.ensures.1 in
    rw (p.1, p.2) (error_is c.args.bytes.now c.in_err-left.field-0.0 found
    (first_error c.args.bytes.now c.in_err-left.field-0.0 c.in_err-left.ensures.fault) is)

-- the fault of the statement is the file's
fault_of : (c : After-error_at) → IsHoldFileError c.args.bytes.now c.error_at.result
fault_of c =
    let all = c.in_ok-left.left in
    let k = c.in_ok-left.ensures.ok in
    let begins = c.loop-group.invariant in
    let group = c.in-Some.ensures.group in
    let found = items c.loop-group.found.items in
    let left = c.loop-group.left in
    let next = c.next_group.new.self in
    let own = group_records all.number all.rest.now found left.number left.rest.now
    (group_of c.in-Some.group) next.number next.rest.now begins group k.1.each in
    let error = error_at c.in-Some.group.number c.in-Err.error in
    rw c.error_at.ensures (file_error c.args.bytes.now all.rest.now error k.1
    (subst (λ n. IsRestError n all.rest.now error) k.0
    (rest_error all.number all.rest.now found left.number left.rest.now
    (group_of c.in-Some.group) next.number next.rest.now c.in-Err.error begins group (c.in-Err.ensures.fault own))))

pub returns-in-Err-clause-fault : goal.returns-in-Err-clause-fault
returns-in-Err-clause-fault c = fault_of (goal.at.returns-in-Err-clause-fault c).After-error_at

pub returns-in-Err-clause-good : goal.returns-in-Err-clause-good
returns-in-Err-clause-good c = λ found is.
    error_is c.args.bytes.now c.error_at.result found
    (fault_of (goal.at.returns-in-Err-clause-good c).After-error_at) is
