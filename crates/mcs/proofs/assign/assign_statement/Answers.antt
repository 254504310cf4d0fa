use Rattle.std.proofs.Common.{◌∙◌, sym}
use Rattle.std.proofs.lemmas.Bool.{true≢false}
use Rattle.terms.specs.Statements.{SaysAssign}
use Rattle.std.proofs.lemmas.Result.{err_from_is_err_and}
use Rattle.mcs.specs.KnownWords.{own_list}
use Rattle.mcs.specs.Files.{begun_in}
use Rattle.mcs.proofs.Assigning.{assign_value, assign_error, assign_said}
use Rattle.mcs.proofs.assign.assign_statement.Goals as goal

pub returns-in_err-assign-clause-fault : goal.returns-in_err-assign-clause-fault
returns-in_err-assign-clause-fault c = λ current rest h.
    let p = err_from_is_err_and c.from_residual.result c.from_residual.ensures.1 in
    rw (p.1, p.2) (assign_error (begun_in current) c.args.known.now.word (own_list c.args.known.now)
    rest c.args.known.now.inline.now c.in_err-assign.field-0.0 c.requires (c.in_err-assign.ensures.bad rest h))

pub returns-then-not-is_within_limits-clause-fault : goal.returns-then-not-is_within_limits-clause-fault
returns-then-not-is_within_limits-clause-fault c = λ current rest h. (
  SaysAssign c.in_ok-assign.assign,
  assign_value (begun_in current) c.args.known.now.word (own_list c.args.known.now) rest
      c.args.known.now.inline.now c.in_ok-assign.assign c.requires (c.in_ok-assign.ensures.ok rest h),
  λ within. true≢false (sym (c.is_within_limits.ensures.1 within) ∙ c.if-not-is_within_limits.true),
)

pub returns-clause-said : goal.returns-clause-said
returns-clause-said c = λ current rest h.
    assign_said (begun_in current) c.args.known.now.word (own_list c.args.known.now) rest
    c.args.known.now.inline.now c.in_ok-assign.assign c.requires (c.in_ok-assign.ensures.ok rest h)
    (c.is_within_limits.ensures.0 c.if-not-is_within_limits.false)
