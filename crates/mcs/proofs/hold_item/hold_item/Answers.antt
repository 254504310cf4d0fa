use Rattle.std.proofs.Common.{◌∙◌, sym}
use Rattle.std.proofs.lemmas.Bool.{true≢false}
use Rattle.terms.specs.Types.{AHold}
use Rattle.std.proofs.lemmas.Result.{err_from_is_err_and}
use Rattle.mcs.specs.KnownWords.{own_list}
use Rattle.mcs.proofs.HoldJudging.{hold_value, hold_error}
use Rattle.mcs.proofs.hold_item.hold_item.Goals as goal

pub returns-in_err-hold-clause-fault : goal.returns-in_err-hold-clause-fault
returns-in_err-hold-clause-fault c = λ rest h printable.
    let p = err_from_is_err_and c.from_residual.result c.from_residual.ensures.1 in
    rw (p.1, p.2) (hold_error c.args.known.now.word (own_list c.args.known.now) rest c.in_err-hold.field-0.0
    c.requires (c.in_err-hold.ensures.bad rest h printable))

pub returns-then-not-has_short_comment-clause-fault : goal.returns-then-not-has_short_comment-clause-fault
returns-then-not-has_short_comment-clause-fault c = λ rest h printable. (
  AHold c.in_ok-hold.hold,
  hold_value c.args.known.now.word (own_list c.args.known.now) rest c.in_ok-hold.hold c.requires (c.in_ok-hold.ensures.ok rest h)
      c.in_ok-hold.ensures.internal,
  λ short. true≢false (sym (c.has_short_comment.ensures.1 short) ∙ c.if-not-has_short_comment.true),
)

pub returns-clause-said : goal.returns-clause-said
returns-clause-said c = λ rest h. record {
  value = hold_value c.args.known.now.word (own_list c.args.known.now) rest c.in_ok-hold.hold c.requires
      (c.in_ok-hold.ensures.ok rest h) c.in_ok-hold.ensures.internal;
  within = c.has_short_comment.ensures.0 c.if-not-has_short_comment.false;
}
