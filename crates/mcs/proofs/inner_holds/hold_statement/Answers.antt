use Rattle.std.proofs.Common.{◌∙◌, Some, sym, refl}
use Rattle.std.proofs.lemmas.Bool.{true≢false}
use Rattle.terms.specs.Statements.{SaysHold}
use Rattle.std.proofs.lemmas.Result.{err_from_is_err_and}
use Rattle.mcs.specs.KnownWords.{own_list}
use Rattle.mcs.specs.Files.{begun_of}
use Rattle.mcs.proofs.Holding.{hold_value, hold_error, hold_said}
use Rattle.mcs.proofs.inner_holds.hold_statement.Goals as goal

pub returns-in_err-hold-clause-fault : goal.returns-in_err-hold-clause-fault
returns-in_err-hold-clause-fault c = λ rest h printable.
    let p = err_from_is_err_and c.from_residual.result c.from_residual.ensures.1 in
    let b = begun_of c.args.begun.now in
    rw (p.1, p.2) (hold_error (Some b) b c.args.known.now.word (own_list c.args.known.now) rest
    c.args.known.now.inline.now c.in_err-hold.field-0.0 refl c.requires (c.in_err-hold.ensures.bad rest h printable))

pub returns-then-not-has_short_comment-clause-fault : goal.returns-then-not-has_short_comment-clause-fault
returns-then-not-has_short_comment-clause-fault c = λ rest h printable.
    let b = begun_of c.args.begun.now in (
      SaysHold c.in_ok-hold.hold,
      hold_value (Some b) b c.args.known.now.word (own_list c.args.known.now) rest c.args.known.now.inline.now
          c.in_ok-hold.hold refl c.requires (c.in_ok-hold.ensures.ok rest h),
      λ within. true≢false (sym (c.has_short_comment.ensures.1 within) ∙ c.if-not-has_short_comment.true),
    )

pub returns-clause-said : goal.returns-clause-said
returns-clause-said c = λ rest h.
    let b = begun_of c.args.begun.now in
    hold_said (Some b) b c.args.known.now.word (own_list c.args.known.now) rest c.args.known.now.inline.now
    c.in_ok-hold.hold refl c.requires (c.in_ok-hold.ensures.ok rest h)
    (c.has_short_comment.ensures.0 c.if-not-has_short_comment.false)
