use Rattle.std.proofs.Common.{◌∙◌, Some, sym, refl}
use Rattle.std.proofs.lemmas.Bool.{true≢false}
use Rattle.terms.specs.Statements.{SaysIf}
use Rattle.rec80.specs.Views.{words_of}
use Rattle.std.proofs.lemmas.Result.{err_from_is_err_and}
use Rattle.mcs.specs.KnownWords.{own_list}
use Rattle.mcs.specs.Files.{begun_of}
use Rattle.mcs.proofs.Conditions.{if_value, if_error, if_no_words, if_within, if_said}
use Rattle.mcs.proofs.ifs.if_statement.Goals as goal

pub returns-in_default-clause-fault : goal.returns-in_default-clause-fault
returns-in_default-clause-fault c = λ rest h.
    if_no_words (Some (begun_of c.args.begun.now)) c.args.known.now.word (own_list c.args.known.now) rest
    c.args.known.now.inline.now c.requires (c.in_default.ensures.none rest h)

pub returns-in_err-condition-clause-fault : goal.returns-in_err-condition-clause-fault
returns-in_err-condition-clause-fault c = λ rest h.
    let p = err_from_is_err_and c.from_residual.result c.from_residual.ensures.1 in
    let b = begun_of c.args.begun.now in
    rw (p.1, p.2) (if_error (Some b) b c.args.known.now.word (own_list c.args.known.now) rest
    c.args.known.now.inline.now (words_of c.in-Some.words.now) c.in_err-condition.field-0.0 refl c.requires
    (c.in-Some.ensures.some rest h) c.in_err-condition.ensures.bad)

pub returns-then-not-is_within_limits-clause-fault : goal.returns-then-not-is_within_limits-clause-fault
returns-then-not-is_within_limits-clause-fault c = λ rest h.
    let b = begun_of c.args.begun.now in
    let inline = c.args.known.now.inline.now in (
      SaysIf c.in_ok-condition.condition,
      if_value (Some b) b c.args.known.now.word (own_list c.args.known.now) rest inline c.in_ok-condition.condition refl
          c.requires (words_of c.in-Some.words.now, c.in-Some.ensures.some rest h, c.in_ok-condition.ensures.ok),
      λ within. true≢false (sym (c.is_within_limits.ensures.1
          (if_within (Some b) b c.in_ok-condition.condition inline refl within)) ∙ c.if-not-is_within_limits.true),
    )

pub returns-clause-said : goal.returns-clause-said
returns-clause-said c = λ rest h.
    let b = begun_of c.args.begun.now in
    if_said (Some b) b c.args.known.now.word (own_list c.args.known.now) rest c.args.known.now.inline.now
    c.in_ok-condition.condition refl c.requires
    (words_of c.in-Some.words.now, c.in-Some.ensures.some rest h, c.in_ok-condition.ensures.ok)
    (c.is_within_limits.ensures.0 c.if-not-is_within_limits.false)
