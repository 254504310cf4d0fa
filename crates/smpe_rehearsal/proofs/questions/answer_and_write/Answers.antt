use Rattle.std.proofs.Common.{List, Ok, inr, refl, subst}
use Rattle.std.proofs.lemmas.Result.{err_from_is_err_and}
use Rattle.smpe_rehearsal.specs.Told.{TellsText}
use Rattle.smpe_rehearsal.proofs.questions.answer_and_write.Goals as goal

pub returns-in_err-write_all : goal.returns-in_err-write_all
returns-in_err-write_all g c =
    let answer = c.in_ok-answer.answer in
    let told = c.from_residual-in_err-write_all.result in
    let p = err_from_is_err_and told c.from_residual-in_err-write_all.ensures.1 in
    inr (
      answer,
      c.in_ok-answer.ensures,
      subst (λ (text : List _). TellsText g.O.Sink c.args.out.now c.write_all.new.w text answer.status told)
          c.as_slice.ensures.value
          (rw (p.1, p.2) (c.in_err-write_all.ensures.sends, c.in_err-write_all.ensures.after, refl)),
    )

pub returns : goal.returns
returns g c =
    let answer = c.in_ok-answer.answer in
    inr (
      answer,
      c.in_ok-answer.ensures,
      subst (λ (text : List _).
          TellsText g.O.Sink c.args.out.now c.write_all.new.w text answer.status (Ok answer.status))
          c.as_slice.ensures.value (c.in_ok-write_all.ensures.sends, c.in_ok-write_all.ensures.after, refl),
    )
