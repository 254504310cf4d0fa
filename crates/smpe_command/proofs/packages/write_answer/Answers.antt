use Rattle.std.proofs.Common.{List, Ok, subst, refl}
use Rattle.std.proofs.lemmas.Result.{err_from_is_err_and}
use Rattle.smpe_rehearsal.specs.Told.{TellsText}
use Rattle.smpe_command.proofs.packages.write_answer.Goals as goal

pub returns-in_err-write_all : goal.returns-in_err-write_all
returns-in_err-write_all g c =
    let answer = c.args.answer.now in
    let told = c.from_residual.result in
    let p = err_from_is_err_and told c.from_residual.ensures.1 in
    subst (λ (text : List _). TellsText g.O.Sink c.args.out.now c.write_all.new.w text answer.status told)
    c.as_slice.ensures.value (rw (p.1, p.2) (c.in_err-write_all.ensures.sends, c.in_err-write_all.ensures.after, refl))

pub returns : goal.returns
returns g c =
    let answer = c.args.answer.now in
    subst (λ (text : List _). TellsText g.O.Sink c.args.out.now c.write_all.new.w text answer.status (Ok answer.status))
    c.as_slice.ensures.value (c.in_ok-write_all.ensures.sends, c.in_ok-write_all.ensures.after, refl)
