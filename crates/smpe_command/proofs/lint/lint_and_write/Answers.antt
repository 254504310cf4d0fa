use Rattle.std.proofs.Common.{◌≡◌, ◌∙◌, ℕ, List, Ok, length, inr, sym, ap, refl, subst}
use Rattle.std.proofs.lemmas.List.{length-map}
use Rattle.std.proofs.lemmas.Result.{err_from_is_err_and}
use Rattle.smpe_rehearsal.specs.Told.{TellsText}
use Rattle.smpe_command.specs.Linting.{IsSound}
use Rattle.smpe_command.proofs.lint.lint_and_write.Goals as goal

pub returns-in_err-write_all : goal.returns-in_err-write_all
returns-in_err-write_all g c =
    let answer = c.in_ok-answer.answer in
    let told = c.from_residual-in_err-write_all.result in
    let p = err_from_is_err_and told c.from_residual-in_err-write_all.ensures.1 in
    let count : length c.as_slice-2.result.now ≡ length c.args.files.now = ap length c.as_slice-2.ensures.value
    ∙ sym (length-map c.in_ok-given.given.items (λ file. file.bytes.now)) ∙ ap length c.in_ok-given.ensures
    ∙ length-map c.args.files.now (λ file. file.items) in
    inr (
      answer,
      subst (λ (n : ℕ). IsSound n c.args.options.now.srel answer) count
          (record { clean = c.in_ok-answer.ensures.clean; known = c.in_ok-answer.ensures.known }),
      subst (λ (text : List _). TellsText g.O.Sink c.args.out.now c.write_all.new.w text answer.status told)
          c.as_slice-3.ensures.value
          (rw (p.1, p.2) (c.in_err-write_all.ensures.sends, c.in_err-write_all.ensures.after, refl)),
    )

pub returns : goal.returns
returns g c =
    let answer = c.in_ok-answer.answer in
    let count : length c.as_slice-2.result.now ≡ length c.args.files.now = ap length c.as_slice-2.ensures.value
    ∙ sym (length-map c.in_ok-given.given.items (λ file. file.bytes.now)) ∙ ap length c.in_ok-given.ensures
    ∙ length-map c.args.files.now (λ file. file.items) in
    inr (
      answer,
      subst (λ (n : ℕ). IsSound n c.args.options.now.srel answer) count
          (record { clean = c.in_ok-answer.ensures.clean; known = c.in_ok-answer.ensures.known }),
      subst (λ (text : List _).
          TellsText g.O.Sink c.args.out.now c.write_all.new.w text answer.status (Ok answer.status))
          c.as_slice-3.ensures.value (c.in_ok-write_all.ensures.sends, c.in_ok-write_all.ensures.after, refl),
    )
