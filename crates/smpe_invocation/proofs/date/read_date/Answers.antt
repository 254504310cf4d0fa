use Rattle.std.proofs.Common.{rules, subst, refl}
use Rattle.smpe_invocation.specs.Dates.{HasDateForm, IsCalendarDay}
use Rattle.smpe_invocation.proofs.date.read_date.Goals as goal

pub returns-clause-form : goal.returns-clause-form
returns-clause-form c =
    let read : HasDateForm c.as_bytes.result.now = c.has_date_form.ensures.0 (search rules) in
    let form : HasDateForm c.args.text.now = subst HasDateForm c.as_bytes.ensures.value read in
    let day : IsCalendarDay c.args.text.now = c.in_ok-date.ensures.form.0 refl in
    (λ _. (form, day), λ _. refl)
