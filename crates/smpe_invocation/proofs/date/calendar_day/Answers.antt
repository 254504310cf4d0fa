use Rattle.std.proofs.Common.{◌↔◌, pos, sym, subst, IsSome, IfSome}
use Rattle.jiff_core.specs.Date.{IsYmd}
use Rattle.smpe_invocation.specs.Dates.{IsCalendarDay, year_of, month_of, day_of}
use Rattle.smpe_invocation.proofs.ParsedDates.{reads_day, form_of, value_of}
use Rattle.smpe_invocation.proofs.date.calendar_day.Goals as goal

pub returns-clause-form : goal.returns-clause-form
returns-clause-form c =
    let t = c.args.text.now in
    subst (λ o. IsSome o ↔ IsCalendarDay t) (sym c.ok.ensures.value)
    (form_of t (reads_day t c.requires) c.parse.result c.parse.ensures.value)

pub returns-clause-value : goal.returns-clause-value
returns-clause-value c =
    let t = c.args.text.now in
    subst (λ o. IfSome o (IsYmd (pos (year_of t)) (pos (month_of t)) (pos (day_of t)))) (sym c.ok.ensures.value)
    (value_of t (reads_day t c.requires) c.parse.result c.parse.ensures.value)
