-- A day of the year is one of 366 at most.
use Rattle.std.proofs.Common.{◌≤◌, arith}
use Rattle.jiff_core.specs.Calendar.{IsCivilDate}
use Rattle.jiff_core.specs.Date.{ordinal}
use Rattle.jiff_core.specs.declared.civil.date.Date.{Date}
use Rattle.jiff_core.proofs.CalendarLemmas.{day_of_year_bound, days_in_year_bounds}

pub ordinal_small : (d : Date) → ordinal d ≤ 366
ordinal_small d =
    let civil : IsCivilDate d.year d.month d.day = (d.year_in, d.month_in, d.day_in) in
    omega (arith, day_of_year_bound d.year d.month d.day civil, days_in_year_bounds d.year)
