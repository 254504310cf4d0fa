-- A date on the command line.
use Rattle.std.specs.Prelude.{◌≡◌, ℕ, pos, length, take, drop, slice_index, All, IsTrue}
use Rattle.std.specs.Str.Parse.{digits_value}
use Rattle.jiff_core.specs.Calendar.{IsDate, day_of_year}
use Rattle.terms.specs.Types.{Text}
use Rattle.terms.specs.Forms.{is_digit, dotted_date}

abbrev pub AreDigits : Text → Type 0
AreDigits text = All (λ b. IsTrue (is_digit b)) text

-- the parts of the year, the month and the day are digits
abbrev pub HasDateDigits : Text → Type 0
HasDateDigits text = AreDigits (take 4 text) × AreDigits (take 2 (drop 5 text)) × AreDigits (take 2 (drop 8 text))

-- YYYY-MM-DD: digits, and a hyphen after the year and after the month
abbrev pub HasDateForm : Text → Type 0
HasDateForm text = (length text ≡ 10) × (slice_index text 4 ≡ 45) × (slice_index text 7 ≡ 45) × HasDateDigits text

-- the numbers that they write
abbrev pub year_of : Text → ℕ
year_of text = digits_value 10 (take 4 text)

abbrev pub month_of : Text → ℕ
month_of text = digits_value 10 (take 2 (drop 5 text))

abbrev pub day_of : Text → ℕ
day_of text = digits_value 10 (take 2 (drop 8 text))

-- the calendar has this day
abbrev pub IsCalendarDay : Text → Type 0
IsCalendarDay text = IsDate (pos (year_of text)) (pos (month_of text)) (pos (day_of text))

-- the same day as `yy.ddd`
abbrev pub dotted : Text → Text
dotted text = dotted_date (year_of text) (day_of_year (pos (year_of text)) (month_of text) (day_of text))
