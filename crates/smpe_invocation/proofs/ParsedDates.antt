-- What jiff reads of a text with the form of a date.
use Rattle.std.proofs.Common.{◌≡◌, ℕ, pos, ◌+◌, ◌-◌, ◌*◌, ◌<◌, ◌==◌, ◌&&◌, ◌||◌, nat_lt, Bool, true, false, List, []}
use Rattle.std.proofs.Common.{◌∷◌, Some, Ok, Err, Result, IsOk, IsTrue, IsSome, IfSome, ◌↔◌, refl, sym, ap, subst}
use Rattle.std.proofs.Common.{arith, ◌∙◌}
use Rattle.std.proofs.lemmas.Bool.Decides.{nat_tests}
use Rattle.std.proofs.lemmas.List.Elements.{All-head, All-tail}
use Rattle.std.specs.Char.{is_ascii_digit}
use Rattle.std.specs.Result.{result_ok}
use Rattle.jiff_core.specs.Date.{IsYmd}
use Rattle.jiff_core.specs.declared.civil.date.Date.{Date}
use Rattle.std.specs.Str.Parse.{digits_value}
use Rattle.terms.specs.Types.{Text}
use Rattle.terms.specs.Forms.{is_digit}
use Rattle.jiff_core.specs.Calendar.{IsDate, days_in_month}
use Rattle.jiff_core.proofs.SignedLemmas.{signed_arith}
use Rattle.jiff_core.proofs.CalendarLemmas.{days_in_month_bounds}
use Rattle.jiff_core.specs.declared.error.Error.{Error}
use Rattle.jiff_core.specs.declared.error.Error.TheVariants.{Range, InvalidDay}
use Rattle.jiff_core.specs.declared.error.Bound.{Bound}
use Rattle.jiff_core.specs.declared.error.Bound.TheVariants as beyond
use Rattle.jiff_core.specs.declared.error.Syntax.{Syntax}
use Rattle.jiff_fmt.specs.Reader.{two_digits, four_digits, field}
use Rattle.jiff_fmt.specs.Temporal.{year, month, day, date_spec, parse_date, date_view, date_parts, DateParts}
use Rattle.jiff_fmt.proofs.TemporalLemmas.{date_spec-ok, date_spec-invalid, parse_date-alone, parse_date-err}
use Rattle.smpe_invocation.specs.Dates.{HasDateForm, IsCalendarDay, year_of, month_of, day_of}

-- two digits at the front
two_read : (a b : ℕ) (rest : List ℕ) → IsTrue (is_digit a) → IsTrue (is_digit b)
    → two_digits (a ∷ b ∷ rest) ≡ Some (digits_value 10 (a ∷ b ∷ []), rest)
unfolding two_digits
two_read a b rest da db =
    let digits : (is_ascii_digit a && is_ascii_digit b) ≡ true = grind (arith, nat_tests) in
    let value : (a - 48) * 10 + (b - 48) ≡ digits_value 10 (a ∷ b ∷ []) = grind (arith, nat_tests) in
    rw (digits, value)

-- a number of two digits in a range, or an error
pub field_read : (missing : Syntax) (low high : ℕ) (bound : Bound) (a b : ℕ) (rest : List ℕ) → IsTrue (is_digit a)
    → IsTrue (is_digit b)
    → (nat_lt (digits_value 10 (a ∷ b ∷ [])) low || nat_lt high (digits_value 10 (a ∷ b ∷ []))) ≡ false
    → field missing low high bound (a ∷ b ∷ rest) ≡ Ok (digits_value 10 (a ∷ b ∷ []), rest)
unfolding field
field_read missing low high bound a b rest da db within = rw (two_read a b rest da db, within)

pub field_refused : (missing : Syntax) (low high : ℕ) (bound : Bound) (a b : ℕ) (rest : List ℕ) → IsTrue (is_digit a)
    → IsTrue (is_digit b)
    → (nat_lt (digits_value 10 (a ∷ b ∷ [])) low || nat_lt high (digits_value 10 (a ∷ b ∷ []))) ≡ true
    → field missing low high bound (a ∷ b ∷ rest) ≡ Err (Range bound)
unfolding field
field_refused missing low high bound a b rest da db beyond = rw (two_read a b rest da db, beyond)

-- four digits of a year
pub year_read : (a b c d : ℕ) (rest : List ℕ) → IsTrue (is_digit a) → IsTrue (is_digit b) → IsTrue (is_digit c)
    → IsTrue (is_digit d) → year (a ∷ b ∷ c ∷ d ∷ rest) ≡ Ok (pos (digits_value 10 (a ∷ b ∷ c ∷ d ∷ [])), rest)
unfolding year four_digits
year_read a b c d rest da db dc dd =
    let not_plus : (a == 43) ≡ false = grind (arith, nat_tests) in
    let not_minus : (a == 45) ≡ false = grind (arith, nat_tests) in
    let value : digits_value 10 (a ∷ b ∷ []) * 100 + digits_value 10 (c ∷ d ∷ [])
    ≡ digits_value 10 (a ∷ b ∷ c ∷ d ∷ []) = grind (arith, nat_tests) in
    rw (not_plus, not_minus, two_read a b (c ∷ d ∷ rest) da db, two_read c d rest dc dd, value)

abbrev an_error : Error → Result DateParts Error
an_error e = Err e

not_ok : (e : Error) → IsOk (an_error e) → ⊥
not_ok e ok =
    let z : ◌≡◌ {A = ℕ} 0 1 = cc in
    omega (arith, z)

-- ten bytes: digits with a hyphen after the year and after the month
module _ (y1 y2 y3 y4 m1 m2 d1 d2 : ℕ) (iy1 : IsTrue (is_digit y1)) (iy2 : IsTrue (is_digit y2))
    (iy3 : IsTrue (is_digit y3)) (iy4 : IsTrue (is_digit y4)) (im1 : IsTrue (is_digit m1)) (im2 : IsTrue (is_digit m2))
    (id1 : IsTrue (is_digit d1)) (id2 : IsTrue (is_digit d2)) where
  abbrev y : ℕ
  y = digits_value 10 (y1 ∷ y2 ∷ y3 ∷ y4 ∷ [])

  abbrev m : ℕ
  m = digits_value 10 (m1 ∷ m2 ∷ [])

  abbrev d : ℕ
  d = digits_value 10 (d1 ∷ d2 ∷ [])

  abbrev after_year : Text
  after_year = 45 ∷ m1 ∷ m2 ∷ 45 ∷ d1 ∷ d2 ∷ []

  abbrev text : Text
  text = y1 ∷ y2 ∷ y3 ∷ y4 ∷ after_year

  abbrev IsDay : Type 0
  IsDay = IsDate (pos y) (pos m) (pos d)

  abbrev parts : DateParts
  parts = record { year = pos y; month = m; day = d }

  year_is : year text ≡ Ok (pos y, after_year)
  year_is = year_read y1 y2 y3 y4 after_year iy1 iy2 iy3 iy4

  small : y < 10_000
  small = grind (arith, nat_tests)

  month_is : (nat_lt m 1 || nat_lt 12 m) ≡ false → month (m1 ∷ m2 ∷ 45 ∷ d1 ∷ d2 ∷ []) ≡ Ok (m, 45 ∷ d1 ∷ d2 ∷ [])
  month_is within = field_read _ 1 12 _ m1 m2 (45 ∷ d1 ∷ d2 ∷ []) im1 im2 within

  day_is : (nat_lt d 1 || nat_lt 31 d) ≡ false → day (d1 ∷ d2 ∷ []) ≡ Ok (d, [])
  day_is within = field_read _ 1 31 _ d1 d2 [] id1 id2 within

  -- a month out of range, a day out of range, and a day that the month lacks
  no_month : (nat_lt m 1 || nat_lt 12 m) ≡ true → date_spec text ≡ Err (Range beyond.Month)
  unfolding date_spec
  no_month out = rw (year_is, field_refused _ 1 12 _ m1 m2 (45 ∷ d1 ∷ d2 ∷ []) im1 im2 out)

  no_day : (nat_lt m 1 || nat_lt 12 m) ≡ false → (nat_lt d 1 || nat_lt 31 d) ≡ true
      → date_spec text ≡ Err (Range beyond.Day)
  unfolding date_spec
  no_day within out = rw (year_is, month_is within, field_refused _ 1 31 _ d1 d2 [] id1 id2 out)

  past_month : (nat_lt m 1 || nat_lt 12 m) ≡ false → (nat_lt d 1 || nat_lt 31 d) ≡ false
      → nat_lt (days_in_month (pos y) m) d ≡ true → date_spec text ≡ Err InvalidDay
  past_month a b past = date_spec-invalid text after_year (m1 ∷ m2 ∷ 45 ∷ d1 ∷ d2 ∷ [])
      (45 ∷ d1 ∷ d2 ∷ []) (d1 ∷ d2 ∷ []) []
      (pos y) m d year_is refl (month_is a) refl (day_is b) past

  -- of a day that the calendar has jiff reads its parts
  pub read_day : IsDay → parse_date text ≡ Ok parts
  read_day is =
      let a : (nat_lt m 1 || nat_lt 12 m) ≡ false = grind (arith, nat_tests, signed_arith, is.1.0, is.1.1) in
      let most = (days_in_month_bounds (pos y) m).0 in
      let b : (nat_lt d 1 || nat_lt 31 d) ≡ false = grind (arith, nat_tests, signed_arith, is.2.0, is.2.1, most) in
      let fits : nat_lt (days_in_month (pos y) m) d ≡ false = grind (arith, nat_tests, signed_arith, is.2.1) in
      parse_date-alone text parts (date_spec-ok text after_year (m1 ∷ m2 ∷ 45 ∷ d1 ∷ d2 ∷ [])
      (45 ∷ d1 ∷ d2 ∷ []) (d1 ∷ d2 ∷ []) []
      (pos y) m d year_is refl (month_is a) refl (day_is b) fits)

  -- and what jiff reads is a day that the calendar has
  pub day_read : IsOk (parse_date text) → IsDay
  day_read ok = by_month (nat_lt m 1 || nat_lt 12 m) refl
    where
      refused : (e : Error) → date_spec text ≡ Err e → IsDay
      refused e is = absurd (not_ok e (subst IsOk (parse_date-err text e is) ok))

      by_length : (nat_lt m 1 || nat_lt 12 m) ≡ false → (nat_lt d 1 || nat_lt 31 d) ≡ false → (b : Bool)
          → nat_lt (days_in_month (pos y) m) d ≡ b → IsDay
      by_length a b true past = refused InvalidDay (past_month a b past)
      by_length a b false fits = (
        (omega (arith, signed_arith), omega (arith, signed_arith, small)),
        (grind (arith, nat_tests, signed_arith), grind (arith, nat_tests, signed_arith)),
        (grind (arith, nat_tests, signed_arith), grind (arith, nat_tests, signed_arith)),
      )

      by_day : (nat_lt m 1 || nat_lt 12 m) ≡ false → (b : Bool) → (nat_lt d 1 || nat_lt 31 d) ≡ b → IsDay
      by_day a true out = refused (Range beyond.Day) (no_day a out)
      by_day a false within = by_length a within (nat_lt (days_in_month (pos y) m) d) refl

      by_month : (b : Bool) → (nat_lt m 1 || nat_lt 12 m) ≡ b → IsDay
      by_month true out = refused (Range beyond.Month) (no_month out)
      by_month false within = by_day within (nat_lt d 1 || nat_lt 31 d) refl

-- of a text with this form jiff reads the day that it names, if the calendar has it
abbrev pub parts_of : Text → DateParts
parts_of t = record { year = pos (year_of t); month = month_of t; day = day_of t }

pub record ReadsDay (t : Text) : Type 0 where
  pub reads : IsCalendarDay t → parse_date t ≡ Ok (parts_of t)
  pub exists : IsOk (parse_date t) → IsCalendarDay t

-- it is one of ten bytes
pub reads_day : (t : Text) → HasDateForm t → ReadsDay t
reads_day ([]) (len, first, second, digits) = absurd (omega (arith, len))
reads_day (b0 ∷ []) (len, first, second, digits) = absurd (omega (arith, len))
reads_day (b0 ∷ b1 ∷ []) (len, first, second, digits) = absurd (omega (arith, len))
reads_day (b0 ∷ b1 ∷ b2 ∷ []) (len, first, second, digits) = absurd (omega (arith, len))
reads_day (b0 ∷ b1 ∷ b2 ∷ b3 ∷ []) (len, first, second, digits) = absurd (omega (arith, len))
reads_day (b0 ∷ b1 ∷ b2 ∷ b3 ∷ b4 ∷ []) (len, first, second, digits) = absurd (omega (arith, len))
reads_day (b0 ∷ b1 ∷ b2 ∷ b3 ∷ b4 ∷ b5 ∷ []) (len, first, second, digits) = absurd (omega (arith, len))
reads_day (b0 ∷ b1 ∷ b2 ∷ b3 ∷ b4 ∷ b5 ∷ b6 ∷ []) (len, first, second, digits) = absurd (omega (arith, len))
reads_day (b0 ∷ b1 ∷ b2 ∷ b3 ∷ b4 ∷ b5 ∷ b6 ∷ b7 ∷ []) (len, first, second, digits) = absurd (omega (arith, len))
reads_day (b0 ∷ b1 ∷ b2 ∷ b3 ∷ b4 ∷ b5 ∷ b6 ∷ b7 ∷ b8 ∷ []) (len, first, second, digits) = absurd (omega (arith, len))
reads_day (b0 ∷ b1 ∷ b2 ∷ b3 ∷ b4 ∷ b5 ∷ b6 ∷ b7 ∷ b8 ∷ b9 ∷ b ∷ rest) (len, first, second, digits) =
    absurd (omega (arith, len))
reads_day (b0 ∷ b1 ∷ b2 ∷ b3 ∷ b4 ∷ b5 ∷ b6 ∷ b7 ∷ b8 ∷ b9 ∷ []) (len, first, second, digits) =
    let P = λ (x : ℕ). IsTrue (is_digit x) in
    let y2 = All-tail P b0 (b1 ∷ b2 ∷ b3 ∷ []) digits.0 in
    let y3 = All-tail P b1 (b2 ∷ b3 ∷ []) y2 in
    let y4 = All-tail P b2 (b3 ∷ []) y3 in
    let m2 = All-tail P b5 (b6 ∷ []) digits.1 in
    let d2 = All-tail P b8 (b9 ∷ []) digits.2 in
    let Ten = λ (x y : ℕ). ReadsDay (b0 ∷ b1 ∷ b2 ∷ b3 ∷ x ∷ b5 ∷ b6 ∷ y ∷ b8 ∷ b9 ∷ []) in
    let i0 = All-head P b0 (b1 ∷ b2 ∷ b3 ∷ []) digits.0 in
    let i1 = All-head P b1 (b2 ∷ b3 ∷ []) y2 in
    let i2 = All-head P b2 (b3 ∷ []) y3 in
    let i3 = All-head P b3 [] y4 in
    let i5 = All-head P b5 (b6 ∷ []) digits.1 in
    let i6 = All-head P b6 [] m2 in
    let i8 = All-head P b8 (b9 ∷ []) digits.2 in
    let i9 = All-head P b9 [] d2 in
    let ten : Ten 45 45 = record {
      reads = read_day b0 b1 b2 b3 b5 b6 b8 b9 i0 i1 i2 i3 i5 i6 i8 i9;
      exists = day_read b0 b1 b2 b3 b5 b6 b8 b9 i0 i1 i2 i3 i5 i6 i8 i9;
    } in
    subst (λ x. Ten x b7) (sym first) (subst (λ y. Ten 45 y) (sym second) ten)

-- what comes of jiff's answer
abbrev ok_parts : Result DateParts Error → DateParts
ok_parts (Ok p) = p
ok_parts (Err e) = record { year = pos 0; month = 0; day = 0 }

module _ (t : Text) (is : ReadsDay t) where
  pub form_of : (r : Result Date Error) → date_view r ≡ parse_date t → IsSome (result_ok r) ↔ IsCalendarDay t
  form_of (Ok read) e = (λ some. is.exists (subst IsOk e refl), λ day. refl)
  form_of (Err why) e = (
    λ some. absurd (let z : ◌≡◌ {A = ℕ} 0 1 = cc in omega (arith, z)),
    λ day. absurd (not_ok why (subst IsOk (sym (e ∙ is.reads day)) refl)),
  )

  pub value_of : (r : Result Date Error) → date_view r ≡ parse_date t
      → IfSome (result_ok r) (IsYmd (pos (year_of t)) (pos (month_of t)) (pos (day_of t)))
  value_of (Ok read) e =
      let same : date_parts read ≡ parts_of t = ap ok_parts (e ∙ is.reads (is.exists (subst IsOk e refl))) in
      (ap (λ p. p.year) same, ap (λ p. pos p.month) same, ap (λ p. pos p.day) same)
  value_of (Err why) e = tt
