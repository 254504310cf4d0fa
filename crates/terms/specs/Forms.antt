-- The forms of ids, names and other values.
use Rattle.std.specs.Prelude.{◌≡◌, ◌≢◌, ◌≤◌, ◌+◌, ◌/◌, ◌%◌, ℕ, Bool, false, [], ◌∷◌, ◌++◌, length, take, drop, reverse}
use Rattle.std.specs.Prelude.{All, slice_index, IsTrue, nat_le, ◌&&◌, ◌||◌, ◌==◌}
use Rattle.std.specs.Str.Parse.{digits_value}
use Rattle.terms.specs.declared.kinds.HoldKind.{HoldKind}
use Rattle.terms.specs.declared.kinds.HoldKind.TheVariants.{Error, System, User}
use Rattle.terms.specs.Bytes.{blank, number_sign, dollar, plus, period, digit_zero, at_sign}
use Rattle.terms.specs.Types.{Text}

-- A to Z and 0 to 9; the characters of ids and names are these and $ # @
abbrev pub is_letter : ℕ → Bool
is_letter b = nat_le 65 b && nat_le b 90

abbrev pub is_digit : ℕ → Bool
is_digit b = nat_le 48 b && nat_le b 57

abbrev pub is_id_byte : ℕ → Bool
is_id_byte b = is_letter b || is_digit b || b == dollar || b == number_sign || b == at_sign

-- a character of a word: one of these or +
abbrev pub is_word_byte : ℕ → Bool
is_word_byte b = is_id_byte b || b == plus

-- so many characters, each of which passes the test
abbrev pub IsRun : (ℕ → Bool) → ℕ → ℕ → Text → Type 0
IsRun test least most text = (least ≤ length text) × (length text ≤ most) × All (λ b. IsTrue (test b)) text

abbrev pub IsId : Text → Type 0
IsId text = IsRun is_id_byte 7 7 text

abbrev pub IsClass : Text → Type 0
IsClass text = IsRun is_id_byte 1 7 text

-- an id if the hold is an ERROR hold
abbrev pub IsReason : HoldKind → Text → Type 0
IsReason Error text = IsId text
IsReason System text = IsClass text
IsReason User text = IsClass text

abbrev pub IsSource : Text → Type 0
IsSource text = IsRun is_id_byte 1 64 text

-- one letter and three digits
abbrev pub IsSrel : Text → Type 0
IsSrel [] = ⊥
IsSrel (b ∷ bs) = IsTrue (is_letter b) × IsRun is_digit 3 3 bs

-- an element's or a library's name
abbrev pub IsName : Text → Type 0
IsName text = IsRun is_id_byte 1 8 text × (is_digit (slice_index text 0) ≡ false)

abbrev pub IsZoneName : Text → Type 0
IsZoneName text = IsRun is_id_byte 1 7 text × IsTrue (is_letter (slice_index text 0))

-- a day of the year, from 001 to 366
abbrev pub IsDayOfYear : Text → Type 0
IsDayOfYear text = IsRun is_digit 3 3 text × (1 ≤ digits_value 10 text) × (digits_value 10 text ≤ 366)

-- yyddd, the date of a hold: two digits of a year and a day
abbrev pub IsDate : Text → Type 0
IsDate text = IsRun is_digit 2 2 (take 2 text) × IsDayOfYear (drop 2 text)

-- yy.ddd, the date of APPLY or ACCEPT
abbrev pub IsDottedDate : Text → Type 0
IsDottedDate text = IsRun is_digit 2 2 (take 2 text) × (slice_index text 2 ≡ period) × IsDayOfYear (drop 3 text)

-- the last digit of a number
abbrev pub last_digit : ℕ → ℕ
last_digit n = digit_zero + n % 10

-- the last two digits of a year, a period, and the day of the year in three digits
abbrev pub dotted_date : ℕ → ℕ → Text
dotted_date year day =
    last_digit (year / 10) ∷ last_digit year ∷ period
    ∷ last_digit (day / 100) ∷ last_digit (day / 10) ∷ last_digit day ∷ []

abbrev pub AreBlanks : Text → Type 0
AreBlanks text = All (λ b. b ≡ blank) text

-- there is a first byte, and it is not a blank
abbrev pub BeginsDark : Text → Type 0
BeginsDark [] = ⊥
BeginsDark (b ∷ bs) = b ≢ blank

-- the text without the blanks at both ends, if anything is left
abbrev pub IsTrimmed : Text → Text → Type 0
IsTrimmed text cut = (left right : Text) × (text ≡ left ++ cut ++ right) × AreBlanks left × AreBlanks right
    × BeginsDark cut × BeginsDark (reverse cut)
