-- Operands of statements and commands: each a word, most with a list (SMP/E Reference and Commands: syntax of MCS and
-- commands).
use Rattle.std.specs.Prelude.{◌≡◌, ◌≢◌, ◌↔◌, ℕ, Bool, true, false, List, [], ◌∷◌, All, AllPairs, Contains, Option, Some}
use Rattle.std.specs.Prelude.{None, IsSomeAnd, IsTrue, find, if◌then◌else◌, count_by, nat_le}
use Rattle.std.specs.Str.{bytes_eq}
use Rattle.terms.specs.Types.{Text}
use Rattle.terms.specs.Statement.{Piece, TheWord, TheList}
use Rattle.terms.specs.Lookups.{is_in, IsRising}
use Rattle.terms.specs.Words.{Word, IsListOf, IsOneOf}

-- the operand of that name, if there is one
abbrev pub operand : Text → List Word → Option Word
operand name words = find (λ w. bytes_eq w.word name) words

-- only operands of these names, each at most once, in any order
pub record AreOperands (names : List Text) (words : List Word) : Type 0 where
  pub known : All (λ w. IsTrue (is_in names w.word)) words
  pub once : AllPairs (λ a b. a.word ≢ b.word) words

-- the same texts in rising order, each once
pub record AreSorted (texts sorted : List Text) : Type 0 where
  pub rising : IsRising sorted
  pub same : (x : Text) → Contains sorted x ↔ Contains texts x

-- if the word has a list of its own, the list has this one member
abbrev pub HasOwn : (Text → Type 0) → Option Text → Text → Type 0
HasOwn form own value = IsSomeAnd own (λ text. IsOneOf form text value)

-- the word's list has this one member
abbrev pub HasOne : (Text → Type 0) → Word → Text → Type 0
HasOne form w value = HasOwn form w.list value

-- the word's list has these members, in the list's order
abbrev pub HasListed : (Text → Type 0) → Word → List Text → Type 0
HasListed form w values = IsSomeAnd w.list (λ text. IsListOf form text values)

-- the word's list has these members, which are in rising order here
abbrev pub HasSorted : (Text → Type 0) → Word → List Text → Type 0
HasSorted form w values = (listed : List Text) × HasListed form w listed × AreSorted listed values

-- an operand that must be present
abbrev pub HasRequired : (Text → Type 0) → Option Word → Text → Type 0
HasRequired form found value = IsSomeAnd found (λ w. HasOne form w value)

-- an operand with one value, which may be absent
abbrev pub HasOptional : (Text → Type 0) → Option Word → Option Text → Type 0
HasOptional form None value = value ≡ None
HasOptional form (Some w) value = IsSomeAnd value (λ text. HasOne form w text)

-- an operand with a list; without the operand the list is empty
abbrev pub HasTexts : (Text → Type 0) → Option Word → List Text → Type 0
HasTexts form None values = values ≡ []
HasTexts form (Some w) values = HasSorted form w values

-- an operand without a list
abbrev pub HasFlag : Option Word → Bool → Type 0
HasFlag None flag = flag ≡ false
HasFlag (Some w) flag = (flag ≡ true) × (w.list ≡ None)

-- the words outside parentheses, whatever else the pieces are
abbrev pub words_in : List Piece → List Text
words_in [] = []
words_in (TheWord text ∷ ps) = text ∷ words_in ps
words_in (_ ∷ ps) = words_in ps

-- the list, if the first piece is one
abbrev pub leading_list : List Piece → Option Text
leading_list (TheList list ∷ ps) = Some list
leading_list _ = None

-- the list that directly follows the first word of that name, if there is one
abbrev pub list_behind : Text → List Piece → Option Text
list_behind name [] = None
list_behind name (TheWord text ∷ ps) = if bytes_eq name text then leading_list ps else list_behind name ps
list_behind name (_ ∷ ps) = list_behind name ps

-- whether the text occurs so often, or more often
abbrev pub is_often : ℕ → List Text → Text → Bool
is_often n texts name = nat_le n (count_by (bytes_eq name) texts)
