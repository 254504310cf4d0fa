-- The text of an element, by the cards that the file has of it, and its libraries.
use Rattle.std.specs.Prelude.{◌≡◌, ◌⊎◌, ◌==◌, Bool, true, ℕ, List, ◌++◌, Some, None, All, take, drop}
use Rattle.std.specs.List.{list_all}
use Rattle.terms.specs.Types.{Text, Action, Replaces, Updates}
use Rattle.terms.specs.Beside.{Beside}
use Rattle.intake_cards.specs.declared.card.Card.{Card}
use Rattle.intake_read.specs.Stated.{text_in}
use Rattle.intake_read.specs.declared.items.WideElement.{WideElement}

abbrev pub are_blanks : Text → Bool
are_blanks bytes = list_all (λ b. b == 32) bytes

abbrev pub is_unnumbered : Card → Bool
is_unnumbered card = are_blanks (drop 72 card.text)

abbrev pub is_blank : Card → Bool
is_blank card = are_blanks card.text

-- Columns 1 to 72 are those of the card, and so is the number, if the card has one.
abbrev pub IsRecordOf : Card → Text → Type 0
IsRecordOf card line = (take 72 line ≡ take 72 card.text) × ((is_unnumbered card ≡ true) ⊎ (line ≡ card.text))

-- the cards but for blank ones at their end
abbrev pub HasBlankEnd : List Card → List Card → Type 0
HasBlankEnd cards front = (rest : List Card) × (cards ≡ front ++ rest) × All (λ c. is_blank c ≡ true) rest

-- one record for each card, but for blank ones at the end
abbrev pub AreRecordsOf : List Card → List Text → Type 0
AreRecordsOf cards lines = (front : List Card) × HasBlankEnd cards front × Beside (λ _. IsRecordOf) front lines

-- DISTLIB and SYSLIB as they are stated. Where no SYSLIB is, the caller gives one.
pub record AreLibraries (stated : WideElement) (distlib syslib : Text) : Type 0 where
  pub distlib_is : text_in stated.distlib ≡ Some distlib
  pub syslib_is : (library : Text) → text_in stated.syslib ≡ Some library → syslib ≡ library

-- A replacement has the libraries that are stated, and the text after its statement, unless that is in a RELFILE.
abbrev pub IsStatedText : WideElement → Action → Type 0
IsStatedText stated (Replaces distlib syslib lines) =
    AreLibraries stated distlib syslib × (text_in stated.relfile ≡ None → AreRecordsOf stated.inline.items lines)
IsStatedText stated (Updates lines) = Unit {0}
