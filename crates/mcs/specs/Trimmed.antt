-- A text without the blanks at its front, and without those at its end.
use Rattle.std.specs.Prelude.{◌≡◌, ◌≢◌, [], ◌∷◌, ◌++◌}
use Rattle.terms.specs.Types.{Text}
use Rattle.terms.specs.Forms.{AreBlanks}

pub record SkipsSomeBlanks (text rest : Text) : Type 0 where
  pub left : Text
  pub text_is : text ≡ left ++ rest
  pub blanks : AreBlanks left

pub record DropsBlanks (text rest : Text) : Type 0 where
  pub right : Text
  pub text_is : text ≡ rest ++ right
  pub blanks : AreBlanks right

-- nothing, or a first byte that is not a blank
abbrev pub BeginsNoBlank : Text → Type 0
BeginsNoBlank [] = Unit {0}
BeginsNoBlank (b ∷ bs) = b ≢ 32
