use Rattle.std.specs.Prelude.{◌≡◌, ◌<◌, ◌⊎◌, ℕ, List}
use Rattle.terms.specs.declared.text_faults.TextCode.{TextCode}
use Rattle.terms.specs.declared.text_faults.TextCode.TheVariants.{NoNumber}
use Rattle.terms.specs.Texts.{IsNumberedLine, number_of}

-- NoNumber if the record has no number, or the given code if its number is below the least that is allowed
abbrev pub IsNumberFault : List ℕ → ℕ → TextCode → TextCode → Type 0
IsNumberFault line least disorder code =
    ((code ≡ NoNumber) × ¬ IsNumberedLine line) ⊎ ((code ≡ disorder) × IsNumberedLine line × (number_of line < least))
