-- What the words of the command line ask for.
use Rattle.std.specs.Prelude.{◌⊎◌, ℕ, List, map, All}
use Rattle.std.specs.Str.{IsUtf8}
use Rattle.std.specs.Str.Lossy.{utf8_lossy}
use Rattle.terms.specs.Types.{Text}
use Rattle.smpe_invocation.specs.Answers.{IsRead, IsRefused}
use Rattle.smpe_invocation.specs.declared.asked.Invocation.{Invocation}
use Rattle.smpe_invocation.specs.declared.fault.ArgFault.{ArgFault}
use Rattle.smpe_invocation.specs.declared.fault.ArgFault.TheVariants.{BadOperand}

-- all words are UTF-8
abbrev pub AreText : List (List ℕ) → Type 0
AreText words = All IsUtf8 words

-- the words as they are shown: U+FFFD stands for what is not UTF-8
abbrev pub shown : List (List ℕ) → List Text
shown words = map utf8_lossy words

-- The words are text, and ask for this.
abbrev pub IsAsked : List (List ℕ) → Invocation → Type 0
IsAsked words asked = AreText words × IsRead words asked

-- The words ask for nothing, for this reason. A word that is not UTF-8 is a bad operand if `clap` takes the words as
-- they are shown and they would ask for something.
abbrev pub IsUnasked : List (List ℕ) → ArgFault → Type 0
IsUnasked words BadOperand = IsRefused (shown words) BadOperand
    ⊎ (¬ AreText words × ((asked : Invocation) × IsRead (shown words) asked))
IsUnasked words fault = IsRefused (shown words) fault
