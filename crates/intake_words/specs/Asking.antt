-- What the words of the command line ask for.
use Rattle.std.specs.Prelude.{◌≡◌, ◌≢◌, ◌⊎◌, List, []}
use Rattle.terms.specs.Types.{Text}
use Rattle.clap.specs.Words.{App, IsAmong, fault_of, kind_of, matches_of}
use Rattle.clap.specs.declared.error.Error.{Error}
use Rattle.clap.specs.declared.error.kind.ErrorKind.{ErrorKind}
use Rattle.clap.specs.declared.error.kind.ErrorKind.TheVariants.{DisplayHelp, DisplayVersion, OutOfMemory}
use Rattle.intake_words.specs.CommandLine.{IsCommandLine}
use Rattle.intake_words.specs.Values.{HasOptions}
use Rattle.intake_words.specs.declared.options.IntakeOptions.{IntakeOptions}
use Rattle.intake_words.specs.declared.options.WordsFault.{WordsFault}
use Rattle.intake_words.specs.declared.options.WordsFault.TheVariants.{Memory, Clap, BadOperand}

-- `clap` takes the words, and these are the values that it finds.
abbrev pub IsAsked : List Text → IntakeOptions → Type 0
IsAsked words asked =
    (app : App) × IsCommandLine app × (fault_of app words ≡ []) × HasOptions (matches_of app words) asked

-- `clap` may answer the words with an error of this kind.
abbrev pub Answers : List Text → ErrorKind → Type 0
Answers words kind = (app : App) × IsCommandLine app × IsAmong kind (fault_of app words)

-- help, or the version
abbrev pub IsShownText : Error → Type 0
IsShownText error = (kind_of error ≡ DisplayHelp) ⊎ (kind_of error ≡ DisplayVersion)

-- The words ask for help, or for the version.
abbrev pub AsksForText : List Text → Type 0
AsksForText words = Answers words DisplayHelp ⊎ Answers words DisplayVersion

-- an error of `clap`
abbrev pub IsOfClap : Error → WordsFault → Type 0
IsOfClap error Memory = kind_of error ≡ OutOfMemory
IsOfClap error (Clap own) = (own ≡ error) × (kind_of error ≢ OutOfMemory)
IsOfClap error (BadOperand why) = ⊥

-- If it is clap's, clap names that fault of the words.
abbrev pub IsRefused : List Text → WordsFault → Type 0
IsRefused words (Clap error) = Answers words (kind_of error)
IsRefused words _ = Unit {0}

-- It is none of clap's.
abbrev pub IsOwn : WordsFault → Type 0
IsOwn (Clap error) = ⊥
IsOwn _ = Unit {0}
