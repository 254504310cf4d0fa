-- The values of the options, as clap's matches have them.
use Rattle.std.specs.Prelude.{◌≡◌, ◌≢◌, ◌↔◌, Bool, true, false, IsTrue, List, [], Option, Some, None}
use Rattle.std.specs.Prelude.{codes, map, option_map}
use Rattle.std.specs.String.{string_bytes}
use Rattle.terms.specs.Types.{Text}
use Rattle.clap.specs.Words.{Row, all_of, first_of}
use Rattle.intake_cards.specs.declared.code.Code.{Code}
use Rattle.intake_cards.specs.declared.code.Code.TheVariants.{Ascii, Ibm1047, Ibm037}
use Rattle.intake_cards.specs.declared.code.Layout.{Layout}
use Rattle.intake_cards.specs.declared.code.Layout.TheVariants as layout
use Rattle.intake_words.specs.declared.options.IntakeOptions.{IntakeOptions}

abbrev pub HasText : Text → List Row → Text → Type 0
HasText id rows text = first_of id rows ≡ Some text

-- the text of an option that may be left out
abbrev pub HasOptional : Text → List Row → Option Text → Type 0
HasOptional id rows text = first_of id rows ≡ text

-- the texts of one that may be repeated or left out, in order
abbrev pub AreTexts : Option (List Text) → List Text → Type 0
AreTexts None texts = texts ≡ []
AreTexts (Some given) texts = texts ≡ given

-- the words have a flag or not
abbrev pub HasFlag : Text → List Row → Bool → Type 0
HasFlag id rows given = IsTrue given ↔ HasText id rows (codes "true")

-- --text or --records, and not both
abbrev pub HasLayout : List Row → Option Layout → Type 0
HasLayout rows None = HasFlag (codes "text") rows false × HasFlag (codes "records") rows false
HasLayout rows (Some layout.Text) = HasFlag (codes "text") rows true × HasFlag (codes "records") rows false
HasLayout rows (Some layout.Records) = HasFlag (codes "text") rows false × HasFlag (codes "records") rows true

abbrev pub code_text : Code → Text
code_text Ascii = codes "ascii"
code_text Ibm1047 = codes "ibm1047"
code_text Ibm037 = codes "ibm037"

-- A run over files has some, and one over a command file has none.
abbrev pub SuitsCommands : Option Text → List Text → Type 0
SuitsCommands None files = files ≢ []
SuitsCommands (Some cntl) files = files ≡ []

-- the options have the values that are asked for; nothing is said of --syslib
pub record HasOptions (rows : List Row) (asked : IntakeOptions) : Type 0 where
  pub out : HasText (codes "out") rows (string_bytes asked.out)
  pub files : AreTexts (all_of (codes "file") rows) (map string_bytes asked.files.items)
  pub cntl : HasOptional (codes "cntl") rows (option_map string_bytes asked.cntl)
  pub suits : SuitsCommands (option_map string_bytes asked.cntl) (map string_bytes asked.files.items)
  pub known : AreTexts (all_of (codes "known") rows) (map string_bytes asked.known.items)
  pub relfile : HasOptional (codes "relfile") rows (option_map string_bytes asked.relfile)
  pub decide : HasFlag (codes "decide") rows asked.decide
  pub json : IsTrue asked.json ↔ HasText (codes "summary") rows (codes "json")
  pub layout : HasLayout rows asked.cards.layout
  pub code : HasOptional (codes "code") rows (option_map code_text asked.cards.code)
