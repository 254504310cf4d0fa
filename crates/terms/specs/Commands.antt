-- The commands of a command file, and its first fault.
use Rattle.std.specs.Prelude.{◌≡◌, ◌==◌, ◌||◌, ℕ, Bool, true, false, List, [], ◌∷◌, ◌++◌, Option, Some, None, not}
use Rattle.std.specs.Prelude.{◌⊎◌, if◌then◌else◌, codes}
use Rattle.std.specs.List.{list_any}
use Rattle.terms.specs.declared.codes.CommandWord.{CommandWord}
use Rattle.terms.specs.declared.codes.CommandWord.TheVariants as word
use Rattle.terms.specs.declared.codes.CommandCode.{CommandCode}
use Rattle.terms.specs.declared.codes.CommandCode.TheVariants.{UnknownCommand, BadCommandOperand, OperandTwice}
use Rattle.terms.specs.declared.codes.CommandCode.TheVariants.{NoSingleList}
use Rattle.terms.specs.declared.codes.CommandCode.TheVariants.{BadCommandForm}
use Rattle.terms.specs.Bytes.{paren_open, paren_close}
use Rattle.terms.specs.Types.{Text, Command}
use Rattle.terms.specs.Spelling.{word_text}
use Rattle.terms.specs.Forms.{is_word_byte}
use Rattle.terms.specs.Records.{HasRecords, IsRecFault, RecFault, rec_fault_record}
use Rattle.terms.specs.Statement.{Piece, TheWord, joined, IsIdle, StFault}
use Rattle.terms.specs.Operands.{words_in, list_behind, is_often}
use Rattle.terms.specs.CommandCuts.{TakesCommand, IsCutFault}
use Rattle.terms.specs.CommandForms.{operands_of, members_of, IsCommand}

-- a fault of the command file, with the number of the record where the command begins
pub record CntlFault : Type 0 where
  pub number : ℕ
  pub code : CommandCode

-- The records, which count from n, begin with these commands, and the rest follows, which counts from m.
abbrev pub BeginsWithCommands : ℕ → List (List ℕ) → List Command → ℕ → List (List ℕ) → Type 0
BeginsWithCommands n records [] m rest = (n ≡ m) × (records ≡ rest)
BeginsWithCommands n records (c ∷ cs) m rest =
    (pieces : List Piece) × (number next : ℕ) × (after : List (List ℕ))
    × TakesCommand n records pieces number next after × IsCommand pieces c × BeginsWithCommands next after cs m rest

-- The file consists of these commands. Only blanks and comments follow the last one.
abbrev pub IsCommandFile : List ℕ → List Command → Type 0
IsCommandFile bytes cs = (records rest : List (List ℕ)) × (m : ℕ)
    × HasRecords bytes records × BeginsWithCommands 1 records cs m rest × IsIdle (joined rest)

-- The runs of word characters outside inner lists, empty ones included. The first one continues `run`.
abbrev pub runs_from : Bool → Text → Text → List Text
runs_from inner run [] = run ∷ []
runs_from true run (b ∷ bs) = runs_from (not (b == paren_close)) run bs
runs_from false run (b ∷ bs) =
    if is_word_byte b then runs_from false (run ++ b ∷ []) bs else run ∷ runs_from (b == paren_open) [] bs

-- the members in a list of BYPASS, whatever separates them
abbrev pub runs_in : Option Text → List Text
runs_in None = []
runs_in (Some list) = runs_from false [] list

-- whether a known operand of the command occurs twice, or a member that its BYPASS may have
abbrev pub has_double : CommandWord → List Piece → Bool
has_double w pieces = list_any (is_often 2 (words_in pieces)) (operands_of w)
    || list_any (is_often 2 (runs_in (list_behind (codes "BYPASS") pieces))) (members_of w)

-- RESTORE has both SELECT and GROUP, or neither of them.
abbrev pub is_unchosen : CommandWord → List Piece → Bool
is_unchosen word.Restore pieces =
    if is_often 1 (words_in pieces) (codes "SELECT") then is_often 1 (words_in pieces) (codes "GROUP")
    else not (is_often 1 (words_in pieces) (codes "GROUP"))
is_unchosen _ pieces = false

-- the pieces begin with that command's word
abbrev pub BeginsWith : List Piece → CommandWord → List Piece → Type 0
BeginsWith pieces w rest = pieces ≡ TheWord (word_text w) ∷ rest

-- What is wrong with a command that has its period. The answer is the first that applies of UnknownCommand,
-- OperandTwice, NoSingleList and BadCommandOperand.
abbrev pub IsCommandFault : List Piece → CommandCode → Type 0
IsCommandFault pieces UnknownCommand = (w : CommandWord) (rest : List Piece) → BeginsWith pieces w rest → ⊥
IsCommandFault pieces OperandTwice = (w : CommandWord) × (rest : List Piece) × BeginsWith pieces w rest
    × (has_double w rest ≡ true)
IsCommandFault pieces NoSingleList = (w : CommandWord) × (rest : List Piece) × BeginsWith pieces w rest
    × (has_double w rest ≡ false)
    × (is_unchosen w rest ≡ true)
IsCommandFault pieces BadCommandOperand = (w : CommandWord) × (rest : List Piece) × BeginsWith pieces w rest
    × (has_double w rest ≡ false)
    × (is_unchosen w rest ≡ false) × ((c : Command) → IsCommand pieces c → ⊥)
IsCommandFault pieces BadCommandForm = ⊥

-- The first command of the records, which count from n, is at fault.
abbrev pub IsNextFault : ℕ → List (List ℕ) → CntlFault → Type 0
IsNextFault n records fault =
    ((fault.code ≡ BadCommandForm) × (why : StFault) × IsCutFault n records fault.number why)
    ⊎ ((pieces : List Piece) × (m : ℕ) × (rest : List (List ℕ)) × TakesCommand n records pieces fault.number m rest
    × IsCommandFault pieces fault.code)

-- The first fault of a command file: of its records, or of the first command that is not good.
abbrev pub IsCommandFileFault : List ℕ → CntlFault → Type 0
IsCommandFileFault bytes fault =
    ((fault.code ≡ BadCommandForm) × (r : RecFault) × IsRecFault bytes r × (fault.number ≡ rec_fault_record r))
    ⊎ ((records rest : List (List ℕ)) × (cs : List Command) × (m : ℕ)
    × HasRecords bytes records × BeginsWithCommands 1 records cs m rest × IsNextFault m rest fault)
