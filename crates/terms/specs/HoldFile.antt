-- The hold file of RECEIVE HOLDDATA: its holds and releases, and its first fault. (IBM z/OS SMP/E Reference, MCS:
-- ++HOLD and ++RELEASE; Commands, RECEIVE: the SMPHOLD data set.)
use Rattle.std.specs.Prelude.{◌≡◌, ◌⊎◌, ℕ, false, List, [], ◌∷◌, Option}
use Rattle.terms.specs.declared.codes.StatementCode.{StatementCode}
use Rattle.terms.specs.declared.codes.StatementCode.TheVariants.{BadStatementForm, UnknownStatementWord}
use Rattle.terms.specs.declared.codes.StatementCode.TheVariants.{BadStatementOperand}
use Rattle.terms.specs.declared.codes.StatementCode.TheVariants.{WrongPlace, OverLimit}
use Rattle.terms.specs.declared.statement_words.StatementWord.{StatementWord}
use Rattle.terms.specs.declared.statement_words.StatementWord.TheVariants as word
use Rattle.terms.specs.Types.{Text, Lines, HoldItem, AHold, ARelease}
use Rattle.terms.specs.Records.{HasRecords}
use Rattle.terms.specs.Groups.{Group, TakesGroup}
use Rattle.terms.specs.Statement.{Piece, StFault, IsStFault}
use Rattle.terms.specs.Words.{Word, HasWords}
use Rattle.terms.specs.HoldStatements.{IsHoldOf, IsReleaseOf, HasShortComment}
use Rattle.terms.specs.Ptfin.{Parts, HasParts, IsUnknown, McsFault, IsFileFault}

-- A hold file contains only ++HOLD and ++RELEASE, and no text follows them.
abbrev pub StandsInHoldFile : StatementWord → Lines → Type 0
StandsInHoldFile word.Hold inline = inline ≡ []
StandsInHoldFile word.Release inline = inline ≡ []
StandsInHoldFile _ inline = ⊥

-- what the statement of this word says; a hold of a hold file is external
abbrev pub SaysItem : StatementWord → Option Text → List Word → HoldItem → Type 0
SaysItem w own operands (AHold h) = (w ≡ word.Hold) × IsHoldOf own operands h × (h.internal ≡ false)
SaysItem w own operands (ARelease r) = (w ≡ word.Release) × IsReleaseOf own operands r

abbrev pub HasItem : StatementWord → Option Text → List Piece → HoldItem → Type 0
HasItem w own rest item = (operands : List Word) × HasWords rest operands × SaysItem w own operands item

-- the limit of a comment
abbrev pub IsWithin : HoldItem → Type 0
IsWithin (AHold h) = HasShortComment h
IsWithin (ARelease r) = Unit {0}

-- The records are this item, and have no fault.
abbrev pub IsGoodItem : Lines → HoldItem → Type 0
IsGoodItem records item = (p : Parts) × HasParts records p
    × StandsInHoldFile p.word p.inline × HasItem p.word p.own p.rest item × IsWithin item

-- What is wrong with a statement. The answer is the first that applies of BadStatementForm, UnknownStatementWord,
-- WrongPlace, BadStatementOperand and OverLimit.
abbrev pub IsItemFault : Lines → StatementCode → Type 0
IsItemFault records BadStatementForm = (why : StFault) × IsStFault records why
IsItemFault records UnknownStatementWord = IsUnknown records
IsItemFault records WrongPlace = (p : Parts) × HasParts records p × (¬ StandsInHoldFile p.word p.inline)
IsItemFault records BadStatementOperand = (p : Parts) × HasParts records p
    × StandsInHoldFile p.word p.inline × ((item : HoldItem) → ¬ HasItem p.word p.own p.rest item)
IsItemFault records OverLimit = (p : Parts) × (item : HoldItem) × HasParts records p
    × StandsInHoldFile p.word p.inline × HasItem p.word p.own p.rest item × (¬ IsWithin item)
IsItemFault records _ = ⊥

-- The records that count from n begin with these items, and the rest follows, which counts from m.
abbrev pub BeginsWithItems : ℕ → Lines → List HoldItem → ℕ → Lines → Type 0
BeginsWithItems n records [] m rest = (n ≡ m) × (records ≡ rest)
BeginsWithItems n records (item ∷ more) m rest =
    (g : Group) × (next : ℕ) × (later : Lines) × TakesGroup n records g next later
    × IsGoodItem g.records item × BeginsWithItems next later more m rest

-- The file consists of these items.
abbrev pub IsHoldFile : List ℕ → List HoldItem → Type 0
IsHoldFile bytes items = (records : Lines) × (m : ℕ) × HasRecords bytes records × BeginsWithItems 1 records items m []

-- The next statement has a fault.
abbrev pub IsNextItemFault : ℕ → Lines → McsFault → Type 0
IsNextItemFault n records fault = (g : Group) × (next : ℕ) × (later : Lines) × TakesGroup n records g next later
    × (fault.number ≡ g.number) × IsItemFault g.records fault.code

-- The first fault of the file: of its records, or of the first statement that is not good.
abbrev pub IsHoldFileFault : List ℕ → McsFault → Type 0
IsHoldFileFault bytes fault = IsFileFault bytes fault
    ⊎ ((records : Lines) × (items : List HoldItem) × (m : ℕ) × (rest : Lines)
    × HasRecords bytes records × BeginsWithItems 1 records items m rest × IsNextItemFault m rest fault)
