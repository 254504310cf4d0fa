-- What the errors of this crate mean.
use Rattle.std.specs.Prelude.{ℕ, List}
use Rattle.terms.specs.Statement.{Piece}
use Rattle.terms.specs.Commands.{IsCommandFault, IsNextFault, IsCommandFileFault}
use Rattle.cntl.specs.declared.error.CommandReadError.{CommandReadError}
use Rattle.cntl.specs.declared.error.CommandReadError.TheVariants.{Memory, Fault}
use Rattle.cntl.specs.declared.error.CntlError.{CntlError}
use Rattle.cntl.specs.declared.error.CntlError.TheVariants as file

-- the fault of a command of these pieces
abbrev pub FailsCommand : List Piece → CommandReadError → Type 0
FailsCommand pieces Memory = Unit {0}
FailsCommand pieces (Fault code) = IsCommandFault pieces code

-- the fault of the first command of these records, which count from n
abbrev pub FailsNext : ℕ → List (List ℕ) → CntlError → Type 0
FailsNext n records file.Memory = Unit {0}
FailsNext n records (file.Fault number code) = IsNextFault n records (record { number = number; code = code })

-- the first fault of a file
abbrev pub FailsFile : List ℕ → CntlError → Type 0
FailsFile bytes file.Memory = Unit {0}
FailsFile bytes (file.Fault number code) = IsCommandFileFault bytes (record { number = number; code = code })
