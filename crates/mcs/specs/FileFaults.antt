-- What is wrong with a file of statements.
use Rattle.std.specs.Prelude.{ℕ, List}
use Rattle.terms.specs.Ptfin.{IsFileFault}
use Rattle.mcs.specs.declared.fault.StatementError.{StatementError}
use Rattle.mcs.specs.declared.fault.StatementError.TheVariants as statement
use Rattle.mcs.specs.declared.error.McsError.{McsError}
use Rattle.mcs.specs.declared.error.McsError.TheVariants.{Memory, Fault}

-- the error of a statement that begins at the record
abbrev pub error_at : ℕ → StatementError → McsError
error_at n statement.Memory = Memory
error_at n (statement.Fault code) = Fault n code

-- a fault that precedes those of all statements
abbrev pub IsFileError : List ℕ → McsError → Type 0
IsFileError bytes Memory = ⊥
IsFileError bytes (Fault n code) = IsFileFault bytes (record { number = n; code = code })
