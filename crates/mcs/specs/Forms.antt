-- The faults of a statement's form and of its word, which come before all others.
use Rattle.terms.specs.declared.codes.StatementCode.{StatementCode}
use Rattle.terms.specs.declared.codes.StatementCode.TheVariants.{BadStatementForm, UnknownStatementWord}
use Rattle.terms.specs.Types.{Lines}
use Rattle.terms.specs.Statement.{StFault, IsStFault}
use Rattle.terms.specs.Ptfin.{IsUnknown}
use Rattle.mcs.specs.declared.fault.StatementError.{StatementError}
use Rattle.mcs.specs.declared.fault.StatementError.TheVariants.{Memory, Fault}

abbrev pub IsFormFault : Lines → StatementCode → Type 0
IsFormFault records BadStatementForm = (why : StFault) × IsStFault records why
IsFormFault records UnknownStatementWord = IsUnknown records
IsFormFault records _ = ⊥

-- one of these, or that memory ran out
abbrev pub IsFormError : Lines → StatementError → Type 0
IsFormError records Memory = Unit {0}
IsFormError records (Fault code) = IsFormFault records code
