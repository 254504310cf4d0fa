-- What the errors of one statement mean.
use Rattle.terms.specs.declared.codes.StatementCode.TheVariants.{BadStatementOperand}
use Rattle.rec80.specs.declared.operand_errors.OperandError.{OperandError}
use Rattle.rec80.specs.declared.operand_errors.OperandError.TheVariants as operand
use Rattle.mcs.specs.declared.fault.StatementError.{StatementError}
use Rattle.mcs.specs.declared.fault.StatementError.TheVariants.{Memory, Fault}

-- a statement with a bad operand has no value
abbrev pub value_error : OperandError → StatementError
value_error operand.Memory = Memory
value_error operand.Bad = Fault BadStatementOperand
