-- What the errors of this crate mean.
use Rattle.rec80.specs.declared.operand_errors.OperandError.{OperandError}
use Rattle.rec80.specs.declared.operand_errors.OperandError.TheVariants.{Memory, Bad}

-- A bad operand has no value of the form that is asked for.
abbrev pub Excludes : OperandError → Type 0 → Type 0
Excludes Memory P = Unit {0}
Excludes Bad P = P → ⊥
