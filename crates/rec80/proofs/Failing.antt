-- Why no value is read.
use Rattle.rec80.specs.declared.operand_errors.OperandError.{OperandError}
use Rattle.rec80.specs.declared.operand_errors.OperandError.TheVariants.{Memory, Bad}
use Rattle.rec80.specs.Failing.{Excludes}

pub excludes_more : (e : OperandError) (P Q : Type 0) → (Q → P) → Excludes e P → Excludes e Q
excludes_more Memory P Q f x = tt
excludes_more Bad P Q f x = λ q. x (f q)
