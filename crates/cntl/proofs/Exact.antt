-- A file that is commands has no fault.
use Rattle.std.proofs.Common.{◌≡◌, ℕ, List, refl}
use Rattle.std.specs.Prelude.{Result, Ok, Err, IfErr}
use Rattle.terms.specs.Types as terms
use Rattle.terms.specs.Commands.{IsCommandFile}
use Rattle.terms.proofs.ExactCommandFiles.{fault_no_file}
use Rattle.cntl.specs.declared.error.CntlError.{CntlError}
use Rattle.cntl.specs.declared.error.CntlError.TheVariants.{Memory, Fault}
use Rattle.cntl.specs.Faults.{FailsFile}

pub good_file : {T : Type 0} (bytes : List ℕ) (r : Result T CntlError) → IfErr r (λ e. FailsFile bytes e)
    → (cs : List terms.Command) → IsCommandFile bytes cs → IfErr r (λ e. e ≡ Memory)
good_file bytes (Ok x) fails cs is = tt
good_file bytes (Err Memory) fails cs is = refl
good_file bytes (Err (Fault number code)) fails cs is = absurd
    (fault_no_file bytes cs (record { number = number; code = code }) is fails)
