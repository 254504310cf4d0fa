use Rattle.std.proofs.Common.{◌≡◌, List, Result, Ok, Err, subst, sym}
use Rattle.std.specs.Prelude.{IfOk}
use Rattle.intake_words.specs.declared.fault.IntakeFault.{IntakeFault}
use Rattle.intake_read.specs.declared.items.WideFile.{WideFile}
use Rattle.intake_sysmod.specs.Users.{run_of}
use Rattle.intake_carry.specs.Unsure.{AreUnsure}
use Rattle.intake_service.specs.declared.carried.Carried.{Carried}
use Rattle.intake_service.proofs.given.carry.Goals as goal

of_its_files : (r : Result Carried IntakeFault) (stated : List WideFile)
    → IfOk r (λ made. made.files.items ≡ stated)
    → IfOk r (λ made. AreUnsure (run_of stated) made.narrowed.items.items made.narrowed.unsure.items)
    → IfOk r (λ made. AreUnsure (run_of made.files.items) made.narrowed.items.items made.narrowed.unsure.items)
of_its_files (Ok made) stated e unsure =
    subst (λ files. AreUnsure (run_of files) made.narrowed.items.items made.narrowed.unsure.items) (sym e) unsure
of_its_files (Err fault) stated e unsure = tt

pub returns-clause-unsure : goal.returns-clause-unsure
returns-clause-unsure c =
    of_its_files c.carry.result c.in_ok-stated.stated c.carry.ensures.files c.carry.ensures.unsure
