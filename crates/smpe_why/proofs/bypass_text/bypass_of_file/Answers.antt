use Rattle.std.proofs.Common.{[], ◌∷◌, map}
use Rattle.terms.specs.Types.{Accept}
use Rattle.terms.proofs.ExactCommandFiles.{file_only}
use Rattle.cntl.specs.Views.{command_of}
use Rattle.smpe_why.proofs.Alone.{none_then}
use Rattle.smpe_why.proofs.bypass_text.bypass_of_file.Goals as goal

pub returns-in-Ok-clause-none : goal.returns-in-Ok-clause-none
returns-in-Ok-clause-none c =
    none_then c.bypass_of_commands.result c.bypass_of_commands.ensures.none (λ none i file.
    none i (file_only c.args.file.now (map command_of c.in-Ok.commands.items) (Accept i ∷ [])
    c.in-Ok.ensures.commands file))

pub returns-in-Err-Fault-clause-none : goal.returns-in-Err-Fault-clause-none
returns-in-Err-Fault-clause-none c = λ i file.
    absurd (let same = rw c.in-Err-Fault.field-0-is at (c.in-Err-Fault.ensures.good (Accept i ∷ []) file) in cc same)
