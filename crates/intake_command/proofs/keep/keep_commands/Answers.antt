use Rattle.std.proofs.Common.{[], map, inr, refl}
use Rattle.std.proofs.lemmas.Result.{on_ok_weaker, on_err_weaker}
use Rattle.intake_command.specs.Files.{named}
use Rattle.intake_command.proofs.keep.keep_commands.Goals as goal

pub returns-clause-ok : goal.returns-clause-ok
returns-clause-ok g c = λ commands is.
    on_ok_weaker c.put_files.result (λ put. (
      map named c.command_files-files.result,
      [],
      (c.args.cntl.items, c.args.remarks.items, is, c.command_files-files.ensures, refl),
      put,
    )) c.put_files.ensures.ok

pub returns-clause-err : goal.returns-clause-err
returns-clause-err g c = on_err_weaker c.put_files.result (λ left. inr left) c.put_files.ensures.err
