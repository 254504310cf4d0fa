use Rattle.std.proofs.Common.{arith, take, subst}
use Rattle.std.specs.Prelude.{All}
use Rattle.std.proofs.lemmas.List.{take_all}
use Rattle.intake_sysmod.specs.Users.{IsKnown, run_of}
use Rattle.intake_sysmod.proofs.Using.{next_file}
use Rattle.intake_sysmod.proofs.element_users.users_of_files.Goals as goal

pub loop-file-preserved : goal.loop-file-preserved
loop-file-preserved c =
    next_file c.loop-file.users c.add_users_of_file.new.users c.args.files.now c.loop-file.file-index c.file-item.result
    (omega arith) c.file-item.is c.in_ok-add_users_of_file.ensures.grows
    c.loop-file.invariant c.in_ok-add_users_of_file.ensures.has

pub returns : goal.returns
returns c =
    subst (λ fs. All (IsKnown c.loop-file.users) (run_of fs))
    (take_all c.loop-file.file-index c.args.files.now (omega arith)) c.loop-file.invariant
