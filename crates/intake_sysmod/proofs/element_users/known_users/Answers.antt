use Rattle.std.proofs.lemmas.Result.{IfOk-weaker}
use Rattle.intake_sysmod.specs.Users.{run_of}
use Rattle.intake_sysmod.proofs.Using.{knows_none, knows_all}
use Rattle.intake_sysmod.proofs.element_users.known_users.Goals as goal

pub returns : goal.returns
returns c =
    IfOk-weaker c.users_of_files.result _ _ (λ users known. knows_all users (run_of c.args.files.now) known)
    c.users_of_files.ensures
