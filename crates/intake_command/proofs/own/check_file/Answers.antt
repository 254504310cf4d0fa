use Rattle.std.proofs.Common.{◌∙◌, [], ◌∷◌, sym, subst, ap, false, Bool, if◌then◌else◌}
use Rattle.std.proofs.lemmas.Result.{on_ok_weaker}
use Rattle.intake_command.specs.Acts.{HostAct, Finds}
use Rattle.intake_command.specs.Files.{path_of}
use Rattle.intake_command.proofs.Doing.{did, idle, on_err, quiet_idle}
use Rattle.intake_command.proofs.own.check_file.Goals as goal

pub returns-then-is_written-clause-ok : goal.returns-then-is_written-clause-ok
returns-then-is_written-clause-ok g c =
    let act : HostAct = Finds (path_of c.args.folder.now c.args.name.now) false in
    idle g.H.IntakeHost _ (sym (ap (λ (b : Bool). if b then [] else act ∷ [])
    (sym c.is_written.ensures ∙ c.if-is_written.true)))

pub returns-in_err-path-clause-err : goal.returns-in_err-path-clause-err
returns-in_err-path-clause-err g c = on_err _ (quiet_idle g.H.IntakeHost _)

pub returns-clause-ok : goal.returns-clause-ok
returns-clause-ok g c =
    let act : HostAct = Finds (path_of c.args.folder.now c.args.name.now) false in
    on_ok_weaker c.check_absent.result (λ done. did g.H.IntakeHost _ act _
    (subst (λ p. g.H.IntakeHost.does c.args.host.now (Finds p false) c.check_absent.new.host)
    (c.as_str.ensures.value ∙ c.in_ok-path.ensures) done)
    (sym (ap (λ (b : Bool). if b then [] else act ∷ [])
    (sym c.is_written.ensures ∙ c.if-is_written.false)))) c.check_absent.ensures.ok
