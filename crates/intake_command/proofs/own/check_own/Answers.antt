use Rattle.std.proofs.Common.{◌≡◌, ◌∙◌, ◌∷◌, [], ◌++◌, Option, ap, ap₂, subst, option_map, map, refl}
use Rattle.terms.specs.Types.{Text}
use Rattle.intake_command.specs.Acts.{Begins}
use Rattle.intake_command.specs.Files.{outputs_of, path_of, remarks_of}
use Rattle.intake_command.specs.Serving.{folder_of, looks}
use Rattle.intake_command.proofs.Doing.{both, did, on_err, quiet, quiet_did, quiet_idle}
use Rattle.intake_command.proofs.own.check_own.Goals as goal

pub returns-in_err-remarks-clause-err : goal.returns-in_err-remarks-clause-err
returns-in_err-remarks-clause-err g c = on_err _ (quiet_idle g.H.IntakeHost _)

pub returns-in_err-check_files-clause-err : goal.returns-in_err-check_files-clause-err
returns-in_err-check_files-clause-err g c =
    on_err _ (quiet g.H.IntakeHost (quiet_did g.H.IntakeHost _ _ _ c.in_ok-start.ensures.ok tt)
    c.in_err-check_files.ensures.err)

pub returns-clause-ok : goal.returns-clause-ok
returns-clause-ok g c =
    let h = g.H.IntakeHost in
    let start : Option Text = option_map (λ bytes. bytes.items) c.in_ok-start.start in
    let folder = folder_of c.args.asked.now in
    let path : c.as_str.result.now ≡ path_of folder (remarks_of c.args.asked.now) =
    c.as_str.ensures.value ∙ c.in_ok-remarks.ensures
    ∙ ap₂ path_of c.as_str-folder.ensures.value c.remarks_of.ensures in
    let begun = subst (λ p. h.does c.args.host.now (Begins p start) c.read_start.new.host) path
    c.in_ok-start.ensures.ok in
    both h
    (did h {Are = λ acts. acts ≡ Begins (path_of folder (remarks_of c.args.asked.now)) start ∷ []} _ _ _ begun refl)
    c.in_ok-check_files.ensures.ok
    (λ ones others e f. (
      start,
      ap₂ (λ u v. u ++ v) e f
          ∙ ap (λ l. Begins (path_of folder (remarks_of c.args.asked.now)) start ∷ l)
          (ap (λ (t : Text). looks t (map (λ n. n.now) c.written_in-written.result.now)
          (map (λ n. n.now) c.outputs_of.result.now)) c.as_str-folder.ensures.value
          ∙ ap₂ (looks folder) c.written_in-written.ensures c.outputs_of.ensures),
    ))
