use Rattle.std.proofs.Common.{◌≡◌, ◌∙◌, ◌++◌, codes, append_assoc, ap}
use Rattle.std.proofs.lemmas.Result.{IfOk-weaker}
use Rattle.terms.specs.Types.{Text}
use Rattle.smpe_jobs.specs.ListJob.{two_records}
use Rattle.smpe_jobs.proofs.list_job.commands_in_zone.Goals as goal

pub returns : goal.returns
returns c =
    let zone = c.args.zone in
    let set : c.extend_from_slice-3.new.self.items ≡ codes "SET BDY(" ++ zone ++ codes ")." =
    c.in_ok-extend_from_slice-3.ensures.items ∙ ap (λ t. t ++ codes ").") (c.in_ok-extend_from_slice-2.ensures.items
    ∙ ap (λ t. t ++ c.as_bytes.result.now) (c.in_ok-extend_from_slice.ensures.items
    ∙ ap (λ t. t ++ codes "SET BDY(") c.new-set.ensures.items)
    ∙ ap (λ z. codes "SET BDY(" ++ z) c.as_bytes.ensures.same) ∙ append_assoc (codes "SET BDY(") zone (codes ").") in
    IfOk-weaker c.two_commands.result _ _
    (λ file is. is ∙ ap (λ (t : Text). two_records t c.args.command.now) (c.as_slice.ensures.value ∙ set))
    c.two_commands.ensures
