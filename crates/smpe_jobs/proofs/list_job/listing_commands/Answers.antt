use Rattle.std.proofs.Common.{◌∷◌, [], subst, sym, false}
use Rattle.std.proofs.lemmas.Result.{IfOk-weaker}
use Rattle.terms.specs.Types.{Set, ListZone}
use Rattle.terms.specs.Commands.{IsCommandFile}
use Rattle.smpe_jobs.proofs.ListFile.{lists_zone}
use Rattle.smpe_jobs.proofs.list_job.listing_commands.Goals as goal

pub returns-clause-commands : goal.returns-clause-commands
returns-clause-commands c =
    let zone = c.args.zone in
    IfOk-weaker c.commands_in_zone.result _ _
    (λ file is. subst (λ bytes. IsCommandFile bytes (Set zone ∷ ListZone false ∷ [])) (sym is)
    (lists_zone zone c.attest.ensures)) c.commands_in_zone.ensures
