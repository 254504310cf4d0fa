use Rattle.std.proofs.Common.{◌∙◌, ap, subst}
use Rattle.std.proofs.lemmas.Result.{IfOk-weaker}
use Rattle.std.specs.Prelude.{◌↔◌, Contains}
use Rattle.terms.specs.Types.{Id, RestoreGroup}
use Rattle.terms.specs.Choice.{counting}
use Rattle.terms.specs.Restore.{IsListed}
use Rattle.undo.specs.Scopes.{restoring, restoring_from}
use Rattle.undo.specs.Steps.{as_steps}
use Rattle.undo.specs.ByNumbers.{AreReached}
use Rattle.undo.proofs.ListedBySteps.{listed_from}
use Rattle.undo.proofs.Settings.{restoring_is}
use Rattle.undo.proofs.listing.group_list.Goals as goal

pub returns : goal.returns
returns c =
    let g = c.args.global.now in
    let zone = c.args.zone.now in
    let accepted = c.args.accepted.now in
    let ids = c.args.ids.now in
    let vers = c.in_ok-vers.vers in
    let steps = ap as_steps c.as_slice-2.ensures.value ∙ c.in_ok-steps.ensures in
    IfOk-weaker c.reached_ids.result (AreReached ids (as_steps c.as_slice-2.result.now))
    (λ found. (x : Id) → Contains found x ↔ IsListed (restoring_from g zone accepted) (RestoreGroup ids) x)
    (λ found h. subst (λ r. (x : Id) → Contains found x ↔ IsListed r (RestoreGroup ids) x)
    (restoring_is vers g zone accepted c.in_ok-vers.ensures.global
    (c.in_ok-vers.ensures.counting ∙ ap (counting g zone) c.new-none.ensures))
    (listed_from (restoring vers zone accepted) c.in_ok-applied.ensures.form ids found
    (subst (λ l. AreReached ids l found) steps h))) c.reached_ids.ensures
