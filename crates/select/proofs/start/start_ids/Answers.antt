use Rattle.std.proofs.Common.{ap, ◌∙◌, filter}
use Rattle.std.proofs.lemmas.Result.{IfOk-weaker}
use Rattle.select.specs.Scopes.{is_start_in}
use Rattle.select.proofs.Starts.{start_members}
use Rattle.select.proofs.start.start_ids.Goals as goal

pub returns : goal.returns
returns c =
    IfOk-weaker c.start_ids_among.result _ _
    (λ start same. start_members c.args.scope.now c.in_ok-ids.ids.items start.items c.in_ok-ids.ensures
    (same ∙ ap (filter (is_start_in c.args.scope.now)) c.as_slice.ensures.value))
    c.start_ids_among.ensures
