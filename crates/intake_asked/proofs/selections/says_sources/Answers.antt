use Rattle.std.proofs.Common.{◌≢◌, ◌∙◌, [], ap, subst}
use Rattle.std.specs.List.{All, flat_map}
use Rattle.std.proofs.lemmas.Result.{IfOk-weaker}
use Rattle.std.proofs.lemmas.List.{map-id}
use Rattle.intake_asked.specs.Words.{sources_of}
use Rattle.intake_asked.proofs.Alike.{lent, turned}
use Rattle.intake_asked.proofs.selections.says_sources.Goals as goal

pub returns-clause-same : goal.returns-clause-same
returns-clause-same c =
    IfOk-weaker c.are_wanted_texts.result _ _ (λ says said t. let found = rw c.in-Some.is at c.in_ok-wanted.ensures in
    let members = lent c.deref.ensures.value c.in_ok-members.ensures in
    turned (map-id _) (lent c.deref-2.ensures.value (found.0 ∙ ap (flat_map (sources_of c.args.known.now)) members))
    (said t)) c.are_wanted_texts.ensures

pub returns-clause-known : goal.returns-clause-known
returns-clause-known c =
    IfOk-weaker c.are_wanted_texts.result _ _ (λ says said t.
    subst (All (λ m. sources_of c.args.known.now m ≢ [])) (lent c.deref.ensures.value c.in_ok-members.ensures)
    (rw c.in-Some.is at c.in_ok-wanted.ensures).1) c.are_wanted_texts.ensures
