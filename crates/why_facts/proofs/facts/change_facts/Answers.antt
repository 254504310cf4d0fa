use Rattle.std.proofs.Common.{◌∙◌, ◌++◌, ap}
use Rattle.std.proofs.lemmas.Result.{IfOk-weaker}
use Rattle.why_facts.specs.Asking.{setting_in}
use Rattle.why_facts.proofs.Together.{are_of_changes}
use Rattle.why_facts.proofs.facts.change_facts.Goals as goal

pub returns : goal.returns
returns c =
    let forbids = c.in_ok-forbids.forbids.items in
    IfOk-weaker c.join_facts-2.result _ _
    (λ all is. are_of_changes (setting_in c.args.asking.now) c.args.asking.now.id all.items
    c.in_ok-elements.elements.items c.in_ok-deletes.deletes.items forbids
    (is ∙ ap (λ l. l ++ forbids) c.in_ok-facts.ensures) c.in_ok-elements.ensures c.in_ok-deletes.ensures
    c.in_ok-forbids.ensures) c.join_facts-2.ensures
