use Rattle.std.proofs.lemmas.Result.{IfOk-weaker}
use Rattle.why_facts.specs.Asking.{setting_in}
use Rattle.why_facts.proofs.Together.{are_asked}
use Rattle.why_facts.proofs.facts.requisite_and_hold_facts.Goals as goal

pub returns : goal.returns
returns c =
    IfOk-weaker c.join_facts.result _ _
    (λ all is. are_asked (setting_in c.args.asking.now) c.args.asking.now.id all.items c.in_ok-facts.facts.items
    c.in_ok-holds.holds.items is c.in_ok-facts.ensures c.in_ok-holds.ensures) c.join_facts.ensures
