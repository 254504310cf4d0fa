use Rattle.std.proofs.Common.{◌∙◌, sym}
use Rattle.std.proofs.lemmas.Result.{IfOk-weaker}
use Rattle.judge_system.specs.Serving.{IsServedIn}
use Rattle.judge_system.proofs.Standing.{own_serve}
use Rattle.judge_system.proofs.serving.serving_places.Goals as goal

pub returns-then-takes_superseder-clause-places : goal.returns-then-takes_superseder-clause-places
returns-then-takes_superseder-clause-places c =
    IfOk-weaker c.own_and_superseding_places.result _
    (λ any. IsServedIn c.args.ids.now.keys c.args.kind c.args.id c.args.served.now.keys any.items)
    (λ any are. are c.args.kind (sym c.takes_superseder.ensures ∙ c.if-takes_superseder.true))
    c.own_and_superseding_places.ensures.places

pub returns-else-takes_superseder-clause-places : goal.returns-else-takes_superseder-clause-places
returns-else-takes_superseder-clause-places c =
    IfOk-weaker c.own_places.result _
    (λ any. IsServedIn c.args.ids.now.keys c.args.kind c.args.id c.args.served.now.keys any.items) (λ any own.
    own_serve c.args.ids.now.keys c.args.kind c.args.id c.args.served.now.keys any.items
    (sym c.takes_superseder.ensures ∙ c.if-takes_superseder.false) own) c.own_places.ensures.places
