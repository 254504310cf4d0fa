use Rattle.std.proofs.Common.{◌≡◌, ◌<◌, ◌∙◌, ◌++◌, ap, append-nil, filter, length, map, subst, sym}
use Rattle.std.specs.Prelude.{All, AllPairs}
use Rattle.judge_system.specs.Serving.{is_between}
use Rattle.judge_system.proofs.Standing.{served_places_holds, places_below, places_rise}
use Rattle.judge_system.proofs.serving.own_and_superseding_places.Goals as goal
use Rattle.judge_system.proofs.serving.own_and_superseding_places.Goals.{In-None}

-- the places of the range
ranged : (c : In-None) → c.loop-pair.places.items
    ≡ map (λ p. p.1) (filter (is_between c.args.id (length c.args.ids.now.keys)) c.args.served.now.keys)
ranged c =
    let found = c.loop-pair.places.items in
    sym (append-nil found) ∙ ap (λ left. found ++ map (λ p. p.1) left) (sym c.in-None.ensures.steps.0)
    ∙ c.loop-pair.invariant

pub returns-clause-places : goal.returns-clause-places
returns-clause-places c kind takes =
    served_places_holds c.args.ids.now.keys kind c.args.id c.args.served.now.keys c.loop-pair.places.items takes
    (ranged c)

pub returns-clause-below : goal.returns-clause-below
returns-clause-below c =
    subst (All (λ n. n < length c.args.ids.now.keys)) (sym (ranged c))
    (places_below c.args.id (length c.args.ids.now.keys) c.args.served.now.keys)

pub returns-clause-rising : goal.returns-clause-rising
returns-clause-rising c =
    subst (AllPairs (λ a b. a < b)) (sym (ranged c))
    (places_rise c.args.id (length c.args.ids.now.keys) c.args.served.now.keys c.range-pair-items.ensures.ordered)
