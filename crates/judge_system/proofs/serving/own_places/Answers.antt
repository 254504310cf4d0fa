use Rattle.std.proofs.Common.{◌<◌, [], length, refl, arith}
use Rattle.std.proofs.lemmas.List.Elements.{All-push}
use Rattle.std.proofs.lemmas.Option.{slice_get_within}
use Rattle.judge_system.proofs.OwnPlaces.{one_place, no_place}
use Rattle.judge_system.proofs.serving.own_places.Goals as goal

pub returns-in_default-clause-places : goal.returns-in_default-clause-places
returns-in_default-clause-places c =
    rw c.new-places.ensures.items (no_place c.args.ids.now.keys c.args.id (c.in_default.ensures.none refl))

pub returns-clause-places : goal.returns-clause-places
returns-clause-places c =
    rw (c.in_ok-push.ensures.items, c.new-places.ensures.items)
    (one_place c.args.ids.now.keys c.requires.rising c.in-Some.place c.args.id
    c.in-Some.ensures.at)

pub returns-clause-below : goal.returns-clause-below
returns-clause-below c =
    rw (c.in_ok-push.ensures.items, c.new-places.ensures.items)
    (All-push (λ n. n < length c.args.ids.now.keys) [] c.in-Some.place (λ i d below. absurd (omega (arith, below)))
    (slice_get_within c.args.ids.now.keys c.in-Some.place c.args.id c.in-Some.ensures.at))
