use Rattle.std.proofs.Common.{◌≤◌, length, refl, arith, subst, sym, take, take_all, Contains}
use Rattle.std.proofs.lemmas.Option.{slice_get_read}
use Rattle.terms.proofs.Lists.{front_more}
use Rattle.terms.proofs.Places.{All-found}
use Rattle.terms.specs.Types.{Id}
use Rattle.judge_system.specs.Serving.{AddsSuperseded}
use Rattle.judge_system.proofs.CandidateIds.{one_number}
use Rattle.judge_system.proofs.Standing.{superseded_next, superseded_none}
use Rattle.judge_system.proofs.serving.add_superseded.Goals as goal

pub own_place-requires-clause-within : goal.own_place-requires-clause-within
own_place-requires-clause-within c =
    let over = c.args.superseded.now in
    All-found (λ (p : Id × Id). Contains c.args.ids.now.keys p.0) over c.loop-pair.pair-index c.pair-item.result
    c.requires.within
    (slice_get_read over (length over) c.loop-pair.pair-index c.pair-item.result refl (omega arith) c.pair-item.is)

pub loop-pair-preserved : goal.loop-pair-preserved
loop-pair-preserved c =
    let ids = c.args.ids.now.keys in
    let over = c.args.superseded.now in
    let k = c.loop-pair.pair-index in
    let pair = c.pair-item.result in
    let rising = c.requires.rising in
    subst (λ l. AddsSuperseded ids l c.args.pairs.now.items c.push.new.self.items)
    (sym (front_more over k pair (omega arith) c.pair-item.is))
    (superseded_next ids (take k over) pair c.own_place.result c.args.pairs.now.items c.loop-pair.pairs.items
    c.push.new.self.items
    (λ n at. one_number ids rising c.own_place.result n pair.0 c.own_place.ensures at) c.own_place.ensures
    c.in_ok-push.ensures.items c.loop-pair.invariant)

pub loop-pair-init : goal.loop-pair-init
loop-pair-init c = superseded_none c.args.ids.now.keys c.args.pairs.now.items

pub returns : goal.returns
returns c =
    let over = c.args.superseded.now in
    let whole : length over ≤ c.loop-pair.pair-index = omega arith in
    subst (λ l. AddsSuperseded c.args.ids.now.keys l c.args.pairs.now.items c.loop-pair.pairs.items)
    (take_all c.loop-pair.pair-index over whole) c.loop-pair.invariant
