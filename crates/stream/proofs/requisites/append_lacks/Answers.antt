use Rattle.std.proofs.Common.{◌∙◌, ◌++◌, map, ap, sym, take_all, arith}
use Rattle.sysmods.specs.Choices.{choice}
use Rattle.stream.specs.Lost.{a_lost_requisite}
use Rattle.stream.proofs.Lost.{lacks_gained}
use Rattle.stream.proofs.requisites.append_lacks.Goals as goal

pub returns : goal.returns
returns c =
    let x = c.args.superseding in
    let y = c.args.superseded in
    let old = c.args.found.now.items in
    lacks_gained c.in-Some.ver.now c.in-Some-ver.other.now (choice c.args.vers.now) x y (sym c.in-Some.ensures)
    (sym c.in-Some-ver.ensures) c.in_ok-lacks.lacks.items old c.loop-lack.found.items c.in_ok-lacks.ensures
    (c.loop-lack.invariant ∙ ap (λ l. old ++ map (λ k. a_lost_requisite x y k) l)
    (take_all c.loop-lack.lack-index c.as_slice-lack-items.result.now (omega arith)
    ∙ c.as_slice-lack-items.ensures.value))
