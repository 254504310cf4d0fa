use Rattle.std.proofs.Common.{◌≡◌, ◌+◌, Some, map, take, sym, subst}
use Rattle.std.specs.Prelude.{slice_get}
use Rattle.indexmap.specs.IndexMap.{keys}
use Rattle.sysmods.proofs.OverGraphs.{numbers_next}
use Rattle.sysmods.proofs.over_graph.find_numbers.Goals as goal

pub loop-id-preserved : goal.loop-id-preserved
loop-id-preserved c =
    let ids = keys c.args.nodes.now in
    let named = c.args.ids.now in
    let i = c.loop-id.id-index in
    subst (λ numbers. map (slice_get ids) numbers ≡ map (λ z. Some z) (take (i + 1) named))
    (sym c.in_ok-push.ensures.items)
    (numbers_next ids named c.loop-id.numbers.items i c.id-item.result c.in-Some.number c.loop-id-test.true c.id-item.is
    (sym c.in-Some.ensures.index) c.loop-id.invariant)
