use Rattle.std.proofs.Common.{Contains, All, take, take_all, sym, subst, arith}
use Rattle.std.proofs.lemmas.List.Elements.{All-weaker, All-more, All-nil}
use Rattle.sysmods.specs.Choices.{choice}
use Rattle.terms.specs.Stream.{IsInStream}
use Rattle.stream.specs.Ordering.{IsOrder}
use Rattle.stream.proofs.Placing.{order_none}
use Rattle.stream.proofs.order.in_order.Goals as goal

pub loop-id-init : goal.loop-id-init
loop-id-init c = record {
  order = subst (IsOrder (choice c.args.vers.now)) (sym c.new-placed.ensures.empty) (order_none c.args.vers.now);
  all = All-nil (Contains c.new-placed.result.keys);
}

pub place_with_named-requires-clause-stream : goal.place_with_named-requires-clause-stream
place_with_named-requires-clause-stream c =
    let ids = c.args.ids.now in
    let i = c.loop-id.id-index in
    subst (IsInStream (choice c.args.vers.now)) (sym c.id-item.is) (c.requires i c.id-item.result (omega arith))

pub loop-id-preserved : goal.loop-id-preserved
loop-id-preserved c =
    let ids = c.args.ids.now in
    let i = c.loop-id.id-index in
    let new = c.place_with_named.new.placed.keys in
    record {
      order = c.in_ok-place_with_named.ensures.order;
      all = All-more (Contains new) ids i c.id-item.result (omega arith)
          (All-weaker (Contains c.loop-id.placed.keys) (Contains new) c.in_ok-place_with_named.ensures.kept (take i ids)
          c.loop-id.invariant.all)
          (subst (Contains new) c.id-item.is c.in_ok-place_with_named.ensures.placed);
    }

pub returns-clause-all : goal.returns-clause-all
returns-clause-all c =
    subst (All (Contains c.loop-id.placed.keys)) (take_all c.loop-id.id-index c.args.ids.now (omega arith))
    c.loop-id.invariant.all
