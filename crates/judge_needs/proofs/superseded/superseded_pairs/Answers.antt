use Rattle.std.proofs.Common.{◌≤◌, ◌∙◌, All, arith, length, subst, sym, take, take_all, Contains}
use Rattle.std.specs.Prelude.{◌↔◌}
use Rattle.terms.specs.Types.{Id}
use Rattle.sysmods.specs.Choices.{choice}
use Rattle.judge_needs.specs.Closures.{IsClosure, SupersedesOne}
use Rattle.judge_needs.specs.Pairs.{ArePairs}
use Rattle.judge_needs.proofs.Closing.{known_more, pairs_needed, none_needed}
use Rattle.judge_needs.proofs.Paired.{pairs_alike, pairs_next}
use Rattle.judge_needs.proofs.superseded.superseded_pairs.Goals as goal

pub returns-then-is_empty : goal.returns-then-is_empty
returns-then-is_empty c =
    none_needed c.args.needs.now c.from_vec-needed.result
    (rw c.in_ok-needed_ids.ensures at c.from_vec-needed.ensures.members)
    (choice c.args.vers.now) c.args.ids.now c.new.result.items (c.is_empty.ensures.0 c.if-is_empty.true)
    c.new.ensures.items

pub needed_superseded-requires : goal.needed_superseded-requires
needed_superseded-requires c =
    subst (λ needed. All (IsClosure (choice c.args.vers.now) needed) c.loop-id.known) c.needed.view_is
    c.loop-id.invariant.known

pub loop-id-preserved : goal.loop-id-preserved
loop-id-preserved c =
    let ch = choice c.args.vers.now in
    let needed = c.needed.inside.items.items in
    let x = c.id-item.result in
    let below = c.in_ok-superseded.superseded in
    let old = c.loop-id.pairs.items in
    let new = c.add_pairs.new.pairs.items in
    let own : (z : Id) → Contains below z ↔ SupersedesOne ch needed x z =
    subst (λ ids. (z : Id) → Contains below z ↔ SupersedesOne ch ids x z) (sym c.needed.view_is)
    c.in_ok-superseded.ensures in
    record {
      known = known_more ch needed c.loop-id.known c.push_last.new.self (record { id = x; ids = below })
          c.in_ok-push_last.field-0 c.loop-id.invariant.known own c.in_ok-push_last.ensures.ok;
      pairs = pairs_next (SupersedesOne ch needed) c.as_slice-id-items.result.now c.loop-id.id-index x old new
          (omega arith) c.id-item.is
          (pairs_alike x (Contains c.as_slice.result.now) (SupersedesOne ch needed x) old new
          (rw c.as_slice.ensures.items own) c.in_ok-add_pairs.ensures) c.loop-id.invariant.pairs;
    }

pub returns : goal.returns
returns c =
    let ch = choice c.args.vers.now in
    let needed = c.from_vec-needed.result in
    let pairs = c.loop-id.pairs.items in
    let whole : length c.as_slice-id-items.result.now ≤ c.loop-id.id-index = omega arith in
    pairs_needed c.args.needs.now needed (rw c.in_ok-needed_ids.ensures at c.from_vec-needed.ensures.members) ch
    c.args.ids.now pairs
    (subst (λ xs. ArePairs (SupersedesOne ch needed) xs pairs)
    (take_all c.loop-id.id-index c.as_slice-id-items.result.now whole ∙ c.as_slice-id-items.ensures.items)
    (subst (λ ids. ArePairs (SupersedesOne ch ids) (take c.loop-id.id-index c.as_slice-id-items.result.now) pairs)
    c.needed.view_is c.loop-id.invariant.pairs))
