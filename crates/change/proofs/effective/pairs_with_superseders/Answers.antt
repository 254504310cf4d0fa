use Rattle.std.proofs.Common.{◌∙◌, ◌++◌, map, ap, subst, arith}
use Rattle.std.proofs.lemmas.List.{take_all}
use Rattle.sysmods.specs.Choices.{choice}
use Rattle.change.specs.Superseded.{ArePaired}
use Rattle.change.proofs.TakingEffect.{paired_next}
use Rattle.change.proofs.effective.pairs_with_superseders.Goals as goal

pub loop-id-preserved : goal.loop-id-preserved
loop-id-preserved c =
    let x = c.id-item.result in
    let old = c.loop-id.pairs.items in
    paired_next (choice c.args.vers.now) c.args.ids.now c.loop-id.id-index x old c.loop-other.pairs.items
    c.in_ok-superseded.superseded (omega arith) c.id-item.is c.in_ok-superseded.ensures
    (c.loop-other.invariant
    ∙ ap (λ l. old ++ map (λ z. (z, x)) l) (take_all c.loop-other.other-index c.as_slice-other-items.result.now
    (omega arith) ∙ c.as_slice-other-items.ensures.items))
    c.loop-id.invariant

pub returns : goal.returns
returns c =
    subst (λ ids. ArePaired (choice c.args.vers.now) ids c.loop-id.pairs.items)
    (take_all c.loop-id.id-index c.args.ids.now (omega arith)) c.loop-id.invariant
