use Rattle.std.proofs.Common.{◌∙◌, length, refl, arith}
use Rattle.std.proofs.lemmas.Option.{slice_get_read}
use Rattle.sysmods.specs.Choices.{choice}
use Rattle.judge_faults.proofs.Chained.{front_below}
use Rattle.judge_faults.proofs.chains.search_place.Goals as goal

pub loop-low-preserved-then-branch : goal.loop-low-preserved-then-branch
loop-low-preserved-then-branch c = record {
  same = c.in_ok-is_below.ensures.same ∙ c.loop-low.invariant.same;
  ordered = omega arith;
  within = c.loop-low.invariant.within;
  front = λ ordered.
      let chain = c.args.chain.now in
      let middle = c.index-chain-middle.result in
      front_below c.args.overs.now.global.now (choice c.args.overs.now) chain c.args.claim.now ordered _ middle
      (slice_get_read chain (length chain) _ middle refl (omega arith) c.index-chain-middle.is)
      ((rw c.loop-low.invariant.same at c.in_ok-is_below.ensures.below).0 c.if-branch.true);
}
