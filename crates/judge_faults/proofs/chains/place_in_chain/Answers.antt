use Rattle.std.proofs.Common.{◌∙◌}
use Rattle.sysmods.specs.Choices.{choice}
use Rattle.judge_faults.proofs.Chained.{fits_front, fits_end}
use Rattle.judge_faults.proofs.chains.place_in_chain.Goals as goal

pub returns-then-branch-clause-fits : goal.returns-then-branch-clause-fits
returns-then-branch-clause-fits c ordered =
    fits_end c.args.overs.now.global.now (choice c.args.overs.now) c.args.chain.now c.args.claim.now ordered
    (c.in_ok-is_over_chain.ensures.ends c.if-branch.true ordered)

pub returns-then-branch-2-clause-fits : goal.returns-then-branch-2-clause-fits
returns-then-branch-2-clause-fits c ordered =
    fits_front c.args.overs.now.global.now (choice c.args.overs.now) c.args.chain.now c.args.claim.now ordered
    ((rw c.in_ok-is_over_chain.ensures.same at c.in_ok-is_below_chain_from.ensures.fits) c.if-branch-2.true ordered)

pub returns-clause-fits : goal.returns-clause-fits
returns-clause-fits c ordered =
    let same = c.in_ok-is_below.ensures.same ∙ c.in_ok-is_below_chain_from.ensures.same
    ∙ c.in_ok-is_over_chain.ensures.same in
    record {
      within = c.in_ok-place.ensures.within;
      front = (rw same at c.in_ok-place.ensures.front) ordered;
      back = (rw (c.in_ok-place.ensures.same ∙ same) at c.in_ok-is_below_chain_from-2.ensures.fits)
          c.if-not-branch-2.false
          ordered;
    }
