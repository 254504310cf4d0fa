use Rattle.std.proofs.Common.{subst, append-nil}
use Rattle.rec80.specs.Cursors.{rest_of}
use Rattle.rec80.specs.Walks.{SkipsGaps}
use Rattle.rec80.proofs.Walking.{idle_text, idle_after}
use Rattle.rec80.proofs.walk.is_idle.Goals as goal

skips : (c : goal.After-is_end) → SkipsGaps c.args.tail.now (rest_of c.skip_gaps-end.result)
skips c = subst (λ t. SkipsGaps t (rest_of c.skip_gaps-end.result)) (append-nil c.args.tail.now)
    c.skip_gaps-end.ensures.gaps

pub returns-clause-idle : goal.returns-clause-idle
returns-clause-idle c = λ yes'. idle_text c.args.tail.now (rest_of c.skip_gaps-end.result) (skips c)
    (c.is_end.ensures.end yes')

pub returns-clause-text : goal.returns-clause-text
returns-clause-text c = λ no' idle. c.is_end.ensures.more no'
    (idle_after c.args.tail.now (rest_of c.skip_gaps-end.result) (skips c) idle)
