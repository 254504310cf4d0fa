use Rattle.std.proofs.Common.{filter, ap}
use Rattle.judge_system.specs.TestSets.{is_in_set}
use Rattle.judge_system.proofs.test_set.TestSet.iter.Goals as goal

pub returns : goal.returns
returns c = ap (filter (is_in_set c.args.self)) c.iter.ensures.rest
