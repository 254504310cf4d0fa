use Rattle.std.proofs.Common.{◌≡◌, map, take}
use Rattle.smpe_jobs.specs.Ending.{answer_of}
use Rattle.smpe_rehearsal.specs.ServiceSet.{greatest}
use Rattle.smpe_rehearsal.proofs.service_set.greatest_status.Given as goal

abbrev pub invariant-loop-answer : goal.invariant-loop-answer
invariant-loop-answer l = l.status ≡ greatest (map answer_of (take l.answer-index l.answers))
