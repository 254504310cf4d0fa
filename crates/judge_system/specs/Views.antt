-- Why a candidate failed, as contracts see it.
use Rattle.std.specs.Prelude.{map}
use Rattle.terms.specs.Types.{Id}
use Rattle.machine.specs.Outcome as machine
use Rattle.judge_system.specs.declared.failure.OpenNeed.{OpenNeed}
use Rattle.judge_system.specs.declared.failure.Failure.{Failure}
use Rattle.judge_system.specs.TestSets.{tests_of}

abbrev pub need_view : OpenNeed → machine.OpenNeed
need_view n = record { kind = n.kind; id = n.id }

abbrev pub failure_view : Failure → machine.Failure
failure_view f = record { tests = tests_of f.tests; needs = map need_view f.needs.items; causers = f.causers.items }

-- an id with why it failed
abbrev pub why_failed : Id × Failure → Id × machine.Failure
why_failed f = (f.0, failure_view f.1)
