use Rattle.std.specs.Prelude.{◌↔◌, Contains, map}
use Rattle.terms.specs.Types.{Id}
use Rattle.judge_system.specs.TestSets.{tests_of}
use Rattle.judge.specs.Surviving.{SurvivesIn}
use Rattle.judge.proofs.surviving.survivors.Given as goal

abbrev pub invariant-loop-i : goal.invariant-loop-i
invariant-loop-i l =
    (x : Id) → Contains l.found.items x ↔ SurvivesIn l.ids (map tests_of l.tests) l.i x
