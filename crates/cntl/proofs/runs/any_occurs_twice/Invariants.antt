use Rattle.std.proofs.Common.{◌≡◌, ◌<◌, false, [], length, take}
use Rattle.std.specs.Prelude.{All}
use Rattle.terms.specs.Commands.{runs_from}
use Rattle.terms.specs.Operands.{is_often}
use Rattle.rec80.specs.Cursors.{text_of}
use Rattle.cntl.proofs.runs.any_occurs_twice.Given as goal

abbrev pub invariant-loop-name : goal.invariant-loop-name
invariant-loop-name l = All (λ name. 0 < length name.now) l.names
    → All (λ name. is_often 2 (runs_from false [] (text_of l.list)) name.now ≡ false) (take l.name-index l.names)
