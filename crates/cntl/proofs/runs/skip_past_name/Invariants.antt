use Rattle.std.proofs.Common.{◌≡◌, ◌<◌, false, [], length}
use Rattle.terms.specs.Types.{Text}
use Rattle.terms.specs.Commands.{runs_from}
use Rattle.terms.proofs.OperandWords.{count}
use Rattle.rec80.specs.Cursors.{text_of}
use Rattle.cntl.specs.Walks.{IsAt, is_inner}
use Rattle.cntl.proofs.runs.skip_past_name.Given as goal

abbrev pub invariant-loop-byte : goal.invariant-loop-byte
invariant-loop-byte l = 0 < length l.name → (run : Text) × IsAt l.name l.state run
    × (count l.name (runs_from false [] (text_of l.list)) ≡ count l.name
    (runs_from (is_inner l.state) run (text_of l.rest)))

abbrev pub decreases-loop-byte : goal.decreases-loop-byte
decreases-loop-byte l = length (text_of l.rest)
