use Rattle.std.proofs.Common.{arith, get_or}
use Rattle.std.proofs.lemmas.List.{get_or_default}
use Rattle.smpe_why.proofs.Cards.{too_long}
use Rattle.smpe_why.proofs.bypass_text.records_of_text.Goals as goal

pub returns-then-column-ge-TEXT_COLUMNS-clause-none : goal.returns-then-column-ge-TEXT_COLUMNS-clause-none
returns-then-column-ge-TEXT_COLUMNS-clause-none c =
    let text = c.args.text.now in
    let i = c.loop-byte.byte-index in
    too_long text i (get_or text i 0) c.loop-byte.column (omega arith)
    (get_or_default text i 0 (get_or text i 0) (omega arith)) (omega arith) c.loop-byte.invariant.2
