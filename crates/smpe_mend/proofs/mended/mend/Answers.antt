use Rattle.std.proofs.Common.{map, arith}
use Rattle.report.specs.Views.{line_view}
use Rattle.smpe_mend.specs.Runs.{asked_of}
use Rattle.smpe_mend.proofs.Answering.{missing_answer}
use Rattle.smpe_mend.proofs.mended.mend.Goals as goal

pub returns-clause-answers : goal.returns-clause-answers
returns-clause-answers c =
    missing_answer c.args.global.now (asked_of c.args.broken.now) (map line_view c.in_ok-lines.lines.items)
    c.in_ok-missing.missing.items c.in_ok-missing_text.field-0.items c.in_ok-lines.ensures.lines
    (rw c.deref.ensures.value at c.in_ok-missing.ensures)
    (λ none. grind (arith, none, c.is_empty.ensures, c.if-is_empty.false))
    (rw c.deref-2.ensures.value at c.in_ok-missing_text.ensures)
