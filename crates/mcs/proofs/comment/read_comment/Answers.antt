use Rattle.std.proofs.Common.{sym, ◌∙◌, subst}
use Rattle.terms.specs.Forms.{IsTrimmed}
use Rattle.rec80.specs.Cursors.{text_of}
use Rattle.mcs.proofs.Trimming.{cut_utf8}
use Rattle.mcs.proofs.comment.read_comment.Goals as goal

pub returns-in_default-clause-bad : goal.returns-in_default-clause-bad
returns-in_default-clause-bad c = λ printable x. c.in_default.ensures.none x.0
    (subst (λ t. IsTrimmed t x.0) (sym (c.as_slice.ensures.value ∙ c.in_ok-bytes.ensures)) x.1)

pub returns-in_default-from_utf8-clause-bad : goal.returns-in_default-from_utf8-clause-bad
returns-in_default-from_utf8-clause-bad c = λ printable x.
    c.in_default-from_utf8.ensures.cases.0 (cut_utf8 (text_of c.args.text.now) c.in-Some.cut.now printable
    (subst (λ t. IsTrimmed t c.in-Some.cut.now) (c.as_slice.ensures.value ∙ c.in_ok-bytes.ensures)
    c.in-Some.ensures.cut))
