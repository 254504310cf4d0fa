use Rattle.std.proofs.Common.{take, sym, ◌∙◌, ap, subst}
use Rattle.text80.proofs.ControlCuts.{joined, parts_from, empty_from, some_from}
use Rattle.terms.proofs.Controls.{IsCuts, control_from}
use Rattle.text80.proofs.control.control_parts.Goals as goal
use Rattle.text80.proofs.control.control_parts.Goals.{then-is_empty-via-then-is_empty}
use Rattle.text80.proofs.control.control_parts.Goals.{then-is_empty-via-else-is_empty+then-is_empty-2}
use Rattle.text80.proofs.control.control_parts.Goals.{then-is_empty-via-else-is_empty+else-is_empty-2+then-is_empty-3}
use Rattle.text80.proofs.control.control_parts.Goals.{then-is_empty-via-else-is_empty+else-is_empty-2+else-is_empty-3+then-is_empty-4}
use Rattle.text80.proofs.control.control_parts.Goals.{then-is_empty-via-else-is_empty+else-is_empty-2+else-is_empty-3+else-is_empty-4+then-not-is_empty}

pub returns-then-is_empty-clause-none : goal.returns-then-is_empty-clause-none
returns-then-is_empty-clause-none c word operand h =
    let front = ap (take 72) (sym c.bytes.ensures.bytes) ∙ sym c.split_at.ensures.front ∙ c.in_ok-text.ensures.some in
    let cuts = joined _ _ _ _ _ _ _ _ _ _ _ c.split_blanks.ensures c.split_solid.ensures c.split_blanks-2.ensures
    c.split_solid-2.ensures c.split_blanks-3.ensures in
    let parts = parts_from c.args.line.now c.in_ok-text.text.now _ _ _ _ _ _ front cuts word operand h in
    elim c.then-is_empty.branch [
      | then-is_empty-via-then-is_empty w ↦ parts.gap (empty_from _ _ c.is_empty.ensures w.if-is_empty.true)
      | then-is_empty-via-else-is_empty+then-is_empty-2 w ↦ parts.word_some
          (empty_from _ _ w.is_empty-else-is_empty.ensures w.if-is_empty-2.true)
      | then-is_empty-via-else-is_empty+else-is_empty-2+then-is_empty-3 w ↦ parts.gap2
          (empty_from _ _ w.is_empty-else-is_empty-2.ensures w.if-is_empty-3.true)
      | then-is_empty-via-else-is_empty+else-is_empty-2+else-is_empty-3+then-is_empty-4 w ↦ parts.operand_some
          (empty_from _ _ w.is_empty-else-is_empty-3.ensures w.if-is_empty-4.true)
      | then-is_empty-via-else-is_empty+else-is_empty-2+else-is_empty-3+else-is_empty-4+then-not-is_empty w ↦ some_from
          _ _ w.is_empty-else-is_empty-4.ensures w.if-not-is_empty.true parts.end
    ]

pub returns-clause-some : goal.returns-clause-some
returns-clause-some c =
    let front = ap (take 72) (sym c.bytes.ensures.bytes) ∙ sym c.split_at.ensures.front ∙ c.in_ok-text.ensures.some in
    let cuts = joined _ _ _ _ _ _ _ _ _ _ _ c.split_blanks.ensures c.split_solid.ensures c.split_blanks-2.ensures
    c.split_solid-2.ensures c.split_blanks-3.ensures in
    let end = empty_from _ _ c.is_empty-else-is_empty-4.ensures c.if-not-is_empty.false in
    control_from c.args.line.now c.in_ok-text.text.now _ _ _ _ _ front
    (subst (λ e. IsCuts c.in_ok-text.text.now c.split_blanks.result.0.now c.split_solid.result.0.now
    c.split_blanks-2.result.0.now c.split_solid-2.result.0.now c.split_blanks-3.result.0.now e) end cuts)
    (some_from _ _ c.is_empty.ensures c.if-is_empty.false)
    (some_from _ _ c.is_empty-else-is_empty.ensures c.if-is_empty-2.false)
    (some_from _ _ c.is_empty-else-is_empty-2.ensures c.if-is_empty-3.false)
    (some_from _ _ c.is_empty-else-is_empty-3.ensures c.if-is_empty-4.false)
