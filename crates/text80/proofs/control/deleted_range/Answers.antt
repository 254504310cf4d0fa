use Rattle.std.proofs.Common.{ℕ, sym, ◌∙◌, subst}
use Rattle.terms.specs.Texts.{IsRange, IsSomeDelete}
use Rattle.terms.proofs.Controls.{same_control}
use Rattle.text80.proofs.ControlCuts.{none_then, differ}
use Rattle.text80.proofs.control.deleted_range.Goals as goal

pub returns-in_err-word-clause-none : goal.returns-in_err-word-clause-none
returns-in_err-word-clause-none c = rw c.from_residual.ensures (λ h. c.in_err-word.ensures.none _ _ h.2.1)

pub returns-then-ne-clause-none : goal.returns-then-ne-clause-none
returns-then-ne-clause-none c h =
    let same = same_control _ _ _ _ c.args.line.now c.in_ok-word.ensures.some h.2.1 in
    differ c.in_ok-word.word.now c.as_slice.result.now c.ne.result c.ne.ensures c.if-ne.true
    (same.0 ∙ sym c.as_slice.ensures)

pub returns-clause-none : goal.returns-clause-none
returns-clause-none c =
    none_then c.range_in.result ((low high : ℕ) → ¬ IsRange c.in_ok-word.operand.now low high)
    (¬ IsSomeDelete c.args.line.now)
    c.range_in.ensures.none (λ none h.
    let same = same_control _ _ _ _ c.args.line.now c.in_ok-word.ensures.some h.2.1 in
    none h.0 h.1 (subst (λ o. IsRange o h.0 h.1) (sym same.1) h.2.2))
