use Rattle.std.proofs.Common.{◌≢◌, ◌++◌, List, ℕ, codes, sym, ◌∙◌}
use Rattle.terms.specs.Texts.{IsChange}
use Rattle.terms.proofs.Controls.{same_control}
use Rattle.text80.proofs.ControlCuts.{none_then, differ}
use Rattle.text80.proofs.control.changed_name.Goals as goal

pub returns-in_err-word-clause-none : goal.returns-in_err-word-clause-none
returns-in_err-word-clause-none c = rw c.from_residual.ensures (λ name h. c.in_err-word.ensures.none _ _ h)

pub returns-then-ne-clause-none : goal.returns-then-ne-clause-none
returns-then-ne-clause-none c name h =
    let same = same_control _ _ _ _ c.args.line.now c.in_ok-word.ensures.some h in
    differ c.in_ok-word.word.now c.as_slice.result.now c.ne.result c.ne.ensures c.if-ne.true
    (same.0 ∙ sym c.as_slice.ensures)

pub returns-clause-none : goal.returns-clause-none
returns-clause-none c =
    none_then c.text_after.result ((rest : List ℕ) → c.in_ok-word.operand.now ≢ codes "NAME=" ++ rest)
    ((name : List ℕ) → ¬ IsChange name c.args.line.now)
    c.text_after.ensures.none (λ none name h. none name (same_control _ _ _ _ c.args.line.now c.in_ok-word.ensures.some
    h).1)
