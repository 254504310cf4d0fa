use Rattle.std.proofs.Common.{◌∙◌, inl, inr, refl, sym, true≢false}
use Rattle.std.proofs.lemmas.Result.{IfOk-weaker}
use Rattle.why_verdict.proofs.conflicts.are_ordered.Goals as goal

pub returns-then-branch : goal.returns-then-branch
returns-then-branch c = (λ on. inl (c.in_ok-over.ensures.0 c.if-branch.true), λ ordered. refl)

pub returns : goal.returns
returns c =
    IfOk-weaker c.over-2.result _ _ (λ is told. (
      λ on. inr (told.0 on),
      λ ordered. elim ordered [
        | inl over ↦ absurd (true≢false (sym (c.in_ok-over.ensures.1 over) ∙ c.if-branch.false))
        | inr over ↦ told.1 over
      ],
    )) c.over-2.ensures
