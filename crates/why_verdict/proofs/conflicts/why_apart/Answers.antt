use Rattle.std.proofs.Common.{◌∙◌, inl, inr, sym, true≢false}
use Rattle.why_verdict.proofs.conflicts.why_apart.Goals as goal

pub returns-then-not-have_one_owner : goal.returns-then-not-have_one_owner
returns-then-not-have_one_owner c = λ same.
    true≢false (sym (c.have_one_owner.ensures.1 same) ∙ c.if-not-have_one_owner.true)

pub returns-then-branch : goal.returns-then-branch
returns-then-branch c =
    (c.have_one_owner.ensures.0 c.if-not-have_one_owner.false, c.in_ok-are_ordered.ensures.0 c.if-branch.true)

pub returns : goal.returns
returns c = (
  c.have_one_owner.ensures.0 c.if-not-have_one_owner.false,
  λ over. true≢false (sym (c.in_ok-are_ordered.ensures.1 (inl over)) ∙ c.if-branch.false),
  λ over. true≢false (sym (c.in_ok-are_ordered.ensures.1 (inr over)) ∙ c.if-branch.false),
)
