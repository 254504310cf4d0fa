use Rattle.std.proofs.Common.{◌≡◌, ◌∙◌, inl, inr, Bool, true, false, not, sym, true≢false, refl}
use Rattle.std.proofs.lemmas.Bool.{not-true}
use Rattle.judge_faults.proofs.chains.may_not_share.Goals as goal

turned : (b : Bool) → (b ≡ true → ⊥) → not b ≡ true
turned true lacks = absurd (lacks refl)
turned false lacks = refl

pub returns-then-branch-clause-apart : goal.returns-then-branch-clause-apart
returns-then-branch-clause-apart c =
    let one_owner = (rw c.vers.ensures at c.have_one_owner.ensures).0 c.if-not-have_one_owner.false in (
      λ on. absurd (true≢false (sym on)),
      λ apart. elim apart [
        | inl two ↦ absurd (two one_owner)
        | inr none ↦ absurd (none.0 (c.in_ok-over.ensures.over.0 c.if-branch.true))
      ],
    )

pub returns-clause-apart : goal.returns-clause-apart
returns-clause-apart c =
    let one_owner = (rw c.vers.ensures at c.have_one_owner.ensures).0 c.if-not-have_one_owner.false in
    let back = rw c.in_ok-over.ensures.same at c.in_ok-over-2.ensures.over in
    let ordered = c.in_ok-over-2.field-0 in (
      λ on. inr (
        λ over. true≢false (sym (c.in_ok-over.ensures.over.1 over) ∙ c.if-branch.false),
        λ over. true≢false (sym (back.1 over) ∙ not-true ordered on),
      ),
      λ apart. elim apart [
        | inl two ↦ absurd (two one_owner)
        | inr none ↦ turned ordered (λ on. none.1 (back.0 on))
      ],
    )
