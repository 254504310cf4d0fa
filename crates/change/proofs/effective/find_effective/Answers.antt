use Rattle.std.proofs.Common.{◌∙◌, filter, not, ap, subst}
use Rattle.terms.specs.Lookups.{is_in}
use Rattle.sysmods.specs.Choices.{choice}
use Rattle.change.specs.Superseded.{ArePaired}
use Rattle.change.proofs.TakingEffect.{unsuperseded}
use Rattle.change.proofs.effective.find_effective.Goals as goal

pub returns-clause-ids : goal.returns-clause-ids
returns-clause-ids c = λ x.
    let by = choice c.args.vers.now in
    let kept = c.args.kept.now in
    let seen = c.in_ok-seen.seen.keys in
    let left = c.in_ok-unseen_among.field-0.items in
    let is_left = unsuperseded by kept seen left c.in_ok-seen.ensures
    (c.in_ok-unseen_among.ensures ∙ ap (filter (λ x. not (is_in seen x))) c.as_slice.ensures.items) x in
    let same = c.from_vec-ids.ensures.members x in
    (λ h. is_left.0 (same.0 h), λ u. same.1 (is_left.1 u))

pub returns-clause-superseded : goal.returns-clause-superseded
returns-clause-superseded c =
    subst (λ ids. ArePaired (choice c.args.vers.now) ids c.in_ok-superseded.superseded.items) c.as_slice-2.ensures.items
    c.in_ok-superseded.ensures
