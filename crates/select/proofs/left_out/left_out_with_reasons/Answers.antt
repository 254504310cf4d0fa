use Rattle.std.proofs.Common.{Contains, Some, ◌≡◌, ◌∙◌, ap, map, sym, subst, ◌↔◌}
use Rattle.std.proofs.lemmas.Result.{IfOk-weaker}
use Rattle.terms.specs.declared.not_chosen.NotChosen.{NotChosen}
use Rattle.terms.specs.Types.{Id}
use Rattle.terms.specs.Lookups.{IsRising}
use Rattle.select.specs.Scopes.{Selecting, named_ids}
use Rattle.select.specs.Reasons.{reason_in}
use Rattle.select.proofs.Reasoned.{found_rising, found_members}
use Rattle.select.proofs.left_out.left_out_with_reasons.Goals as goal

pub returns-clause-rising : goal.returns-clause-rising
returns-clause-rising c =
    IfOk-weaker c.ids_with_reasons.result _ _
    (λ found same. subst (λ ps. IsRising (map (λ p. p.0) ps)) (sym same)
    (found_rising _ c.as_slice.result.now c.as_slice.ensures.rising))
    c.ids_with_reasons.ensures

pub returns-clause-members : goal.returns-clause-members
returns-clause-members c =
    let scope = c.args.scope.now in
    let ids = c.as_slice.result.now in
    let named : (x : Id) → Contains ids x ↔ Contains (named_ids scope.selection) x = λ x.
    subst (λ xs. Contains xs x ↔ Contains (named_ids scope.selection) x) (sym c.as_slice.ensures.items)
    (subst (λ ys. Contains c.from_vec-named.result x ↔ Contains ys x)
    (c.in_ok-named_ids.ensures ∙ ap (λ (s : Selecting). named_ids s.selection) c.scope.view_is)
    (c.from_vec-named.ensures.members x)) in
    IfOk-weaker c.ids_with_reasons.result _ _
    (λ found same x why. subst (λ ps. Contains {X = Id × NotChosen} ps (x, why) ↔ (reason_in scope x ≡ Some why))
    (sym same) (found_members scope ids named x why))
    c.ids_with_reasons.ensures
