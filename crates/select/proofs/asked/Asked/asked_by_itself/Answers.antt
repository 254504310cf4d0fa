use Rattle.std.proofs.Common.{◌++◌, ◌∙◌, not, filter, ap}
use Rattle.terms.specs.Lookups.{is_supplied}
use Rattle.terms.specs.Candidates.{fmids_for}
use Rattle.select.specs.Growing.{open_fmids}
use Rattle.select.proofs.asked.Asked.asked_by_itself.Goals as goal

pub returns : goal.returns
returns c =
    let scope = c.args.self.now.scope.now in
    let unsupplied = c.as_slice-2.ensures.value ∙ c.in_ok-unsupplied.ensures
    ∙ ap (filter (λ z. not (is_supplied scope.zone z))) (c.as_slice.ensures.value ∙ c.in_ok-wanted.ensures) in
    c.in_ok-extend_from_slice.ensures.items
    ∙ ap (λ xs. xs ++ c.as_slice-2.result.now) c.in_ok-found.ensures
    ∙ ap (λ ys. open_fmids scope.zone (fmids_for scope.global scope.zone.srel c.args.id) ++ ys) unsupplied
