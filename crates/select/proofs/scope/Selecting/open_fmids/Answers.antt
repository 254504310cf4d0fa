use Rattle.std.proofs.Common.{◌∙◌, [], if◌then◌else◌, ap, sym}
use Rattle.std.specs.List.{list_any}
use Rattle.terms.specs.Lookups.{is_applied}
use Rattle.terms.specs.Candidates.{fmids_for}
use Rattle.select.proofs.scope.Selecting.open_fmids.Goals as goal

pub returns : goal.returns
returns c =
    let scope = c.args.self.now in
    let fmids = fmids_for scope.global scope.zone.srel c.args.id in
    let none = sym (c.any_applied.ensures ∙ ap (list_any (is_applied scope.zone)) (c.as_slice.ensures.value
    ∙ c.in_ok-fmids.ensures)) ∙ c.if-any_applied.false in
    c.in_ok-fmids.ensures ∙ ap (λ b. if b then [] else fmids) (sym none)
