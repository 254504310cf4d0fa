use Rattle.std.proofs.Common.{◌∙◌, ap, filter}
use Rattle.std.specs.List.{flat_map}
use Rattle.std.specs.Str.{bytes_eq}
use Rattle.std.proofs.lemmas.Result.{IfOk-weaker}
use Rattle.terms.specs.Types.{Ver}
use Rattle.terms.specs.Lookups.{at_most_one}
use Rattle.select.proofs.Kept.{some_kept}
use Rattle.select.proofs.Vers.{vers_for}
use Rattle.select.proofs.scope.Selecting.fmids.Goals as goal

pub returns : goal.returns
returns c =
    let scope = c.args.self.now in
    let vers = c.vers.result.now in
    IfOk-weaker c.fmids_for_srel.result _ _
    (λ ids are. are ∙ some_kept (λ (v : Ver). v.fmid) (filter (λ v. bytes_eq v.srel c.srel.result) vers)
    ∙ ap (λ t. flat_map (λ v. at_most_one v.fmid) (filter (λ v. bytes_eq v.srel t) vers))
    (c.srel.ensures ∙ ap (λ s. s.zone.srel) c.self.view_is)
    ∙ ap (λ vs. flat_map (λ v. at_most_one v.fmid) (filter (λ v. bytes_eq v.srel scope.zone.srel) vs)) c.vers.ensures
    ∙ ap (flat_map (λ v. at_most_one v.fmid)) (vers_for scope c.args.id))
    c.fmids_for_srel.ensures
