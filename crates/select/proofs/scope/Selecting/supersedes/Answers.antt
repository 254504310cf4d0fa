use Rattle.std.proofs.Common.{◌∙◌, ap, filter}
use Rattle.std.specs.List.{flat_map}
use Rattle.std.specs.Str.{bytes_eq}
use Rattle.terms.specs.Lookups.{is_in}
use Rattle.select.proofs.Kept.{any_kept}
use Rattle.select.proofs.Vers.{vers_for}
use Rattle.select.proofs.scope.Selecting.supersedes.Goals as goal

pub returns : goal.returns
returns c =
    let other = c.args.other in
    let srel = c.args.self.now.zone.srel in
    c.any_supersedes.ensures
    ∙ any_kept (λ v. bytes_eq v.srel c.srel.result) (λ v. v.sup) (bytes_eq other) c.vers.result.now
    ∙ ap (λ t. is_in (flat_map (λ v. v.sup) (filter (λ v. bytes_eq v.srel t) c.vers.result.now)) other)
    (c.srel.ensures ∙ ap (λ s. s.zone.srel) c.self.view_is)
    ∙ ap (λ vs. is_in (flat_map (λ v. v.sup) (filter (λ v. bytes_eq v.srel srel) vs)) other) c.vers.ensures
    ∙ ap (λ vs. is_in (flat_map (λ v. v.sup) vs) other) (vers_for c.args.self.now c.args.id)
