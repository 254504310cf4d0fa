use Rattle.std.proofs.Common.{◌∙◌, ap, filter}
use Rattle.std.specs.List.{flat_map}
use Rattle.std.specs.Str.{bytes_eq}
use Rattle.terms.specs.Lookups.{is_in, sysmod_of}
use Rattle.select.proofs.Kept.{any_kept}
use Rattle.smpe_mend.proofs.Namers.{vers_kept}
use Rattle.smpe_mend.proofs.superseded.supersedes.Goals as goal

pub returns : goal.returns
returns c =
    let z = c.args.id in
    let srel = c.args.srel in
    c.any_has_sup.ensures
    ∙ any_kept (λ v. bytes_eq v.srel srel) (λ v. v.sup) (bytes_eq z) c.vers_of.result.now
    ∙ ap (λ vs. is_in (flat_map (λ v. v.sup) (filter (λ v. bytes_eq v.srel srel) vs)) z) c.vers_of.ensures
    ∙ ap (λ vs. is_in (flat_map (λ v. v.sup) vs) z)
    (vers_kept (λ v. bytes_eq v.srel srel) (sysmod_of c.args.global.now c.args.by))
