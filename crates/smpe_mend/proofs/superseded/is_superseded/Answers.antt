use Rattle.std.proofs.Common.{◌≡◌, ◌∙◌, ap, rules}
use Rattle.std.specs.List.{list_any}
use Rattle.terms.specs.Lookups.{is_in}
use Rattle.terms.specs.Candidates.{sups_for}
use Rattle.sysmods.specs.Namers.{namers_for}
use Rattle.smpe_mend.proofs.Namers.{among_namers}
use Rattle.smpe_mend.proofs.superseded.is_superseded.Goals as goal

pub returns : goal.returns
returns c =
    let g = c.args.global.now in
    let srel = c.args.srel in
    let z = c.args.id in
    let all : c.deref.result.now ≡ namers_for g.sysmods srel z = search rules in
    c.any_supersedes.ensures ∙ ap (list_any (λ y. is_in (sups_for g srel y) z)) all ∙ among_namers g srel z
