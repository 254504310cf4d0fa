use Rattle.std.proofs.Common.{sym, ◌∙◌}
use Rattle.terms.proofs.Ids.{Contains_from_is_in}
use Rattle.sysmods.proofs.Growth.{is_in_from_either}
use Rattle.sysmods.proofs.search.leads_to.Goals as goal

pub returns : goal.returns
returns g c = (
  λ found. c.in_ok-seen.ensures.sound _ (Contains_from_is_in _ _ (sym c.contains.ensures ∙ found)),
  λ reached. c.contains.ensures ∙ is_in_from_either _ _ (λ unseen. c.in_ok-seen.ensures.all unseen _ reached),
)
