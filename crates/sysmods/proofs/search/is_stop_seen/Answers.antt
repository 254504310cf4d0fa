use Rattle.std.proofs.Common.{sym, ◌∙◌}
use Rattle.terms.proofs.Ids.{Contains_from_is_in, is_in_from_Contains}
use Rattle.sysmods.proofs.search.is_stop_seen.Goals as goal

pub returns-in-Some : goal.returns-in-Some
returns-in-Some c = rw c.in-Some.is (
  λ met. Contains_from_is_in _ _ (sym c.contains.ensures ∙ met),
  λ there.
      c.contains.ensures ∙ is_in_from_Contains _ _ there,
)
