use Rattle.std.proofs.Common.{◌≡◌, ◌⊎◌, sym, subst}
use Rattle.std.proofs.lemmas.Result.{IfOk-weaker}
use Rattle.smpe_lint.specs.Linted.{IsCleanStatus}
use Rattle.smpe_lint.proofs.answer.answer.Goals as goal

pub returns-clause-clean : goal.returns-clause-clean
returns-clause-clean c =
    IfOk-weaker c.formed.result _ _ (λ a same status. (
      c.is_whole-whole.ensures (c.status_of-status.ensures.whole (subst IsCleanStatus same status)),
      c.in_ok-judged.ensures (c.status_of-status.ensures.clean (subst IsCleanStatus same status)),
    )) c.formed.ensures

pub returns-clause-known : goal.returns-clause-known
returns-clause-known c =
    IfOk-weaker c.formed.result _ _ (λ a same. subst (λ s. IsCleanStatus s ⊎ (s ≡ 8)) (sym same)
    c.status_of-status.ensures.known) c.formed.ensures
