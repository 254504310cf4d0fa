use Rattle.std.proofs.Common.{subst}
use Rattle.std.specs.Prelude.{codes, ◌∷◌, []}
use Rattle.std.proofs.lemmas.Result.{IfOk-weaker}
use Rattle.terms.specs.Types.{Selection}
use Rattle.intake_asked.specs.Said.{AreThese}
use Rattle.intake_asked.specs.Words.{listed, selected, grouped, excluded}
use Rattle.intake_asked.proofs.selections.says_lists.Goals as goal

pub returns : goal.returns
returns c =
    IfOk-weaker c.says_forfmid.result _ _ (λ says said t. let seen = c.selection.view_is in
    let ops = c.args.operands.now in
    let fmids = listed (codes "FORFMID" ∷ []) ops in
    let exclude = excluded c.args.known.now ops in
    record {
      select = subst (λ (s : Selection). AreThese s.select (selected ops)) seen
          (subst (λ l. AreThese l (selected ops)) c.as_slice.ensures.items
          (c.in_ok-says_select.ensures c.if-not-branch.false));
      group = subst (λ (s : Selection). AreThese s.group (grouped ops)) seen
          (subst (λ l. AreThese l (grouped ops)) c.as_slice-2.ensures.items
          (c.in_ok-says_group.ensures c.if-not-branch-2.false));
      exclude = subst (λ (s : Selection). AreThese s.exclude exclude) seen
          (subst (λ l. AreThese l exclude) c.as_slice-3.ensures.items
          (c.in_ok-says_exclude.ensures c.if-not-branch-3.false));
      forfmid = subst (λ (s : Selection). AreThese s.forfmid fmids) seen
          (subst (λ l. AreThese l fmids) c.as_slice-4.ensures.items (said t));
    }) c.says_forfmid.ensures
