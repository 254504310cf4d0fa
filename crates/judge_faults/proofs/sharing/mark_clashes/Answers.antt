use Rattle.std.proofs.Common.{◌≤◌, ◌∙◌, ◌++◌, [], ◌∷◌, take, take_all, length, ap, sym, subst, arith}
use Rattle.std.proofs.lemmas.List.{take_more}
use Rattle.sysmods.specs.Choices.{choice}
use Rattle.judge_faults.specs.Sharing.{Marks, IsAmong, Clashes, AreMarked}
use Rattle.judge_faults.proofs.sharing.mark_clashes.Goals as goal

pub loop-claim-preserved : goal.loop-claim-preserved
loop-claim-preserved c =
    let g = c.args.overs.now.global.now in
    let choices = choice c.args.overs.now in
    let claims = c.args.claims.now in
    let i = c.loop-claim.claim-index in
    let claim = c.claim-item.result in
    let old = c.args.marked.now.keys in
    let new = c.add_claim.new in
    let same = c.loop-claim.invariant.same in
    record {
      same = c.in_ok-add_claim.ensures.same ∙ same;
      marked = subst (λ l. AreMarked g choices l new.claimants.chain.items new.claimants.others.items
          new.claimants.are_marked old new.marked.keys)
          (sym (take_more claims i claim (omega arith) ∙ ap (λ v. take i claims ++ v ∷ []) (sym c.claim-item.is)))
          ((rw same at c.in_ok-add_claim.ensures.taken) (take i claims) old c.loop-claim.invariant.marked);
    }

pub returns-clause-marks : goal.returns-clause-marks
returns-clause-marks c =
    let whole : length c.args.claims.now ≤ c.loop-claim.claim-index = omega arith in
    subst (λ l. Marks (IsAmong (Clashes c.args.overs.now.global.now (choice c.args.overs.now)) l)
    c.args.marked.now.keys c.loop-claim.marked.keys) (take_all c.loop-claim.claim-index c.args.claims.now whole)
    c.loop-claim.invariant.marked.marks
