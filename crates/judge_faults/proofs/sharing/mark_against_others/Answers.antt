use Rattle.std.proofs.lemmas.Result.{on_ok_weaker}
use Rattle.judge_faults.proofs.sharing.mark_against_others.Goals as goal

pub returns-then-claimants-clause-marks : goal.returns-then-claimants-clause-marks
returns-then-claimants-clause-marks c =
    on_ok_weaker c.mark_until_settled.result (λ marks settled. marks (settled c.if-claimants.true))
    (rw c.as_slice-others.ensures.value at c.mark_until_settled.ensures.marks)

pub returns-else-claimants-clause-marks : goal.returns-else-claimants-clause-marks
returns-else-claimants-clause-marks c =
    on_ok_weaker c.mark_against.result (λ marks settled. marks)
    (rw c.as_slice-others.ensures.value at c.mark_against.ensures.marks)
