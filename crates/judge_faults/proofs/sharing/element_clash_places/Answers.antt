use Rattle.std.proofs.Common.{◌≤◌, ◌∙◌, ℕ, Contains, length, take_all, subst, arith}
use Rattle.std.specs.Prelude.{◌↔◌}
use Rattle.sysmods.specs.Choices.{choice}
use Rattle.judge_faults.specs.Sharing.{IsAmong, ClashesOnOne}
use Rattle.judge_faults.proofs.Clashing.{clashing_at}
use Rattle.judge_faults.proofs.Runs.{split_next, run_next}
use Rattle.judge_faults.proofs.sharing.element_clash_places.Goals as goal

pub loop-start-preserved : goal.loop-start-preserved
loop-start-preserved c =
    let claims = c.as_slice-claims.result.now in
    let start = c.loop-start.start in
    let end = c.run_end-end.result in
    let grouped = rw (← c.as_slice-claims.ensures.value) at c.in_ok-all.ensures.grouped in
    record {
      same = c.in_ok-mark_clashes.ensures.same ∙ c.loop-start.invariant.same;
      within = c.run_end-end.ensures.within;
      split = split_next claims start end grouped c.run_end-end.ensures c.loop-start.invariant.split;
      marks = run_next c.args.overs.now.global.now (choice c.args.overs.now) claims start end c.loop-start.marked.keys
          c.mark_clashes.new.marked.keys c.run_end-end.ensures c.loop-start.invariant.split
          (rw c.loop-start.invariant.same at c.in_ok-mark_clashes.ensures.marks)
          c.loop-start.invariant.marks;
    }

pub returns-clause-clashing : goal.returns-clause-clashing
returns-clause-clashing c n =
    let g = c.args.overs.now.global.now in
    let choices = choice c.args.overs.now in
    let claims = c.as_slice-claims.result.now in
    let whole : length claims ≤ c.loop-start.start = omega arith in
    let marks = (subst (λ l. (n : ℕ) → Contains c.loop-start.marked.keys n ↔ IsAmong (ClashesOnOne g choices) l n)
    (take_all c.loop-start.start claims whole) c.loop-start.invariant.marks) n in
    let both = clashing_at g choices c.args.ids.now c.args.faults.now claims
    (rw (c.global.ensures, c.vers.ensures, ← c.as_slice-claims.ensures.value) at c.in_ok-all.ensures.are) n in
    (λ there. both.0 (marks.0 there), λ clash. marks.1 (both.1 clash))
