use Rattle.std.proofs.Common.{◌-◌, All, length, sym, arith}
use Rattle.std.proofs.lemmas.Result.{IfOk-weaker}
use Rattle.std.specs.Prelude.{IsTrue}
use Rattle.sysmods.specs.Choices.{choice}
use Rattle.judge_faults.specs.Sharing.{IsBelow, IsChain}
use Rattle.judge_faults.proofs.Chained.{end_below}
use Rattle.judge_faults.proofs.chains.is_over_chain.Goals as goal

pub returns-in-Some-clause-ends : goal.returns-in-Some-clause-ends
returns-in-Some-clause-ends c =
    let g = c.args.overs.now.global.now in
    let choices = choice c.args.overs.now in
    let chain = c.args.chain.now in
    let claim = c.args.claim.now in
    let last = c.in-Some.last.now in
    IfOk-weaker c.is_below.result _ (λ ends. IsTrue ends → IsChain g choices chain
    → All (λ b. IsBelow g choices b claim) chain)
    (λ below tells on ordered. end_below g choices chain claim ordered (length chain - 1) last
    (sym c.in-Some.ensures.value) (omega arith) (tells.0 on))
    c.is_below.ensures.below
