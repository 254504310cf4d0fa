use Rattle.std.proofs.Common.{All, drop, length, refl, arith}
use Rattle.std.proofs.lemmas.Option.{slice_get_read}
use Rattle.std.proofs.lemmas.Result.{IfOk-weaker}
use Rattle.std.specs.Prelude.{IsTrue}
use Rattle.sysmods.specs.Choices.{choice}
use Rattle.judge_faults.specs.Sharing.{IsBelow, IsChain}
use Rattle.judge_faults.proofs.Chained.{back_above}
use Rattle.judge_faults.proofs.chains.is_below_chain_from.Goals as goal

pub returns-clause-fits : goal.returns-clause-fits
returns-clause-fits c =
    let g = c.args.overs.now.global.now in
    let choices = choice c.args.overs.now in
    let chain = c.args.chain.now in
    let claim = c.args.claim.now in
    let place = c.args.place in
    let first = c.index-chain-place.result in
    IfOk-weaker c.is_below.result _ (λ fits. IsTrue fits → IsChain g choices chain
    → All (λ b. IsBelow g choices claim b) (drop place chain))
    (λ below tells on ordered. back_above g choices chain claim ordered place first
    (slice_get_read chain (length chain) place first refl (omega arith) c.index-chain-place.is) (tells.0 on))
    c.is_below.ensures.below
