use Rattle.std.proofs.Common.{[]}
use Rattle.std.proofs.lemmas.Result.{IfOk-weaker}
use Rattle.terms.specs.Choice.{counting}
use Rattle.smpe_verify.proofs.Rules.{none_if_closed, some_breaks}
use Rattle.smpe_verify.proofs.closed.first_breach.Goals as goal

pub returns-clause-none : goal.returns-clause-none
returns-clause-none c =
    let g = c.args.global.now in
    let zone = c.args.zone.now in
    IfOk-weaker c.find_breach.result _ _
    (λ breach is. none_if_closed g (counting g zone []) zone c.attest_texts.ensures breach is)
    c.find_breach.ensures

pub returns-clause-some : goal.returns-clause-some
returns-clause-some c =
    let g = c.args.global.now in
    let zone = c.args.zone.now in
    IfOk-weaker c.find_breach.result _ _
    (λ breach is. some_breaks g (counting g zone []) zone c.attest_texts.ensures breach is)
    c.find_breach.ensures
