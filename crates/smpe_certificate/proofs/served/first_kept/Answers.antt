use Rattle.std.proofs.Common.{◌≡◌, false, arith}
use Rattle.std.proofs.lemmas.List.Elements.{All-more}
use Rattle.terms.proofs.BesideLists.{all_through}
use Rattle.solve.specs.System.{holds}
use Rattle.smpe_certificate.proofs.served.first_kept.Goals as goal

pub loop-y-preserved : goal.loop-y-preserved
loop-y-preserved c =
    All-more (λ y. holds c.args.kept.now y ≡ false) c.args.any.now c.loop-y.y-index 0 c.loop-y-test.true
    c.loop-y.invariant c.if-kept-y.false

pub returns-clause-none : goal.returns-clause-none
returns-clause-none c =
    all_through (λ y. holds c.args.kept.now y ≡ false) c.args.any.now c.loop-y.y-index (omega arith) c.loop-y.invariant
