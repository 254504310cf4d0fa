use Rattle.std.proofs.Common.{◌≡◌, All, arith, drop, subst}
use Rattle.std.specs.Prelude.{IsFalse}
use Rattle.terms.specs.Changes.{has_replacement}
use Rattle.change.proofs.folding.last_replacement.Goals as goal

pub returns-clause-none : goal.returns-clause-none
returns-clause-none c =
    let zero : c.loop-place.place ≡ 0 = omega (arith, c.loop-place-test.false) in
    subst (λ k. All (λ x. IsFalse (has_replacement c.args.global.now x c.args.elem_type c.args.name))
    (drop k c.args.changers.now)) zero c.loop-place.invariant.back
