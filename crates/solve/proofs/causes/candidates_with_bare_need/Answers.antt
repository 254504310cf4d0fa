use Rattle.std.proofs.Common.{◌≤◌, ◌∙◌, sym, ap, length, take_all, arith}
use Rattle.std.specs.List.{list_any}
use Rattle.solve.proofs.Bare.{is_bare, bare_exact}
use Rattle.solve.proofs.causes.candidates_with_bare_need.Goals as goal

pub returns-clause-exact : goal.returns-clause-exact
returns-clause-exact c x =
    let needs = c.needs-need-items.result.now in
    let end : length needs ≤ c.loop-need.need-index = omega arith in
    let same = c.loop-need.invariant.exact x ∙ ap (list_any (is_bare x)) (take_all c.loop-need.need-index needs end) in
    let iff = bare_exact c.args.system.now.needs needs x c.needs-need-items.ensures.needs in
    (λ marked. iff.0 (sym same ∙ marked), λ bare. same ∙ iff.1 bare)
