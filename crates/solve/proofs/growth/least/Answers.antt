use Rattle.std.proofs.Common.{◌≡◌, ap, map, subst, sym, ◌∙◌}
use Rattle.std.specs.Prelude.{not}
use Rattle.std.proofs.lemmas.Result.{IfOk-weaker}
use Rattle.solve.specs.Least.{IsLeast, growth_of}
use Rattle.solve.proofs.LeastSets.{least_from_kept}
use Rattle.solve.proofs.growth.least.Goals as goal

pub returns : goal.returns
returns c =
    let outside = c.rules.inside.outside in
    let out = c.in_ok-out.out in
    let least : IsLeast (growth_of outside) (map not out) = least_from_kept outside out c.rules.invariant
    c.in_ok-out.ensures in
    IfOk-weaker c.negate_flags.result (λ turned. turned.items ≡ map not c.flags.result.now)
    (λ set. IsLeast c.args.rules.now set.items)
    (λ set turned. rw (← c.rules.view_is) (subst (IsLeast (growth_of outside))
    (sym (turned ∙ ap (map not) c.flags.ensures)) least))
    c.negate_flags.ensures
