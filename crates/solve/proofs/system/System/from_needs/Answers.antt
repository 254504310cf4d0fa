use Rattle.std.proofs.Common.{◌≡◌, IsTrue, length, rules, sym}
use Rattle.std.specs.List.{All}
use Rattle.std.proofs.lemmas.List.Elements.{All-map}
use Rattle.terms.proofs.Each.{All_unmap}
use Rattle.solve.specs.NeedView.{numbered}
use Rattle.solve.specs.System.{IsNeed}
use Rattle.solve.proofs.system.System.from_needs.Goals as goal

pub returns-then-not-are_valid_needs-clause-err : goal.returns-then-not-are_valid_needs-clause-err
returns-then-not-are_valid_needs-clause-err c all =
    let same : c.in-Ok.size ≡ length c.args.eligible.items = search rules in
    let each = All_unmap (IsNeed (length c.args.eligible.items)) numbered c.args.needs.items all in
    let sized : All (λ need. IsNeed c.in-Ok.size (numbered need)) c.deref.result.now =
    rw (c.deref.ensures.value, same) each in
    cc (c.are_valid_needs.ensures.1 sized, c.if-not-are_valid_needs.true)

pub invariant_of-result : goal.invariant_of-result
invariant_of-result c =
    let same : c.in-Ok.size ≡ length c.args.eligible.items = search rules in
    let passed : IsTrue c.are_valid_needs.result = search rules in
    record {
      flags = sym same;
      needs = All-map (IsNeed c.in-Ok.size) numbered c.args.needs.items
          (rw c.deref.ensures.value at (c.are_valid_needs.ensures.0 passed));
    }
