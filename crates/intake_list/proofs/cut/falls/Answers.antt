use Rattle.std.proofs.Common.{◌≡◌, IfOk, subst, sym}
use Rattle.intake_list.specs.Cut.{falls}
use Rattle.intake_list.proofs.cut.falls.Goals as goal

pub returns-in-Some : goal.returns-in-Some
returns-in-Some c =
    subst (λ entries. IfOk c.falls_after.result (λ found. found.items ≡ falls entries))
    (sym c.in-Some.ensures.cases.0) c.falls_after.ensures
