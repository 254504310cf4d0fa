use Rattle.std.proofs.Common.{List, map, subst}
use Rattle.smpe_package.specs.Package.{AreIds}
use Rattle.smpe_package.proofs.carried.package_of.Goals as goal

pub returns-clause-unsure : goal.returns-clause-unsure
returns-clause-unsure c = subst (λ (all : List _). AreIds c.in_ok-unsure.unsure (map (λ u. u.id) all))
    c.as_slice.ensures.value c.in_ok-unsure.ensures
