use Rattle.std.proofs.Common.{List, subst}
use Rattle.std.specs.List.{flat_map}
use Rattle.smpe_package.specs.Package.{AreIds, id_of}
use Rattle.smpe_command.proofs.packages.ids_of_package.Goals as goal

pub returns-clause-ok : goal.returns-clause-ok
returns-clause-ok c = subst (λ (items : List _). AreIds c.in_ok-package_ids.field-0 (flat_map id_of items))
    c.as_slice.ensures.value c.in_ok-package_ids.ensures
