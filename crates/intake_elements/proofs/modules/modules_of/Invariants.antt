use Rattle.std.proofs.Common.{◌≡◌, ◌++◌, map, take}
use Rattle.intake_read.specs.Stated.{texts}
use Rattle.intake_elements.specs.Elements.{own_modules}
use Rattle.intake_elements.proofs.modules.modules_of.Given as goal

abbrev pub invariant-loop-module : goal.invariant-loop-module
invariant-loop-module l =
    map (λ m. m.now) l.modules.items ≡ own_modules l.element ++ texts (take l.module-index l.element.assem.items)
