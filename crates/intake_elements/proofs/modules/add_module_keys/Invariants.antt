use Rattle.std.proofs.Common.{◌≡◌, ◌++◌, map, take}
use Rattle.terms.specs.declared.kinds.ElemType.TheVariants.{Mac}
use Rattle.intake_elements.specs.StandInNames.{key_of}
use Rattle.intake_elements.specs.Elements.{module_name}
use Rattle.intake_elements.proofs.modules.add_module_keys.Given as goal

abbrev pub invariant-loop-module : goal.invariant-loop-module
invariant-loop-module l =
    l.keys.items ≡ l.fn.keys.items ++ map (λ m. key_of Mac (module_name m.now)) (take l.module-index l.modules)
