use Rattle.std.proofs.Common.{take, IsTrue, false}
use Rattle.std.specs.Prelude.{All}
use Rattle.terms.specs.declared.kinds.Kind.{Kind}
use Rattle.terms.specs.declared.kinds.ElemType.TheVariants.{Mac}
use Rattle.intake_elements.specs.Elements.{module_name}
use Rattle.intake_sysmod.specs.Changed.{IsChanged, Grows}
use Rattle.intake_sysmod.proofs.changes.add_modules.Given as goal

abbrev pub invariant-loop-module : goal.invariant-loop-module
invariant-loop-module l = record {
  grows : (kind : Kind) → Grows l.options.decide kind l.element l.fn.sysmod l.sysmod;
  there : IsTrue l.added_all → All (λ m. IsChanged l.options.decide l.sysmod.changes Mac (module_name m.now) false)
      (take l.module-index l.modules);
}
