use Rattle.std.proofs.Common.{rules, arith, take, subst, false, map, IsTrue, Contains}
use Rattle.std.specs.Prelude.{All}
use Rattle.std.proofs.lemmas.List.Elements.{All-map, All-weaker}
use Rattle.terms.proofs.BesideLists.{all_through}
use Rattle.terms.specs.declared.kinds.Kind.TheVariants.{Ptf}
use Rattle.terms.specs.declared.kinds.ElemType.TheVariants.{Mac}
use Rattle.intake_elements.specs.Elements.{modules_of, module_name}
use Rattle.intake_sysmod.specs.Changed.{IsChanged}
use Rattle.intake_sysmod.proofs.Changed.{grows_same, grows_then}
use Rattle.intake_sysmod.proofs.Quantified.{place_seen, more_seen}
use Rattle.intake_sysmod.proofs.changes.add_modules.Goals as goal

pub loop-module-init : goal.loop-module-init
loop-module-init c = record {
  grows = λ kind. grows_same c.args.options.now.decide kind c.args.element.now c.args.sysmod.now;
  there = search rules;
}

pub add_module-requires-clause-is_one : goal.add_module-requires-clause-is_one
add_module-requires-clause-is_one c =
    place_seen (λ m. m.now) c.args.modules.now (modules_of c.args.element.now) c.loop-module.module-index _
    c.requires.are c.loop-module-test.true

pub loop-module-preserved : goal.loop-module-preserved
loop-module-preserved c =
    let at = c.loop-module in
    let decide = c.args.options.now.decide in
    let new = c.add_module.new.sysmod in
    record {
      grows = λ kind.
          grows_then decide kind c.args.element.now c.args.sysmod.now at.sysmod new (at.invariant.grows kind)
          (c.in_ok-added.ensures.grows kind);
      there = λ t.
          let b = c.are_both-added_all.ensures t in
          more_seen (λ m. m.now) (λ m. IsChanged decide new.changes Mac (module_name m) false) c.args.modules.now
          at.module-index _ c.loop-module-test.true (c.in_ok-added.ensures.there b.1)
          (All-weaker (λ m. IsChanged decide at.sysmod.changes Mac (module_name m.now) false)
          (λ m. IsChanged decide new.changes Mac (module_name m.now) false)
          (λ m any. (c.in_ok-added.ensures.grows Ptf).kept Mac (module_name m.now) false any)
          (take at.module-index c.args.modules.now) (at.invariant.there b.0));
    }

pub returns-clause-there : goal.returns-clause-there
returns-clause-there c = λ t.
    let decide = c.args.options.now.decide in
    let changes = c.loop-module.sysmod.changes in
    subst (All (λ m. IsChanged decide changes Mac (module_name m) false)) c.requires.are
    (All-map (λ m. IsChanged decide changes Mac (module_name m) false) (λ m. m.now) c.args.modules.now
    (all_through (λ m. IsChanged decide changes Mac (module_name m.now) false) c.args.modules.now
    c.loop-module.module-index (omega arith) (c.loop-module.invariant.there t)))
