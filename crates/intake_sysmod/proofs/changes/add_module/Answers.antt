use Rattle.std.proofs.Common.{false}
use Rattle.std.proofs.lemmas.Result.{IfOk-weaker}
use Rattle.terms.specs.declared.kinds.ElemType.TheVariants.{Mac}
use Rattle.intake_elements.specs.Elements.{module_name}
use Rattle.intake_sysmod.proofs.Changed.{grows_same, grows_join, assembled, changed_as}
use Rattle.intake_sysmod.proofs.changes.add_module.Goals as goal

pub returns-in_default-clause-grows : goal.returns-in_default-clause-grows
returns-in_default-clause-grows c = λ kind.
    grows_same c.args.options.now.decide kind c.args.element.now c.args.sysmod.now

pub returns-clause-grows : goal.returns-clause-grows
returns-clause-grows c =
    IfOk-weaker c.add_change.result _ _ (λ added joins kind.
    grows_join c.args.options.now.decide kind c.args.element.now c.in-Some.change c.args.sysmod.now
    c.add_change.new.sysmod added joins
    (assembled c.args.options.now.decide kind c.args.element.now c.in-Some.change c.args.module.now
    c.requires.asked c.requires.is_one (rw c.in-Some.is at c.in_ok-change.ensures))) c.add_change.ensures

pub returns-clause-there : goal.returns-clause-there
returns-clause-there c =
    IfOk-weaker c.add_change.result _ _ (λ added joins t.
    changed_as c.args.options.now.decide c.add_change.new.sysmod.changes c.in-Some.change Mac
    (module_name c.args.module.now) false (rw c.in-Some.is at c.in_ok-change.ensures) (joins.there t))
    c.add_change.ensures
