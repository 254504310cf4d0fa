use Rattle.std.proofs.Common.{inl}
use Rattle.terms.specs.declared.kinds.Kind.TheVariants.{Ptf}
use Rattle.intake_sysmod.proofs.Changed.{grows_same, grows_then, grows_join, element_changed}
use Rattle.intake_sysmod.proofs.changes.add_with_modules.Goals as goal

pub returns-in_default-clause-grows : goal.returns-in_default-clause-grows
returns-in_default-clause-grows c =
    grows_same c.args.options.now.decide c.args.stated.now.kind c.args.element.now c.args.sysmod.now

pub returns-clause-grows : goal.returns-clause-grows
returns-clause-grows c =
    let decide = c.args.options.now.decide in
    let kind = c.args.stated.now.kind in
    grows_then decide kind c.args.element.now c.args.sysmod.now c.add_change.new.sysmod c.add_modules.new.sysmod
    (grows_join decide kind c.args.element.now c.in-Some.change c.args.sysmod.now c.add_change.new.sysmod
    c.in_ok-added.added c.in_ok-added.ensures (inl (rw c.in-Some.is at c.in_ok-change.ensures)))
    (c.in_ok-added_modules.ensures.grows kind)

pub returns-clause-changed : goal.returns-clause-changed
returns-clause-changed c = λ t.
    let b = c.are_both.ensures t in
    element_changed c.args.options.now.decide c.args.stated.now.kind c.args.element.now c.in-Some.change
    c.args.sysmod.now c.add_change.new.sysmod c.add_modules.new.sysmod c.in_ok-added.added
    (rw c.in-Some.is at c.in_ok-change.ensures) c.in_ok-added.ensures b.0
    ((c.in_ok-added_modules.ensures.grows Ptf).kept) (λ asked. c.in_ok-added_modules.ensures.there b.1)
