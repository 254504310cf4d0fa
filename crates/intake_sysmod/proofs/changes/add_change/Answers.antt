use Rattle.std.proofs.Common.{◌≡◌, subst, sym, true, false, ◌∙◌}
use Rattle.std.specs.List.{list_any}
use Rattle.terms.specs.Types.{Change}
use Rattle.intake_sysmod.proofs.Changed.{is_for, joins_first, joins_not, joins_under, joins_over}
use Rattle.intake_sysmod.proofs.changes.add_change.Goals as goal

pub returns-then-not-has_change : goal.returns-then-not-has_change
returns-then-not-has_change c =
    joins_first c.args.options.now.decide c.args.change c.args.sysmod.now c.insert_change.new.self
    c.in_ok-insert_change.ensures.ok
    (subst (λ (x : Change). list_any (is_for x.elem_type x.name) c.args.sysmod.now.changes ≡ false) c.change.view_is
    (sym c.has_change.ensures ∙ c.if-not-has_change.true))

pub returns-then-not-options : goal.returns-then-not-options
returns-then-not-options c = joins_not c.args.options.now.decide c.args.change c.args.sysmod.now

pub returns-then-not-is_replacement : goal.returns-then-not-is_replacement
returns-then-not-is_replacement c =
    joins_under c.args.options.now.decide c.args.change c.args.sysmod.now c.if-not-options.false
    (subst (λ (x : Change). list_any (is_for x.elem_type x.name) c.args.sysmod.now.changes ≡ true) c.change.view_is
    (sym c.has_change.ensures ∙ c.if-not-has_change.false))
    (sym c.is_replacement.ensures ∙ c.if-not-is_replacement.true)

pub returns : goal.returns
returns c =
    joins_over c.args.options.now.decide c.args.change c.args.sysmod.now c.insert_change-2.new.self
    c.in_ok-insert_change-2.ensures.ok c.if-not-options.false
    (sym c.is_replacement.ensures ∙ c.if-not-is_replacement.false)
