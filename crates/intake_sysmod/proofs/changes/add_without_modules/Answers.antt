use Rattle.std.proofs.Common.{inl, sym, ◌∙◌, true≢false}
use Rattle.std.proofs.lemmas.Result.{IfOk-weaker}
use Rattle.intake_sysmod.proofs.Changed.{grows_same, grows_join, element_changed}
use Rattle.intake_sysmod.proofs.changes.add_without_modules.Goals as goal

pub returns-in_default-clause-grows : goal.returns-in_default-clause-grows
returns-in_default-clause-grows c =
    grows_same c.args.options.now.decide c.args.stated.now.kind c.args.element.now c.args.sysmod.now

pub returns-clause-grows : goal.returns-clause-grows
returns-clause-grows c =
    IfOk-weaker c.add_change.result _ _ (λ added joins.
    grows_join c.args.options.now.decide c.args.stated.now.kind c.args.element.now c.in-Some.change c.args.sysmod.now
    c.add_change.new.sysmod added joins (inl (rw c.in-Some.is at c.in_ok-change.ensures))) c.add_change.ensures

pub returns-clause-changed : goal.returns-clause-changed
returns-clause-changed c =
    IfOk-weaker c.add_change.result _ _ (λ added joins t.
    element_changed c.args.options.now.decide c.args.stated.now.kind c.args.element.now c.in-Some.change
    c.args.sysmod.now c.add_change.new.sysmod c.add_change.new.sysmod added
    (rw c.in-Some.is at c.in_ok-change.ensures) joins t (λ type name updated any. any)
    (λ asked. absurd (true≢false (sym asked ∙ c.requires)))) c.add_change.ensures
