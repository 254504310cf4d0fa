use Rattle.std.proofs.Common.{◌∙◌, subst, sym}
use Rattle.intake_holds.specs.Holds.{AreInOrder}
use Rattle.intake_sysmod.specs.Users.{run_of}
use Rattle.intake_carry.specs.Unsure.{AreUnsure}
use Rattle.intake_carry.proofs.files.finish_narrowed.Goals as goal

pub returns-clause-items : goal.returns-clause-items
returns-clause-items c = (c.in_ok-assigns.assigns.items, c.new.ensures.items ∙ c.in_ok-append_assigns.ensures)

pub returns-clause-in_order : goal.returns-clause-in_order
returns-clause-in_order c =
    subst (AreInOrder c.args.outside.items) (sym c.new.ensures.holds) c.in_ok-hold_items.ensures

pub returns-clause-unsure : goal.returns-clause-unsure
returns-clause-unsure c =
    let run = run_of c.args.files.now in
    let unsure = c.in_ok-unsure.unsure.items in
    subst (AreUnsure run c.new.result.items.items) (sym c.new.ensures.unsure)
    (subst (λ i. AreUnsure run i unsure) (sym c.new.ensures.items)
    (subst (λ i. AreUnsure run i unsure) c.as_slice.ensures.value c.in_ok-unsure.ensures))
