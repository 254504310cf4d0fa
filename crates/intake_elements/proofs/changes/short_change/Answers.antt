use Rattle.intake_elements.proofs.Making.{short}
use Rattle.intake_elements.proofs.changes.short_change.Goals as goal

pub returns : goal.returns
returns c =
    short c.args.options.now.decide c.args.kind c.args.element.now c.args.elem_type c.args.name
    c.in-Some.change c.requires.known c.requires.named c.requires.asked c.requires.lacks_nothing
    (rw c.in-Some.is at c.in_ok-change.ensures)
