use Rattle.std.proofs.Common.{◌∙◌, sym, rules}
use Rattle.sysmods.proofs.Indexed.{keeps_update, has_at}
use Rattle.sysmods.proofs.index.Index.remove.Goals as goal

pub returns-in-Some : goal.returns-in-Some
returns-in-Some c =
    keeps_update c.args.self.now.sets (c.get_mut.follows.lender c.remove.new.self) c.args.named c.remove.new.self
    c.args.namer
    ((c.get_mut.follows.holds c.remove.new.self).3 (search rules))
    (λ y other h. c.remove.ensures y other
    (sym (has_at c.args.self.now.sets c.args.named c.in-Some.namers.now (sym c.in-Some.ensures.value) y) ∙ h))
