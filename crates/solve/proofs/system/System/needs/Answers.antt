use Rattle.solve.specs.System.{IsNeed}
use Rattle.terms.proofs.Each.{All_unmap}
use Rattle.solve.specs.NeedView.{numbered}
use Rattle.solve.proofs.system.System.needs.Goals as goal

pub returns-clause-valid : goal.returns-clause-valid
returns-clause-valid c =
    rw (c.deref.ensures.value, ← c.self.view_is) (All_unmap (IsNeed c.self.inside.size) numbered
    c.self.inside.needs.items c.self.invariant.needs)
