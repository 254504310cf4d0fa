use Rattle.store_sysmod_loads.proofs.RunLemmas.{popped}
use Rattle.store_sysmod_loads.proofs.gathering.pop_row_of.Goals as goal

pub returns-clause-some : goal.returns-clause-some
returns-clause-some g c =
    popped g.T.Child.parent_of c.args.parent c.args.rows.now.items c.pop_front.new.self.items c.pop_front.result
    (c.first_belongs_to.ensures.0 c.if-not-first_belongs_to.false) c.pop_front.ensures.items
