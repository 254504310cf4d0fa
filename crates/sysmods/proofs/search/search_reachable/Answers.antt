use Rattle.std.proofs.Common.{arith}
use Rattle.sysmods.proofs.Going.{search_start, search_end}
use Rattle.sysmods.proofs.search.search_reachable.Goals as goal

pub loop-i-init : goal.loop-i-init
loop-i-init g c = let e = c.new-seen.ensures.empty in search_start _ _ _ (rw e at c.in_ok-see_named.ensures)

pub loop-i-preserved : goal.loop-i-preserved
loop-i-preserved g c = c.in_ok-visit.ensures c.args.x c.loop-i.invariant

pub returns-clause-all : goal.returns-clause-all
returns-clause-all g c unmet z = search_end _ _ _ c.loop-i.i (omega arith) c.loop-i.invariant z
