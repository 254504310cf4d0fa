use Rattle.std.proofs.Common.{sym, subst}
use Rattle.std.specs.Map.{keys_of, values_of}
use Rattle.sysmods.specs.Choices.{choice}
use Rattle.sysmods.specs.Graphs.{IsGraph}
use Rattle.sysmods.specs.Overs.{AreOver}
use Rattle.sysmods.proofs.OverGraphs.{graph_none}
use Rattle.sysmods.proofs.overs.Overs.resume.Goals as goal

pub invariant_of-result : goal.invariant_of-result
invariant_of-result c =
    let by = choice c.args.vers.now in
    record {
      known = subst (AreOver by) (sym c.known.view_is) c.requires;
      graph = subst (λ nodes. IsGraph by (keys_of nodes) (values_of nodes)) (sym c.new-graph.ensures) (graph_none by);
    }
