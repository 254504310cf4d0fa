use Rattle.indexmap.specs.IndexMap.{keys, values}
use Rattle.sysmods.specs.Choices.{choice}
use Rattle.sysmods.specs.Graphs.{IsGraph}
use Rattle.sysmods.proofs.over_graph.OverGraph.add_with_named.Given as goal

abbrev pub invariant-path : goal.invariant-path
invariant-path l = IsGraph (choice l.vers) (keys l.self.nodes) (values l.self.nodes)
