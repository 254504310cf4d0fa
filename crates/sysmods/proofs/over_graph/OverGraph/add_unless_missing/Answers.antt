use Rattle.std.proofs.Common.{◌≡◌, ◌++◌, ◌∙◌, None, Some, map, sym, ap}
use Rattle.std.specs.Str.{bytes_eq}
use Rattle.indexmap.specs.IndexMap.{get}
use Rattle.indexmap.proofs.CallerLemmas.{insert_entry-new}
use Rattle.terms.specs.Over.{names}
use Rattle.sysmods.specs.Choices.{choice}
use Rattle.sysmods.proofs.OverGraphs.{graph_more, none_of}
use Rattle.sysmods.proofs.over_graph.OverGraph.add_unless_missing.Goals as goal

pub returns-in-Known : goal.returns-in-Known
returns-in-Known c =
    let by = choice c.args.vers.now in
    let nodes = c.args.self.now.nodes in
    let x = c.args.id in
    let numbers = c.in-Known.numbers in
    let none : get bytes_eq nodes x ≡ None = none_of _ (sym c.contains_key.ensures ∙ c.if-contains_key.false) in
    let named : c.as_slice.result.now ≡ names by x = c.as_slice.ensures.value ∙ c.in_ok-append_named.ensures
    ∙ ap (λ l. l ++ names by x) c.new-named.ensures.items in
    let are = rw c.in-Known.is at c.in_ok-numbers.ensures in
    graph_more by nodes.entries c.insert.new.self.entries x numbers c.requires (are ∙ ap (map (λ z. Some z)) named)
    (c.in_ok-insert-in-Known.ensures.entries ∙ insert_entry-new bytes_eq nodes x numbers none)
