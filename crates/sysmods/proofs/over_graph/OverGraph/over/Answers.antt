use Rattle.std.proofs.Common.{◌↔◌, ◌∙◌, sym, subst, true≢false, arith}
use Rattle.std.specs.Prelude.{IfOk, IsTrue}
use Rattle.std.proofs.lemmas.Result.{IfOk-weaker}
use Rattle.indexmap.specs.IndexMap.{keys, values}
use Rattle.sysmods.specs.Choices.{choice}
use Rattle.sysmods.specs.Graphs.{IsFalling, LeadsDown, list_at}
use Rattle.sysmods.proofs.OverGraphs.{falling, not_over_missing, over_down, over_lower, place_of}
use Rattle.sysmods.proofs.over_graph.OverGraph.over.Goals as goal

pub returns-in_default-get_index_of : goal.returns-in_default-get_index_of
returns-in_default-get_index_of c =
    let nodes = c.args.self.now.nodes in
    let at = place_of (keys nodes) c.args.x c.in-Some.high (sym c.in-Some.ensures.index) in (
      λ off. absurd (true≢false (sym off)),
      λ over. absurd (not_over_missing (choice c.args.vers.now) (keys nodes) (values nodes) c.requires c.in-Some.high
          c.args.x c.args.z at (sym c.in_default-get_index_of.ensures.index) over),
    )

pub returns-then-high-low : goal.returns-then-high-low
returns-then-high-low c =
    let nodes = c.args.self.now.nodes in
    let high = c.in-Some.high in
    let low = c.in-Some-get_index_of.low in
    let at = place_of (keys nodes) c.args.x high (sym c.in-Some.ensures.index) in
    let also = place_of (keys nodes) c.args.z low (sym c.in-Some-get_index_of.ensures.index) in
    let lower = over_lower (choice c.args.vers.now) (keys nodes) (values nodes) c.requires c.in-Some.ensures.unique
    high low c.args.x c.args.z at also in (
      λ off. absurd (true≢false (sym off)),
      λ over. absurd (omega (arith, lower over, c.if-high-low.true)),
    )

pub leads_down-requires-clause-falling : goal.leads_down-requires-clause-falling
leads_down-requires-clause-falling c =
    let nodes = c.args.self.now.nodes in
    subst (λ lists. IsFalling (list_at lists)) (sym (c.as_slice.ensures ∙ c.values.ensures.rest))
    (falling (choice c.args.vers.now) (keys nodes) (values nodes) c.requires)

pub returns : goal.returns
returns c =
    let nodes = c.args.self.now.nodes in
    let high = c.in-Some.high in
    let low = c.in-Some-get_index_of.low in
    let at = place_of (keys nodes) c.args.x high (sym c.in-Some.ensures.index) in
    let also = place_of (keys nodes) c.args.z low (sym c.in-Some-get_index_of.ensures.index) in
    let told = subst (λ lists. IfOk c.leads_down.result (λ found. IsTrue found ↔ LeadsDown (list_at lists) high low))
    (c.as_slice.ensures ∙ c.values.ensures.rest) c.leads_down.ensures in
    let same = over_down (choice c.args.vers.now) (keys nodes) (values nodes) c.requires c.in-Some.ensures.unique
    high low c.args.x c.args.z at also in
    IfOk-weaker c.leads_down.result _ _ (λ found down. (
      λ on. same.0 (down.0 on),
      λ over. down.1 (same.1 over),
    )) told
