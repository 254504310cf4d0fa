use Rattle.std.proofs.Common.{◌≡◌, ◌∙◌, take, subst, arith}
use Rattle.std.specs.Prelude.{All, List}
use Rattle.std.proofs.lemmas.List.{take_all}
use Rattle.std.proofs.lemmas.List.Elements.{All-more}
use Rattle.terms.specs.Types.{Entry}
use Rattle.terms.specs.Lookups.{IsRising}
use Rattle.zones_maps.proofs.zone.Zone.attest_lists.Goals as goal

pub loop-entry-preserved : goal.loop-entry-preserved
loop-entry-preserved c =
    All-more (λ e. IsRising e.supby × IsRising e.waived) c.entries-entry-items.result.now c.loop-entry.entry-index
    c.entry-item.result c.loop-entry-test.true c.loop-entry.invariant
    (subst (λ (e : Entry). IsRising e.supby × IsRising e.waived) c.entry-item.is c.attest.ensures)

pub returns-clause-lists : goal.returns-clause-lists
returns-clause-lists c =
    let all : take c.loop-entry.entry-index c.entries-entry-items.result.now ≡ c.entries-entry-items.result.now =
    take_all c.loop-entry.entry-index c.entries-entry-items.result.now (omega arith) in
    subst (λ (es : List Entry). All (λ e. IsRising e.supby × IsRising e.waived) es)
    (all ∙ c.entries-entry-items.ensures.same) c.loop-entry.invariant
