use Rattle.std.proofs.Common.{◌∙◌, [], ap, arith, map, subst, sym, take_all, Contains}
use Rattle.std.specs.List.{flat_map}
use Rattle.terms.specs.Lookups.{IsRising}
use Rattle.report.specs.Facts.{NeededFact}
use Rattle.why_facts.specs.Needed.{needing}
use Rattle.report.proofs.Texts.{grown_more}
use Rattle.why_facts.proofs.needed.needed_facts.Goals as goal

pub loop-pair-preserved : goal.loop-pair-preserved
loop-pair-preserved c =
    grown_more (needing c.args.id) c.args.pairs.now c.loop-pair.pair-index c.pair-item.result [] c.loop-pair.found.items
    c.push_needing.new.found.items (omega arith) c.pair-item.is c.loop-pair.invariant c.in_ok-push_needing.ensures

pub returns : goal.returns
returns c = λ g zone all.
    let ids = c.from_vec-needing.result in
    let found = c.loop-pair.invariant ∙ ap (flat_map (needing c.args.id))
    (take_all c.loop-pair.pair-index c.args.pairs.now (omega arith)) in
    record {
      ids = ids;
      rising = subst (λ l. IsRising l) c.as_slice-by-items.ensures.items c.as_slice-by-items.ensures.rising;
      needed = λ y. (
        λ h. (all c.args.id y).0 (subst (λ l. Contains l y) found ((c.from_vec-needing.ensures.members y).0 h)),
        λ n. (c.from_vec-needing.ensures.members y).1 (subst (λ l. Contains l y) (sym found) ((all c.args.id y).1 n)),
      );
      facts_are = c.loop-by.invariant ∙ ap (map NeededFact)
          (take_all c.loop-by.by-index c.as_slice-by-items.result.now (omega arith)
          ∙ c.as_slice-by-items.ensures.items);
    }
