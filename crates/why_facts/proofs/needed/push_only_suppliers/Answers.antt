use Rattle.std.proofs.Common.{◌++◌, ◌∙◌, ap, arith, take_all}
use Rattle.std.specs.List.{flat_map}
use Rattle.undo.specs.Dependences.{suppliers}
use Rattle.why_facts.specs.Needed.{sole}
use Rattle.report.proofs.Texts.{grown_more}
use Rattle.why_facts.proofs.needed.push_only_suppliers.Goals as goal

pub loop-requisite-preserved : goal.loop-requisite-preserved
loop-requisite-preserved c =
    grown_more (λ z. sole (suppliers c.args.zone.now z)) c.args.requisites.now c.loop-requisite.requisite-index
    c.requisite-item.result c.args.found.now.items c.loop-requisite.found.items c.push_only_supplier.new.found.items
    (omega arith) c.requisite-item.is c.loop-requisite.invariant c.in_ok-push_only_supplier.ensures

pub returns : goal.returns
returns c =
    c.loop-requisite.invariant
    ∙ ap (λ l. c.args.found.now.items ++ flat_map (λ z. sole (suppliers c.args.zone.now z)) l)
    (take_all c.loop-requisite.requisite-index c.args.requisites.now (omega arith))
