use Rattle.std.proofs.Common.{◌≡◌, ◌++◌, map, take}
use Rattle.terms.specs.Lookups.{is_in}
use Rattle.terms.specs.Over.{chain}
use Rattle.zones.specs.Scopes.{global_of, choice_of}
use Rattle.report.specs.Facts.{DeleteFact, TakesFact}
use Rattle.report.specs.FactViews.{fact_view}
use Rattle.why_facts.proofs.deletes.delete_facts.Given as goal

abbrev pub invariant-loop-del : goal.invariant-loop-del
invariant-loop-del l =
    map fact_view l.facts.items
    ≡ map (λ z. DeleteFact z (is_in (chain (global_of l.asking.scope) (choice_of l.asking.scope) l.asking.id) z))
    (take l.del-index l.dels)

abbrev pub invariant-loop-id : goal.invariant-loop-id
invariant-loop-id l =
    map fact_view l.facts.items ≡ map fact_view l.initial.facts.items ++ map TakesFact (take l.id-index l.id-items)
