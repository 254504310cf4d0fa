use Rattle.std.proofs.Common.{◌≡◌, filter, map, take}
use Rattle.std.specs.Str.{bytes_eq}
use Rattle.why_facts.specs.Numbered.{numbered}
use Rattle.report.specs.FactViews.{fact_view}
use Rattle.why_facts.proofs.vers.ver_facts.Given as goal

abbrev pub invariant-loop-ver : goal.invariant-loop-ver
invariant-loop-ver l =
    map fact_view l.facts.items
    ≡ numbered l.scope l.id (filter (λ v. bytes_eq v.srel l.scope.zone.now.srel) (take l.ver-index l.ver-items))
