use Rattle.std.proofs.Common.{◌≡◌, ◌++◌, take}
use Rattle.std.specs.Prelude.{codes}
use Rattle.std.specs.List.{flat_map}
use Rattle.why_facts.specs.FactText.{maker_line}
use Rattle.report.specs.FactViews.{maker_view}
use Rattle.why_facts.proofs.element_lines.append_element.Given as goal

abbrev pub invariant-loop-umid : goal.invariant-loop-umid
invariant-loop-umid l =
    l.text.items ≡ l.initial.text.items
    ++ flat_map (λ m. maker_line (codes "UMID") (maker_view m)) (take l.umid-index l.umid-items)
