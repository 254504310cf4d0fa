use Rattle.std.proofs.Common.{◌≡◌, ◌++◌, take}
use Rattle.std.specs.Prelude.{codes}
use Rattle.std.specs.List.{flat_map}
use Rattle.why_verdict.specs.Verdict.{maker_reason}
use Rattle.report.specs.FactViews.{maker_view}
use Rattle.why_verdict.proofs.reasons.append_makers_reason.Given as goal

abbrev pub invariant-loop-umid : goal.invariant-loop-umid
invariant-loop-umid l =
    l.text.items ≡ l.initial.text.items
    ++ flat_map (λ m. maker_reason l.test l.element.elem_type l.element.name (codes "UMID") (maker_view m))
    (take l.umid-index l.umid-items)
