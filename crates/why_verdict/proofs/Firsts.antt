-- The first fact that says what becomes of a need.
use Rattle.std.proofs.Common.{◌≡◌, ◌∙◌, ◌<◌, ◌+◌, ℕ, List, ◌∷◌, length, map, drop, get_or, sym, ap, add-one, drop-cons}
use Rattle.terms.specs.declared.codes.NeedKind.{NeedKind}
use Rattle.terms.specs.Types.{Id}
use Rattle.report.specs.declared.fact.Fact.{Fact}
use Rattle.why_verdict.specs.Verdict.{answered, first_answer, or_other}
use Rattle.report.specs.FactViews.{fact_view}

-- that of those from a place on
pub first_at : (kind : NeedKind) (z : Id) (facts : List Fact) (i : ℕ) (d : Fact) → i < length facts
    → first_answer kind z (map fact_view (drop i facts))
    ≡ or_other (answered kind z (fact_view (get_or facts i d))) (first_answer kind z (map fact_view (drop (i + 1)
    facts)))
first_at kind z facts i d below =
    ap (λ fs. first_answer kind z (map fact_view fs))
    (drop-cons facts i d below ∙ ap (λ k. get_or facts i d ∷ drop k facts) (sym (add-one i)))
