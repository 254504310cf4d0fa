use Rattle.std.proofs.Common.{◌∷◌, [], ◌∙◌, List, ℕ, ap, sym}
use Rattle.std.specs.Prelude.{codes}
use Rattle.std.specs.List.{flat_map}
use Rattle.terms.specs.declared.codes.Test.{Test}
use Rattle.terms.specs.Spelling.{test_text}
use Rattle.machine.specs.Report.{detail_line}
use Rattle.report.proofs.Paging.{paged_as}
use Rattle.report.proofs.UnderWay.{under_way_first, under_way_more, under_way_last}
use Rattle.report.proofs.lines.print_tests.Goals as goal

abbrev told : Test → List ℕ
told t = detail_line (codes "TEST" ∷ test_text t ∷ [])

pub loop-test-init : goal.loop-test-init
loop-test-init g c =
    under_way_first _ _ _ _
    (ap (flat_map told) (sym (c.into_iter-test-iterator.ensures.into_iter_gives ∙ c.iter-test-items.ensures)))

pub loop-test-preserved : goal.loop-test-preserved
loop-test-preserved g c =
    under_way_more _ _ _ _ _ _ _ _ _ _ c.loop-test.invariant (ap (flat_map told) c.in-Some.ensures.steps)
    (paged_as _ _ _ _ _ _ (ap (λ t. detail_line (codes "TEST" ∷ t ∷ [])) c.test_text.ensures) c.print_words.ensures.paged)

pub returns : goal.returns
returns g c = under_way_last _ _ _ _ _ _ c.loop-test.invariant (ap (flat_map told) c.in-None.ensures.steps.0)
