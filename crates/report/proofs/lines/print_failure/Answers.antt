use Rattle.std.proofs.Common.{◌∷◌, [], ◌++◌, ◌∙◌, ℕ, List, ap, ap₂, sym, take, take_all}
use Rattle.std.specs.Prelude.{codes}
use Rattle.std.specs.List.{flat_map}
use Rattle.std.proofs.lemmas.List.Folds.{flat_map-map}
use Rattle.terms.specs.declared.codes.Test.{Test}
use Rattle.terms.specs.Spelling.{test_text, need_text}
use Rattle.machine.specs.Outcome.{OpenNeed}
use Rattle.machine.specs.Report.{detail_line, failure_text}
use Rattle.judge_system.specs.TestSets.{tests_of}
use Rattle.judge_system.specs.Views.{need_view, failure_view}
use Rattle.report.proofs.Paging.{paged_then, paged_as}
use Rattle.report.proofs.Texts.{flat_map_more}
use Rattle.report.proofs.lines.print_failure.Goals as goal

pub loop-need-preserved : goal.loop-need-preserved
loop-need-preserved g c =
    let needs = c.as_slice-need-items.result.now in
    paged_as _ _ _ _ _ _
    (rw (c.need_text.ensures, c.as_bytes.ensures.same)
    (ap (λ n. flat_map (λ n. detail_line (codes "NEED" ∷ need_text n.kind ∷ n.id ∷ []))
    (take c.loop-need.need-index needs) ++ detail_line (codes "NEED" ∷ need_text n.kind ∷ n.id ∷ [])) c.need-item.is
    ∙ flat_map_more (λ n. detail_line (codes "NEED" ∷ need_text n.kind ∷ n.id ∷ [])) needs c.loop-need.need-index
    c.need-item.result c.loop-need-test.true))
    (paged_then _ _ _ _ _ _ _ _ c.loop-need.invariant c.print_words.ensures.paged)

pub loop-causer-preserved : goal.loop-causer-preserved
loop-causer-preserved g c =
    let causers = c.as_slice-causer-items.result.now in
    paged_as _ _ _ _ _ _
    (ap (λ t. flat_map (λ id. detail_line (codes "CAUSER" ∷ id ∷ [])) (take c.loop-causer.causer-index causers)
    ++ detail_line (codes "CAUSER" ∷ t ∷ [])) (c.as_bytes-in-loop-causer.ensures.same ∙ c.causer-item.is)
    ∙ flat_map_more (λ id. detail_line (codes "CAUSER" ∷ id ∷ [])) causers c.loop-causer.causer-index
    c.causer-item.result c.loop-causer-test.true)
    (paged_then _ _ _ _ _ _ _ _ c.loop-causer.invariant c.print_words-in-loop-causer.ensures.paged)

abbrev told : Test → List ℕ
told t = detail_line (codes "TEST" ∷ test_text t ∷ [])

abbrev needed : OpenNeed → List ℕ
needed n = detail_line (codes "NEED" ∷ need_text n.kind ∷ n.id ∷ [])

abbrev caused : List ℕ → List ℕ
caused id = detail_line (codes "CAUSER" ∷ id ∷ [])

pub returns : goal.returns
returns g c =
    let f = c.args.failure.now in
    paged_as _ _ _ _ _ (failure_text (failure_view f))
    (ap₂ (λ needs causers. (flat_map told (tests_of f.tests) ++ needs) ++ causers)
    (ap (flat_map (λ n. needed (need_view n)))
    (take_all c.loop-need.need-index c.as_slice-need-items.result.now c.loop-need-test.false
    ∙ c.as_slice-need-items.ensures.value)
    ∙ sym (flat_map-map needed need_view f.needs.items))
    (ap (flat_map caused)
    (take_all c.loop-causer.causer-index c.as_slice-causer-items.result.now c.loop-causer-test.false
    ∙ c.as_slice-causer-items.ensures.value)))
    (paged_then _ _ _ _ _ _ _ _
    (paged_then _ _ _ _ _ _ _ _ c.print_tests.ensures c.loop-need.invariant) c.loop-causer.invariant)
