use Rattle.std.proofs.Common.{◌++◌, ◌∙◌, ap, append_assoc, append-nil, sym}
use Rattle.std.specs.List.{flat_map}
use Rattle.why_verdict.specs.Verdict.{test_told}
use Rattle.why_verdict.specs.VerdictFacts.{basis_of}
use Rattle.why_verdict.proofs.verdict.append_tests.Goals as goal

pub loop-test-init : goal.loop-test-init
loop-test-init c =
    ap (λ l. c.args.text.now.items ++ flat_map (test_told (basis_of c.args.verdict_facts.now)) l)
    (c.into_iter-test-iterator.ensures.into_iter_gives ∙ c.iter-test-items.ensures)

pub loop-test-preserved : goal.loop-test-preserved
loop-test-preserved c =
    let told = test_told (basis_of c.args.verdict_facts.now) in
    let old = c.loop-test.text.items in
    let test = c.in-Some.test in
    let rest = c.next.new.self in
    ap (λ t. t ++ flat_map told rest) c.in_ok-append_failed_test.ensures
    ∙ append_assoc old (told test) (flat_map told rest)
    ∙ ap (λ l. old ++ flat_map told l) (sym c.in-Some.ensures.steps) ∙ c.loop-test.invariant

pub returns : goal.returns
returns c =
    let told = test_told (basis_of c.args.verdict_facts.now) in
    let text = c.loop-test.text.items in
    sym (append-nil text) ∙ ap (λ l. text ++ flat_map told l) (sym c.in-None.ensures.steps.0) ∙ c.loop-test.invariant
