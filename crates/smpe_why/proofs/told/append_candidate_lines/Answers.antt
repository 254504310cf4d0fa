use Rattle.std.proofs.Common.{◌≡◌, ◌∙◌, ◌++◌, ap, ap₂, map, refl, append_assoc}
use Rattle.std.specs.Prelude.{max}
use Rattle.std.proofs.lemmas.Result.{IfOk-weaker}
use Rattle.report.specs.Views.{line_view}
use Rattle.report.specs.FactViews.{fact_view, facts_view}
use Rattle.why_facts.specs.FactText.{facts_text, facts_code}
use Rattle.why_verdict.specs.Verdict.{verdict_text}
use Rattle.smpe_why.proofs.told.append_candidate_lines.Goals as goal

pub returns : goal.returns
returns c =
    let x = c.args.id in
    let old = c.args.answer.now.text.items in
    let bypass = c.args.scope.now.bypass.now in
    let facts = facts_view c.in_ok-facts.facts.items in
    let conflicts = c.in_ok-conflicts.conflicts.items in
    let lines = map line_view c.args.lines.now in
    let same : map fact_view c.as_slice.result.now ≡ facts = ap (map fact_view) c.as_slice.ensures.value in
    IfOk-weaker c.append_verdict.result _ _ (λ done put. (
      facts_text facts
          ++ verdict_text x (record { bypass = bypass; facts = facts; conflicts = conflicts; lines = lines }),
      facts_code facts,
      record {
        facts = facts;
        are = c.in_ok-facts.ensures;
        conflicts = conflicts;
        are_conflicts = c.in_ok-conflicts.ensures;
        text_is = refl;
        code_is = refl;
      },
      put
          ∙ ap (λ t. t ++ verdict_text x (record {
            bypass = bypass;
            facts = map fact_view c.as_slice.result.now;
            conflicts = c.as_slice-2.result.now;
            lines = lines;
          })) c.in_ok-append_facts.ensures
          ∙ append_assoc old _ _
          ∙ ap₂ (λ fs cs. old ++ (facts_text fs ++ verdict_text x (record {
            bypass = bypass;
            facts = fs;
            conflicts = cs;
            lines = lines;
          }))) same c.as_slice-2.ensures.value,
      c.max-answer.ensures ∙ ap (max c.args.answer.now.status) (c.facts_code.ensures ∙ ap facts_code same),
    )) c.append_verdict.ensures
