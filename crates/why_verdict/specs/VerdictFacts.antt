-- What a verdict rests on, by the values of the code.
use Rattle.std.specs.Prelude.{map}
use Rattle.report.specs.Views.{line_view}
use Rattle.report.specs.FactViews.{fact_view}
use Rattle.why_verdict.specs.Verdict.{Basis}
use Rattle.why_verdict.specs.declared.verdict_facts.VerdictFacts.{VerdictFacts}

abbrev pub basis_of : VerdictFacts → Basis
basis_of a = record {
  bypass = a.bypass.now;
  facts = map fact_view a.facts.now;
  conflicts = a.conflicts.now;
  lines = map line_view a.lines.now;
}
