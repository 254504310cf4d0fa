use Rattle.std.proofs.Common.{◌++◌, ◌∙◌, ap, arith, sym, take_all}
use Rattle.std.specs.List.{flat_map}
use Rattle.std.proofs.lemmas.List.Folds.{flat_map-map}
use Rattle.why_verdict.specs.Verdict.{verdict_told}
use Rattle.why_verdict.specs.VerdictFacts.{basis_of}
use Rattle.report.specs.Views.{line_view}
use Rattle.report.proofs.Texts.{flat_more}
use Rattle.why_verdict.proofs.verdict.append_lines_verdict.Goals as goal

pub loop-line-preserved : goal.loop-line-preserved
loop-line-preserved c =
    flat_more (λ line. verdict_told c.args.id (basis_of c.args.verdict_facts.now) (line_view line)) c.args.lines.now
    c.loop-line.line-index c.line-item.result c.args.text.now.items
    c.loop-line.text.items c.append_line_verdict.new.text.items (omega arith) c.line-item.is c.loop-line.invariant
    c.in_ok-append_line_verdict.ensures

pub returns : goal.returns
returns c =
    c.loop-line.invariant
    ∙ ap (λ l. c.args.text.now.items ++ flat_map (λ line. verdict_told c.args.id (basis_of c.args.verdict_facts.now)
    (line_view line)) l)
    (take_all c.loop-line.line-index c.args.lines.now (omega arith))
    ∙ ap (λ l. c.args.text.now.items ++ l) (sym (flat_map-map (verdict_told c.args.id (basis_of c.args.verdict_facts.now))
    line_view c.args.lines.now))
