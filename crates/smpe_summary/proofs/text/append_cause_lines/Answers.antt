use Rattle.std.proofs.Common.{◌++◌, ◌∙◌, ap, arith, sym, take_all}
use Rattle.std.specs.List.{flat_map}
use Rattle.std.proofs.lemmas.List.Folds.{flat_map-map}
use Rattle.smpe_summary.specs.Text.{cause_line}
use Rattle.smpe_summary.specs.Views.{cause_view}
use Rattle.smpe_summary.proofs.Growing.{grown_more}
use Rattle.smpe_summary.proofs.text.append_cause_lines.Goals as goal

pub loop-cause-preserved : goal.loop-cause-preserved
loop-cause-preserved c =
    grown_more (λ x. cause_line (cause_view x)) c.args.causes.now c.loop-cause.cause-index c.cause-item.result
    c.args.text.now.items c.loop-cause.text.items c.append_cause.new.text.items (omega arith) c.cause-item.is
    c.loop-cause.invariant
    c.in_ok-append_cause.ensures

pub returns : goal.returns
returns c =
    c.loop-cause.invariant
    ∙ ap (λ l. c.args.text.now.items ++ flat_map (λ x. cause_line (cause_view x)) l)
    (take_all c.loop-cause.cause-index c.args.causes.now (omega arith))
    ∙ ap (λ l. c.args.text.now.items ++ l) (sym (flat_map-map (cause_line) cause_view c.args.causes.now))
