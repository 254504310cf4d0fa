use Rattle.std.proofs.Common.{◌++◌, ◌∙◌, ap, arith, sym, take_all}
use Rattle.std.specs.List.{flat_map}
use Rattle.std.proofs.lemmas.List.Folds.{flat_map-map}
use Rattle.smpe_summary.specs.Text.{taken_line}
use Rattle.smpe_summary.specs.Views.{taken_view}
use Rattle.smpe_summary.proofs.Growing.{grown_more}
use Rattle.smpe_summary.proofs.text.append_taken_lines.Goals as goal

pub loop-taken-preserved : goal.loop-taken-preserved
loop-taken-preserved c =
    grown_more (λ x. taken_line (taken_view x)) c.args.taken_off.now c.loop-taken.taken-index c.taken-item.result
    c.args.text.now.items c.loop-taken.text.items c.append_taken.new.text.items (omega arith) c.taken-item.is
    c.loop-taken.invariant
    c.in_ok-append_taken.ensures

pub returns : goal.returns
returns c =
    c.loop-taken.invariant
    ∙ ap (λ l. c.args.text.now.items ++ flat_map (λ x. taken_line (taken_view x)) l)
    (take_all c.loop-taken.taken-index c.args.taken_off.now (omega arith))
    ∙ ap (λ l. c.args.text.now.items ++ l) (sym (flat_map-map (taken_line) taken_view c.args.taken_off.now))
