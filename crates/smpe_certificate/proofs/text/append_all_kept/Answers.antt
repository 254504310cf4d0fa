use Rattle.std.proofs.Common.{◌++◌, ◌∙◌, ap, arith, take_all}
use Rattle.std.specs.List.{flat_map}
use Rattle.smpe_certificate.specs.Text.{kept_line}
use Rattle.report.proofs.Texts.{flat_more}
use Rattle.smpe_certificate.proofs.text.append_all_kept.Goals as goal

pub loop-id-preserved : goal.loop-id-preserved
loop-id-preserved c =
    flat_more kept_line c.args.ids.now c.loop-id.id-index c.id-item.result
    c.args.text.now.items c.loop-id.text.items c.append_kept.new.text.items (omega arith) c.id-item.is
    c.loop-id.invariant
    c.in_ok-append_kept.ensures

pub returns : goal.returns
returns c =
    c.loop-id.invariant
    ∙ ap (λ l. c.args.text.now.items ++ flat_map kept_line l)
    (take_all c.loop-id.id-index c.args.ids.now (omega arith))
