use Rattle.std.proofs.Common.{◌++◌, ◌∙◌, ap, arith, take_all}
use Rattle.std.specs.List.{flat_map}
use Rattle.why_verdict.specs.Verdict.{causer_told}
use Rattle.report.proofs.Texts.{flat_more}
use Rattle.why_verdict.proofs.verdict.append_causers.Goals as goal

pub loop-causer-preserved : goal.loop-causer-preserved
loop-causer-preserved c =
    flat_more (causer_told c.args.id) c.args.causers.now c.loop-causer.causer-index c.causer-item.result
    c.args.text.now.items
    c.loop-causer.text.items c.append_causer.new.text.items (omega arith) c.causer-item.is c.loop-causer.invariant
    c.in_ok-append_causer.ensures

pub returns : goal.returns
returns c =
    c.loop-causer.invariant
    ∙ ap (λ l. c.args.text.now.items ++ flat_map (causer_told c.args.id) l)
    (take_all c.loop-causer.causer-index c.args.causers.now (omega arith))
