use Rattle.std.proofs.Common.{arith}
use Rattle.terms.proofs.BesideLists.{beside_through}
use Rattle.smpe_why.proofs.Parts.{told_none, told_more}
use Rattle.smpe_why.proofs.told.describe_ids.Goals as goal

pub loop-id-init : goal.loop-id-init
loop-id-init c = told_none _ _ c.new.ensures.items

pub loop-id-preserved : goal.loop-id-preserved
loop-id-preserved c =
    let it = c.in_ok-append_id_lines.ensures in
    told_more _ c.args.ids.now c.loop-id.id-index c.id-item.result _ _ it.0 _ _ it.1 (omega arith) c.id-item.is
    c.loop-id.invariant it.2 it.3 it.4

pub returns : goal.returns
returns c =
    let all = c.loop-id.invariant in
    record {
      parts = all.parts;
      each = beside_through _ c.args.ids.now all.parts c.loop-id.id-index (omega arith) all.each;
      text_is = all.text_is;
      code_is = all.code_is;
    }
