use Rattle.std.proofs.Common.{◌∙◌}
use Rattle.std.proofs.lemmas.Result.{IfOk-equal}
use Rattle.smpe_verify.proofs.Joining.{counts_told}
use Rattle.smpe_verify.proofs.told.append_counts.Goals as goal

pub returns : goal.returns
returns c =
    let counts = c.args.counts in
    IfOk-equal c.append_line.result c.append_line.new.text.items _ _ c.append_line.ensures
    (counts_told c.args.text.now.items counts.sysmods counts.zones counts.entries counts.elements
    (c.as_bytes.ensures.value ∙ c.format.ensures.text)
    (c.as_bytes-2.ensures.value ∙ c.format-2.ensures.text) (c.as_bytes-3.ensures.value ∙ c.format-3.ensures.text)
    (c.as_bytes-4.ensures.value ∙ c.format-4.ensures.text))
