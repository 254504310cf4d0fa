use Rattle.std.proofs.Common.{refl}
use Rattle.mcs.proofs.Changing.{not_numbered}
use Rattle.mcs.proofs.change.read_replacement_text.Goals as goal

pub returns-in-Err-clause-bad : goal.returns-in-Err-clause-bad
returns-in-Err-clause-bad c = (
  refl,
  λ r. not_numbered c.args.elem_type c.args.inline.now c.in_ok-lines.lines.items c.in-Err.field-0
      (c.is_numbered.ensures.0 c.if-not-is_numbered.false) c.in_ok-lines.ensures c.in-Err.ensures.fault r,
)
