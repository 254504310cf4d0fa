use Rattle.std.proofs.Common.{◌∙◌, IsTrue, true≢false, sym}
use Rattle.smpe_command.proofs.SetZones.{only_undefined}
use Rattle.smpe_command.proofs.careful.zone_if_undefined.Goals as goal

pub returns-else-is_defined-clause-some : goal.returns-else-is_defined-clause-some
returns-else-is_defined-clause-some c = only_undefined c.args.names.now c.args.zone (λ is.
    let yes : IsTrue c.is_defined.result = c.is_defined.ensures.1 is in
    true≢false (sym yes ∙ c.if-is_defined.false))
