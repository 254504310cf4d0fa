use Rattle.std.proofs.Common.{sym}
use Rattle.smpe_answer.proofs.mended.mend_answer.Goals as goal

pub returns : goal.returns
returns c = rw (c.in-Some.is, sym c.as_ref.ensures.value) c.mend_in_zone.ensures
