use Rattle.std.proofs.Common.{inr}
use Rattle.smpe_command.proofs.packages.tell_document.Goals as goal

pub returns : goal.returns
returns g c = inr (c.in_ok-answer.answer, c.in_ok-answer.ensures, c.write_answer.ensures)
