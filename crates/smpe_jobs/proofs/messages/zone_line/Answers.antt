use Rattle.std.proofs.Common.{sym, subst}
use Rattle.report.specs.Sent.{Sent}
use Rattle.smpe_jobs.specs.Ending.{answer_of}
use Rattle.smpe_jobs.specs.Messages.{zone_text}
use Rattle.smpe_jobs.proofs.messages.zone_line.Goals as goal

pub returns-in-Refused-clause-sends : goal.returns-in-Refused-clause-sends
returns-in-Refused-clause-sends g c =
    subst (λ a. Sent g.W.Sink c.args.w.now c.write_zone_refused.new.w (zone_text c.args.name (answer_of a)))
    (sym c.in-Refused.is) c.write_zone_refused.ensures.sends
