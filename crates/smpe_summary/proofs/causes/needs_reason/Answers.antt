use Rattle.std.proofs.Common.{ap}
use Rattle.std.specs.Prelude.{Some, None}
use Rattle.smpe_summary.specs.Causes.{is_unreceived, need_why}
use Rattle.smpe_summary.proofs.FirstNeeds.{found_need}
use Rattle.smpe_summary.proofs.causes.needs_reason.Goals as goal

pub returns-in-Some : goal.returns-in-Some
returns-in-Some c =
    ap need_why (found_need (is_unreceived c.args.global.now) c.args.needs.now (Some c.in-Some.need.now)
    c.in-Some.ensures)

pub returns-in-None : goal.returns-in-None
returns-in-None c = ap need_why (found_need (is_unreceived c.args.global.now) c.args.needs.now None c.in-None.ensures)
