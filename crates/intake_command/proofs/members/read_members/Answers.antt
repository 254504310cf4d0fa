use Rattle.intake_command.proofs.Doing.{quiet, quiet_idle}
use Rattle.intake_command.proofs.members.read_members.Goals as goal

pub loop-element-init : goal.loop-element-init
loop-element-init g c = quiet_idle g.H.IntakeHost _

pub loop-element-preserved : goal.loop-element-preserved
loop-element-preserved g c = quiet g.H.IntakeHost c.loop-element.invariant c.in_ok-file.ensures

pub returns-in_err-file : goal.returns-in_err-file
returns-in_err-file g c = quiet g.H.IntakeHost c.loop-element.invariant c.in_err-file.ensures

pub returns-in_err-append_member : goal.returns-in_err-append_member
returns-in_err-append_member g c = quiet g.H.IntakeHost c.loop-element.invariant c.in_ok-file.ensures

pub returns : goal.returns
returns g c = c.loop-element.invariant
