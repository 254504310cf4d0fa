use Rattle.std.proofs.Common.{◌≤◌, ◌+◌, length, arith}
use Rattle.rec80.proofs.Commanding.{StandsBehind, in_records, later_within, takes_command, cut_fault}
use Rattle.rec80.proofs.commands.Commands.next_command.Goals.{Else-is_end}
use Rattle.rec80.proofs.commands.Commands.next_command.Goals as goal

stands : (c : Else-is_end) → StandsBehind c.args.self.now.rest.now c.in-Some.first c.skip_gaps-from.result
stands c = record {
  text_is = c.in-Some.ensures.text;
  inside = c.in-Some.ensures.place;
  skips = c.skip_gaps-from.ensures.gaps;
  ahead = c.skip_gaps-from.ensures.ahead;
  more = c.is_end.ensures.more c.if-is_end.false;
}

within : (c : Else-is_end) → length c.skip_gaps-from.result.later.now + 1 ≤ length c.args.self.now.rest.now
within c =
    in_records c.args.self.now.rest.now c.in-Some.first c.skip_gaps-from.result c.in-Some.ensures.place
    c.skip_gaps-from.ensures.ahead

pub overflow_sub-number : goal.overflow_sub-number
overflow_sub-number c = omega (arith, within (goal.at.overflow_sub-number c).Else-is_end)

pub overflow_sub-number-2 : goal.overflow_sub-number-2
overflow_sub-number-2 c = omega (arith, within (goal.at.overflow_sub-number-2 c).Else-is_end)

pub returns-in-Err-clause-fault : goal.returns-in-Err-clause-fault
returns-in-Err-clause-fault c =
    cut_fault c.args.self.now.number c.args.self.now.rest.now c.in-Some.first c.skip_gaps-from.result c.in-Err.why
    (stands (goal.at.returns-in-Err-clause-fault c).Else-is_end) c.in-Err.ensures.fault

pub overflow_sub-self : goal.overflow_sub-self
overflow_sub-self c =
    let e = c.in-Ok.ensures.ok in
    later_within c.args.self.now.rest.now c.in-Some.first c.skip_gaps-from.result e.0 e.1 c.in-Ok.later.now
    (stands (goal.at.overflow_sub-self c).Else-is_end) e.2

pub invariant_of-self : goal.invariant_of-self
invariant_of-self c =
    let e = c.in-Ok.ensures.ok in
    let within = later_within c.args.self.now.rest.now c.in-Some.first c.skip_gaps-from.result e.0 e.1
    c.in-Ok.later.now (stands (goal.at.invariant_of-self c).Else-is_end) e.2 in
    let room = c.args.self.now.room in
    record { room = omega (arith, within, room) }

pub returns-clause-command : goal.returns-clause-command
returns-clause-command c =
    let e = c.in-Ok.ensures.ok in
    takes_command c.args.self.now.number c.args.self.now.rest.now c.in-Some.first c.skip_gaps-from.result e.0 e.1
    c.in-Ok.later.now (stands (goal.at.returns-clause-command c).Else-is_end) e.2 e.3
