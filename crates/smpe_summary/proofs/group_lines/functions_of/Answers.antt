use Rattle.std.proofs.Common.{◌∙◌, [], ap, arith, take_all}
use Rattle.std.specs.List.{flat_map}
use Rattle.smpe_summary.specs.Groups.{function_of}
use Rattle.smpe_summary.proofs.Growing.{grown_more}
use Rattle.smpe_summary.proofs.group_lines.functions_of.Goals as goal

pub loop-member-preserved : goal.loop-member-preserved
loop-member-preserved c =
    grown_more (λ m. function_of m.group) c.args.members.now c.loop-member.member-index c.member-item.result []
    c.loop-member.functions.items c.push_function.new.functions.items (omega arith) c.member-item.is c.loop-member.invariant
    c.in_ok-push_function.ensures

pub returns : goal.returns
returns c =
    c.loop-member.invariant ∙ ap (flat_map (λ m. function_of m.group)) (take_all c.loop-member.member-index c.args.members.now (omega arith))
