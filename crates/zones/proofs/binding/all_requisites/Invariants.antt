use Rattle.std.proofs.Common.{◌≡◌, ◌++◌, take}
use Rattle.zones.specs.Gone.{by_ifs}
use Rattle.zones.proofs.binding.all_requisites.Given as goal

abbrev pub invariant-loop-condition : goal.invariant-loop-condition
invariant-loop-condition l = l.asked.items
    ≡ l.ver.pre ++ l.ver.req ++ by_ifs l.left (take l.condition-index l.condition-items)
