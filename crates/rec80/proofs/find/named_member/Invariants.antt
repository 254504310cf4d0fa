use Rattle.std.proofs.Common.{◌≡◌, List, length}
use Rattle.terms.specs.Words.{Word, HasMembers}
use Rattle.terms.specs.Operands.{operand}
use Rattle.rec80.specs.Cursors.{text_of}
use Rattle.rec80.specs.Lists.{LeavesMembers, members_text}
use Rattle.rec80.proofs.find.named_member.Given as goal

abbrev pub invariant-loop-member : goal.invariant-loop-member
invariant-loop-member l = (ms : List Word) → HasMembers (text_of l.list) ms
    → (more : List Word) × LeavesMembers l.left more × (operand l.name ms ≡ operand l.name more)

abbrev pub decreases-loop-member : goal.decreases-loop-member
decreases-loop-member l = length (members_text l.left)
