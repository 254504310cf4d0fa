use Rattle.std.proofs.Common.{◌≡◌, List, ◌++◌, map, length}
use Rattle.std.specs.Prelude.{All}
use Rattle.terms.specs.Words.{Word, HasMembers, plain}
use Rattle.rec80.specs.Cursors.{text_of}
use Rattle.rec80.specs.Lists.{LeavesMembers, members_text}
use Rattle.rec80.proofs.operand_members.read_members.Given as goal

abbrev pub invariant-loop-read : goal.invariant-loop-read
invariant-loop-read g l = record {
  before : (ms : List Word) → LeavesMembers l.members ms → HasMembers (text_of l.list)
      (map plain (map g.T.Member.text l.read.items) ++ ms);
  only : (ms : List Word) → HasMembers (text_of l.list) ms → (rest : List Word)
      × (ms ≡ map plain (map g.T.Member.text l.read.items) ++ rest) × LeavesMembers l.members rest;
  forms : All g.T.Member.form (map g.T.Member.text l.read.items);
}

abbrev pub decreases-loop-read : goal.decreases-loop-read
decreases-loop-read g l = length (members_text l.members)
