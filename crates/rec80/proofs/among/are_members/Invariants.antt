use Rattle.std.proofs.Common.{List, ◌++◌, map, length}
use Rattle.terms.specs.Words.{Word, HasMembers}
use Rattle.rec80.specs.Cursors.{text_of}
use Rattle.rec80.specs.Lists.{LeavesMembers, members_text}
use Rattle.rec80.specs.Left.{AreNamed}
use Rattle.rec80.proofs.among.are_members.Given as goal

abbrev pub invariant-loop-found : goal.invariant-loop-found
invariant-loop-found l = record {
  named : (before : List Word) × ((ms : List Word) → LeavesMembers l.left ms
      → HasMembers (text_of l.list) (before ++ ms)) × AreNamed (map (λ name. name.now) l.names) before;
  only : (ms : List Word) → HasMembers (text_of l.list) ms → AreNamed (map (λ name. name.now) l.names) ms
      → (more : List Word) × LeavesMembers l.left more × AreNamed (map (λ name. name.now) l.names) more;
}

abbrev pub decreases-loop-found : goal.decreases-loop-found
decreases-loop-found l = length (members_text l.left)
