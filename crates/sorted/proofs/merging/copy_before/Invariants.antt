use Rattle.std.proofs.Common.{◌≡◌, ◌++◌, length}
use Rattle.terms.specs.Rising.{Rises, before, behind}
use Rattle.sorted.proofs.merging.copy_before.Given as goal

-- what is copied so far, and what is left
abbrev pub invariant-loop-first : goal.invariant-loop-first
invariant-loop-first g l = record {
  copied : l.new.items ++ before g.T.Key.Ord.cmp g.T.Keyed.key_of l.key l.rest
      ≡ l.initial.new.items ++ before g.T.Key.Ord.cmp g.T.Keyed.key_of l.key l.items;
  kept : behind g.T.Key.Ord.cmp g.T.Keyed.key_of l.key l.rest
      ≡ behind g.T.Key.Ord.cmp g.T.Keyed.key_of l.key l.items;
  rises : Rises g.T.Key.Ord.cmp g.T.Keyed.key_of l.rest;
}

abbrev pub decreases-loop-first : goal.decreases-loop-first
decreases-loop-first g l = length l.rest
