use Rattle.std.proofs.Common.{◌≡◌, ◌++◌, filter}
use Rattle.terms.specs.Lookups.{is_in}
use Rattle.terms.specs.Deleted.{deletions}
use Rattle.sysmods.specs.Choices.{choice}
use Rattle.zones.proofs.deleting.chain_deletions.Given as goal

-- what the candidates of the chain so far delete
abbrev pub invariant-loop-above : goal.invariant-loop-above
invariant-loop-above l =
    (l.dels.items ≡ deletions (choice l.vers) (filter (is_in l.candidates) l.yielded))
    × (l.yielded ++ l.above-iterator ≡ l.initial.above-iterator)
