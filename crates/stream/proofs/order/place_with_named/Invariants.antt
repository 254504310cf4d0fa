use Rattle.std.proofs.Common.{◌≡◌, ◌+◌, ◌*◌, ◌++◌, Contains, length}
use Rattle.terms.specs.Types.{Id}
use Rattle.sysmods.specs.Choices.{choice}
use Rattle.stream.specs.Ordering.{IsPlacing}
use Rattle.stream.proofs.order.place_with_named.Given as goal

-- Each turn puts an id on the path or gives one its place.
abbrev pub invariant-loop-turn : goal.invariant-loop-turn
invariant-loop-turn l = record {
  placing : IsPlacing (choice l.vers) l.placed.keys l.path.items;
  count : 2 * length l.placed.keys + length l.path.items ≡ 2 * length l.initial.placed.keys + 1 + l._turn;
  kept : (x : Id) → Contains l.initial.placed.keys x → Contains l.placed.keys x;
  all : Contains (l.placed.keys ++ l.path.items) l.fn.id;
}
