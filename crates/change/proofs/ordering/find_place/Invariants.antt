use Rattle.std.proofs.Common.{◌≡◌, ◌≤◌, ◌<◌, ◌-◌, All, drop, get_or, length}
use Rattle.sysmods.specs.Choices.{choice}
use Rattle.terms.specs.Over.{IsOver}
use Rattle.change.proofs.ordering.find_place.Given as goal

-- the id is over the one before the low place, and over none of those from the high place on
abbrev pub invariant-loop-low : goal.invariant-loop-low
invariant-loop-low l = record {
  overs : l.overs ≡ l.initial.overs;
  bounds : l.low ≤ l.high;
  within : l.high ≤ length l.ordered;
  least : l.low ≤ l.middle;
  most : l.low < l.high → l.middle < l.high;
  front : 0 < l.low → IsOver (choice l.initial.overs) l.id (get_or l.ordered (l.low - 1) l.id);
  back : All (λ x. ¬ IsOver (choice l.initial.overs) l.id x) (drop l.high l.ordered);
}

abbrev pub decreases-loop-low : goal.decreases-loop-low
decreases-loop-low l = l.high - l.low
