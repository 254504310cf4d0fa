use Rattle.std.proofs.Common.{◌≡◌, ℕ, length, drop}
use Rattle.std.specs.List.{Contains}
use Rattle.smpe_certificate.specs.Search.{IsSearch, HasDue}
use Rattle.smpe_certificate.proofs.elimination.settle_row.Given as goal

abbrev pub invariant-loop-place : goal.invariant-loop-place
invariant-loop-place l = record {
  size : length l.standing ≡ l.system.size;
  settled : (followed : ℕ) → HasDue l.system l.row followed l.initial.standing l.initial.dropped.items
      → IsSearch l.system (Contains (drop l.place-index l.row)) followed l.standing l.dropped.items;
}
