use Rattle.std.proofs.Common.{◌≡◌, [], length}
use Rattle.std.specs.Vec.Iter.{into_iter_items, into_iter_len}
use Rattle.terms.specs.Types.{Global, a_global}
use Rattle.smpe_lint.specs.Linted.{ReceivesEach}
use Rattle.smpe_lint.proofs.receiving.receive_all.Given as goal

-- If nothing is refused so far, what becomes of the rest becomes of all.
abbrev pub invariant-loop-item : goal.invariant-loop-item
invariant-loop-item l = record {
  into : (h : Global) → l.received.refused.items ≡ []
      → ReceivesEach l.received.global (into_iter_items l.item-iterator) h
      → ReceivesEach (a_global [] []) (into_iter_items l.initial.item-iterator) h;
  rest : into_iter_len l.item-iterator ≡ length (into_iter_items l.item-iterator);
}
