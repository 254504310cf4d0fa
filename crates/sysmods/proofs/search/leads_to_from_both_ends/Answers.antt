use Rattle.std.proofs.Common.{◌∙◌, sym, refl, inl, inr, arith}
use Rattle.sysmods.proofs.Going.{search_start, both_met, both_tell}
use Rattle.sysmods.proofs.search.leads_to_from_both_ends.Goals as goal
use Rattle.sysmods.proofs.search.leads_to_from_both_ends.Goals.{then-loop-i-test+else-j-len, else-loop-i-test}

pub loop-i-init : goal.loop-i-init
loop-i-init g c =
    let e = c.new-ahead.ensures.empty in
    let f = c.new-behind.ensures.empty in
    record {
      ahead = search_start _ _ _ (rw e at c.in_ok-see_named.ensures);
      behind = search_start _ _ _ (rw f at c.in_ok-see_named-2.ensures);
    }

pub returns-then-either_has_arrived : goal.returns-then-either_has_arrived
returns-then-either_has_arrived g c = (
  λ met. both_met _ _ c.requires _ _ _ _ _ _ c.loop-i.invariant.ahead c.loop-i.invariant.behind
      (sym c.either_has_arrived.ensures ∙ c.if-either_has_arrived.true),
  λ reached. refl,
)

pub returns : goal.returns
returns g c =
    rw c.either_has_arrived-2.ensures (both_tell _ _ c.requires _ _ _ _ _ _ c.loop-i.invariant.ahead
    c.loop-i.invariant.behind
    (elim c.loop-i-test.branch [
      | then-loop-i-test+else-j-len w ↦ inr (omega arith)
      | else-loop-i-test w ↦ inl
          (omega arith)
    ]))
