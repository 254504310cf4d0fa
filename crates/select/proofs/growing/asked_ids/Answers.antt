use Rattle.std.proofs.Common.{subst, arith}
use Rattle.terms.proofs.Applied.{AppliedAre, applied_are}
use Rattle.select.specs.Scopes.{Selecting}
use Rattle.select.proofs.Growth.{growth_start, growth_next, growth_end}
use Rattle.select.proofs.growing.asked_ids.Goals as goal

pub loop-searched-init : goal.loop-searched-init
loop-searched-init c =
    growth_start _ (subst (λ (s : Selecting). AppliedAre s.zone) c.scope.view_is (applied_are _ c.attest.ensures))
    c.args.start.now _ c.requires c.in_ok-seen.ensures

pub loop-searched-preserved : goal.loop-searched-preserved
loop-searched-preserved c =
    growth_next _ (subst (λ (s : Selecting). AppliedAre s.zone) c.scope.view_is (applied_are _ c.attest.ensures))
    _ _ _ _ (omega arith) (rw c.as_slice.ensures.keys at c.index-as_slice-searched.is) c.in_ok-insert_next_asked.ensures
    c.loop-searched.invariant

pub returns : goal.returns
returns c = growth_end _ _ c.loop-searched.searched (omega arith) c.loop-searched.invariant
