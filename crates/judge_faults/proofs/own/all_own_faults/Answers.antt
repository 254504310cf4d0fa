use Rattle.std.proofs.Common.{◌∙◌, length, ap, arith}
use Rattle.std.specs.Prelude.{option_copied}
use Rattle.zones.specs.Scopes.{setting_with}
use Rattle.judge_faults.specs.Own.{HasFaults}
use Rattle.terms.proofs.BesideLists.{beside_next, beside_through}
use Rattle.judge_faults.proofs.own.all_own_faults.Goals as goal

pub own_faults-requires : goal.own_faults-requires
own_faults-requires c = record {
  overs = c.loop-id.invariant.same ∙ c.requires;
  forbidders = c.in_ok-forbidders.ensures;
}

pub loop-id-preserved : goal.loop-id-preserved
loop-id-preserved c =
    let scope = c.args.scope.now in
    record {
      same = c.in_ok-own_faults.ensures.same ∙ c.loop-id.invariant.same;
      beside = beside_next (λ n x own. HasFaults (setting_with scope
          (option_copied c.args.related)) x own) scope.ids.now
          c.loop-id.faults.items c.push.new.self.items c.loop-id.id-index c.id-item.result
          c.in_ok-own_faults.field-0 (omega (arith, ap length c.as_slice-id-items.ensures.items))
          (rw c.as_slice-id-items.ensures.items at c.id-item.is) c.in_ok-push.ensures.items
          c.in_ok-own_faults.ensures.faults c.loop-id.invariant.beside;
    }

pub returns-clause-faults : goal.returns-clause-faults
returns-clause-faults c =
    let scope = c.args.scope.now in
    beside_through (λ n x own. HasFaults (setting_with scope (option_copied c.args.related)) x own) scope.ids.now
    c.loop-id.faults.items c.loop-id.id-index
    (omega (arith, ap length c.as_slice-id-items.ensures.items)) c.loop-id.invariant.beside
