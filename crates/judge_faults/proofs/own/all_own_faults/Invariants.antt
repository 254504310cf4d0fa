use Rattle.std.proofs.Common.{◌≡◌, take}
use Rattle.std.specs.Prelude.{option_copied}
use Rattle.zones.specs.Scopes.{setting_with}
use Rattle.judge_faults.specs.Own.{HasFaults}
use Rattle.terms.specs.Beside.{Beside}
use Rattle.judge_faults.proofs.own.all_own_faults.Given as goal

abbrev pub invariant-loop-id : goal.invariant-loop-id
invariant-loop-id l = record {
  same : l.overs ≡ l.fn.overs;
  beside : Beside (λ n x own. HasFaults (setting_with l.scope (option_copied l.related)) x own)
      (take l.id-index l.scope.ids.now) l.faults.items;
}
