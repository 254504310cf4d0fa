use Rattle.std.proofs.Common.{take}
use Rattle.judge_needs.specs.Pairs.{AreBypassed}
use Rattle.zones.specs.Scopes.{setting_of}
use Rattle.judge_needs.proofs.bypassed.bypassed_pairs.Given as goal

abbrev pub invariant-loop-id : goal.invariant-loop-id
invariant-loop-id l = AreBypassed (setting_of l.conditions.scope) (take l.id-index l.id-items) l.pairs.items
