use Rattle.std.proofs.Common.{rules}
use Rattle.store_sysmod_loads.proofs.RiseLemmas.{changes_derived}
use Rattle.store_sysmod_loads.proofs.building.are_changes_rising.Goals as goal

pub returns : goal.returns
returns c = (λ is. search rules, λ up. c.are_rising.ensures.1 (changes_derived c.args.changes.now up))
