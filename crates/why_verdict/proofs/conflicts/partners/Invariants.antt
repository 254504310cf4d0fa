use Rattle.std.proofs.Common.{take}
use Rattle.terms.specs.Beside.{Beside}
use Rattle.zones.specs.Scopes.{setting_of}
use Rattle.why_verdict.specs.Conflicts.{IsPartner}
use Rattle.why_verdict.proofs.conflicts.partners.Given as goal

abbrev pub invariant-loop-other : goal.invariant-loop-other
invariant-loop-other l =
    Beside (λ n y p. IsPartner (setting_of l.scope) l.id y p) (take l.other-index l.other-items) l.partners.items
