use Rattle.std.proofs.Common.{◌≡◌, ◌++◌, map, take}
use Rattle.terms.specs.Lookups.{change_key}
use Rattle.judge_faults.specs.Claims.{a_claim, AreClaims}
use Rattle.judge_faults.proofs.claims.claims_of.Given as goal

abbrev pub invariant-loop-i : goal.invariant-loop-i
invariant-loop-i l = AreClaims l.global l.ids l.faults l.i l.claims.items

abbrev pub invariant-loop-change : goal.invariant-loop-change
invariant-loop-change l =
    l.claims.items
    ≡ l.initial.claims.items ++ map (λ h. a_claim (change_key h) l.id l.i) (take l.change-index l.changes)
