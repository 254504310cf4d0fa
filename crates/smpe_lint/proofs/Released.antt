-- A release changes no SYSMOD.
use Rattle.std.proofs.Common.{◌≡◌, Option, None, Some, Bool, true, false, Result, Ok, Err, sym, ap, cond, []}
use Rattle.std.specs.Prelude.{OnOk, OnErr}
use Rattle.terms.specs.declared.kinds.HoldKind.{HoldKind}
use Rattle.terms.specs.Types.{Text, Id, Hold, Release, Global}
use Rattle.terms.specs.Global.{ReleaseFault, release, release_found, hold_of, without_hold}
use Rattle.terms.specs.Global as rule
use Rattle.sysmods.specs.Faults.{a_release}

released_sysmods : (g h : Global) (r : Release) → release g r ≡ Ok h → h.sysmods ≡ g.sysmods
released_sysmods g h r = by (hold_of g r.id r.kind r.reason)
  where
    without : Global
    without = without_hold r.id r.kind r.reason g

    of_flag : Bool → Result Global ReleaseFault
    of_flag b = cond b (Err rule.Internal) (Ok without)

    same : (old new : Global) → ◌≡◌ {A = Result Global ReleaseFault} (Ok old) (Ok new) → old ≡ new
    same old new e = cc

    inside : (b : Bool) → of_flag b ≡ Ok h → h.sysmods ≡ g.sysmods
    inside true found = absurd (cc found)
    inside false found = ap (λ (k : Global). k.sysmods) (sym (same without h found))

    by : (o : Option Hold) → release_found g r o ≡ Ok h → h.sysmods ≡ g.sysmods
    by None found = absurd (cc found)
    by (Some o) found = inside o.internal found

-- whatever the call returns
pub release_keeps : {T E : Type 0} (r : Result T E) (g h : Global) (x : Id) (kind : HoldKind) (reason : Text)
    → OnOk r ((fmid : Id) → release g (a_release x kind reason fmid) ≡ Ok h) → OnErr r (h ≡ g)
    → h.sysmods ≡ g.sysmods
release_keeps (Ok v) g h x kind reason ok err = released_sysmods g h (a_release x kind reason []) (ok [])
release_keeps (Err e) g h x kind reason ok err = ap (λ (k : Global). k.sysmods) err
