use Rattle.std.proofs.Common.{◌<◌, ℕ, List, length, refl, set}
use Rattle.terms.specs.Types.{Change, Sysmod}
use Rattle.terms.specs.Rising.{Rises, StandsAt}
use Rattle.terms.specs.Global.{IsSysmod, change_cmp}
use Rattle.terms.proofs.ElementOrder.{change_cmp_total}
use Rattle.terms.proofs.RisingLists.{with_item_set, Rises_set, with_item_parted, Rises_parted}
use Rattle.sysmods_values.specs.SysmodView.{sysmod_of}
use Rattle.sysmods_values.proofs.sysmod.Sysmod.insert_change.Goals as goal
use Rattle.sysmods_values.proofs.sysmod.Sysmod.insert_change.Goals.{in-Replaces-1, in-Updates-1}

with_changes : (s : Sysmod) (changes : List Change) → IsSysmod s → Rises change_cmp (λ c. c) changes
    → IsSysmod (record s { changes = changes })
with_changes s changes k rises = record { sources = k.sources; changes = rises; holds = k.holds }

-- the statement takes the place of one for its element
with_change_at : (s : Sysmod) (place : ℕ) (change : Change) → IsSysmod s
    → (place < length s.changes) × ((x : Change) × StandsAt change_cmp (λ c. c) change s.changes place x)
    → IsSysmod (record s { changes = set s.changes place change })
with_change_at s place change k found =
    with_changes s _ k (Rises_set change_cmp_total (λ (x : Change). x) s.changes place found.1.0 change k.changes
    found.0 found.1.1)

pub invariant_of-self : goal.invariant_of-self
invariant_of-self c =
    with_change_at (sysmod_of c.self.inside) c.in-Ok.place c.args.change c.self.invariant
    (rw c.deref.ensures.value at c.in-Ok.ensures.found)

pub invariant_of-self-in-Ok-2 : goal.invariant_of-self-in-Ok-2
invariant_of-self-in-Ok-2 c =
    with_change_at (sysmod_of c.self.inside) c.in-Ok.place c.args.change c.self.invariant
    (rw c.deref.ensures.value at c.in-Ok.ensures.found)

pub invariant_of-self-in-Continue-1 : goal.invariant_of-self-in-Continue-1
invariant_of-self-in-Continue-1 c =
    let missing = rw c.deref.ensures.value at c.in-Err.ensures.missing in
    with_changes (sysmod_of c.self.inside) _ c.self.invariant
    (rw c.in_ok-insert-in-Err.ensures.items (Rises_parted change_cmp_total (λ (x : Change). x)
    c.self.inside.changes.items c.in-Err.place c.args.change c.self.invariant.changes missing.1))

pub returns-in-Ok-clause-ok : goal.returns-in-Ok-clause-ok
returns-in-Ok-clause-ok c =
    let found = rw c.deref.ensures.value at c.in-Ok.ensures.found in
    let at = with_item_set change_cmp_total (λ (x : Change). x) c.self.inside.changes.items c.in-Ok.place found.1.0
    c.args.change c.self.invariant.changes found.0 found.1.1 in
    elim c.match-index_mut-change.branch [
      | in-Replaces-1 w ↦ rw (w.self-is, ← c.self.view_is, at) refl
      | in-Updates-1 w ↦ rw (w.self-is, ← c.self.view_is, at) refl
    ]

pub returns-in_ok-insert-in-Err-clause-ok : goal.returns-in_ok-insert-in-Err-clause-ok
returns-in_ok-insert-in-Err-clause-ok c =
    let missing = rw c.deref.ensures.value at c.in-Err.ensures.missing in
    let at = with_item_parted change_cmp_total (λ (x : Change). x) c.self.inside.changes.items c.in-Err.place
    c.args.change missing.1 in
    rw (← c.self.view_is, at, c.in_ok-insert-in-Err.ensures.items) refl
