-- What RESTORE makes of a zone is there, and so are its lines: that they are not can be refuted.
use Rattle.std.proofs.Common.{◌⊎◌, inl, inr, List, [], ◌++◌, Contains, refl, map}
use Rattle.std.specs.Prelude.{◌↔◌}
use Rattle.std.proofs.lemmas.List.Elements.{Contains-append_left, Contains-append_right}
use Rattle.terms.specs.Types.{Id, Global, Zone, RestoreList, RestoreSelect, RestoreGroup}
use Rattle.terms.specs.Lookups.{IsZone, IsRising, is_in, applied_ids}
use Rattle.terms.specs.Choice.{counting}
use Rattle.terms.specs.Restore.{Restoring, IsListed, AreListed, restore_candidates, restore_judging, IsRestored}
use Rattle.terms.proofs.Ids.{in_or_not, is_in_from_Contains, Contains_from_is_in}
use Rattle.machine.specs.Outcome.{Status, Restored, NotApplied, Failed, Line, StatusLine}
use Rattle.machine.specs.Receiving.{place_of}
use Rattle.machine.specs.Restoring.{HasRestoreStatus, IsBack, StaysOn, WasNotOn, RestoresListed}
use Rattle.machine_laws.proofs.Causers.{needs_applied}
use Rattle.machine_laws.proofs.Causes.{those_stably, failure_stably}
use Rattle.machine_laws.proofs.Finitely.{all_stably}
use Rattle.machine_laws.proofs.RestoredZone.{restored}

-- ---- the list

-- GROUP's ids and all that is applied are a closed set.
group_within : (r : Restoring) (ids : List Id) (x : Id) → IsListed r (RestoreGroup ids) x
    → Contains (ids ++ applied_ids r.zone) x
group_within r ids x is =
    let all : List Id = ids ++ applied_ids r.zone in
    Contains_from_is_in all x (is (is_in all) (record {
      start = λ y there. is_in_from_Contains all y (Contains-append_left ids (applied_ids r.zone) y there);
      grown = λ y z kind there needs. is_in_from_Contains all z
          (Contains-append_right ids (applied_ids r.zone) z (needs_applied r (is_in all) y z kind needs));
    }))

listed_within : (r : Restoring) (what : RestoreList) → (all : List Id)
    × ((x : Id) → IsListed r what x → Contains all x)
listed_within r (RestoreSelect ids) = (ids, λ x is. is)
listed_within r (RestoreGroup ids) = (ids ++ applied_ids r.zone, group_within r ids)

listed_answered : (r : Restoring) (what : RestoreList) → ¬ ¬ ((ids : List Id) × AreListed r what ids)
listed_answered r what refuted =
    let within = listed_within r what in
    those_stably (IsListed r what) within.0 (λ found. refuted (
      found.0,
      record {
        rising = found.1.rising;
        members = λ x. (λ is. ((found.1.members x).0 is).1, λ is. (found.1.members x).1 (within.1 x is, is));
      },
    ))

-- ---- what is taken off, and the statuses

-- what is taken off, rising
record AreRestored (r : Restoring) (ids kept : List Id) : Type 0 where
  rising : IsRising kept
  members : (x : Id) → Contains kept x ↔ IsRestored r ids x

restored_answered : (r : Restoring) (ids : List Id) → ¬ ¬ ((kept : List Id) × AreRestored r ids kept)
restored_answered r ids refuted = those_stably (IsRestored r ids) (restore_candidates r ids) (λ found. refuted (
  found.0,
  record {
    rising = found.1.rising;
    members = λ x. (
      λ is. ((found.1.members x).0 is).1,
      λ is. (found.1.members x).1 ((is.1.eligible x is.2).cand, is),
    );
  },
))

module _ (r : Restoring) (ids kept : List Id) where
  abbrev Says : Id → Type 0
  Says x = (s : Status) × HasRestoreStatus r ids kept x s

  says_answered : (x : Id) → Contains ids x → ¬ ¬ Says x
  says_answered x there refuted = elim (in_or_not kept x) [
    | inl is ↦ refuted (Restored, IsBack is)
    | inr stays ↦ elim (in_or_not (restore_candidates r ids) x) [
      | inl cand ↦ failure_stably (restore_judging r ids) kept (λ y kind. applied_ids r.zone)
          (needs_applied r (is_in ids)) x
          (λ made. refuted (Failed made.0, StaysOn made.0 cand stays made.1))
      | inr off ↦ refuted (NotApplied, WasNotOn there off)
    ]
  ]

  module _ (says : (x : Id) → Contains ids x → Says x) where
    -- the status of an id of the list; that of others says nothing
    status_at : (x : Id) → Contains ids x ⊎ (¬ Contains ids x) → Status
    status_at x (inl there) = (says x there).0
    status_at x (inr out) = NotApplied

    status_has : (x : Id) (e : Contains ids x ⊎ (¬ Contains ids x)) → Contains ids x
        → HasRestoreStatus r ids kept x (status_at x e)
    unfolding status_at
    status_has x (inl there) h = (says x there).1
    status_has x (inr out) h = absurd (out h)

-- ---- the answer

pub restore_answered : (g : Global) (zone accepted : Zone) (what : RestoreList) → IsZone zone
    → ¬ ¬ ((new : Zone) × (lines : List Line) × RestoresListed g zone accepted what new lines)
restore_answered g zone accepted what is refuted =
    let r : Restoring = record { global = g; choice = counting g zone []; zone = zone; accepted = accepted } in
    listed_answered r what (λ ids.
    restored_answered r ids.0 (λ kept.
    all_stably (Says r ids.0 kept.0) ids.0 (says_answered r ids.0 kept.0) (λ says.
    let status : Id → Status = λ x. status_at r ids.0 kept.0 says x (in_or_not ids.0 x) in
    let left = restored r kept.0 is in
    refuted (
      left.0,
      map (λ x. StatusLine x (place_of g x) (status x)) ids.0,
      record {
        setting = r;
        setting_is = refl;
        ids = ids.0;
        listed = ids.1;
        kept = kept.0;
        rising = kept.1.rising;
        members = kept.1.members;
        restores = left.1;
        status = status;
        lines_are = refl;
        each = λ x there. status_has r ids.0 kept.0 says x (in_or_not ids.0 x) there;
      },
    ))))
