-- What RESTORE makes of a zone is determined, and so are its lines.
use Rattle.std.proofs.Common.{◌≡◌, ◌∙◌, Bool, true, false, List, [], Contains, find, map, refl, sym, ap, subst}
use Rattle.std.proofs.Common.{bytes_eq}
use Rattle.std.specs.Prelude.{◌↔◌}
use Rattle.std.specs.List.{list_any}
use Rattle.std.proofs.lemmas.List.Folds.{Any-from_list_any}
use Rattle.terms.proofs.Searches.{All_from_no_list_any}
use Rattle.terms.specs.declared.kinds.ElemType.{ElemType}
use Rattle.terms.specs.Types.{Text, Id, Entry, Global, Zone, RestoreList}
use Rattle.terms.specs.Lookups.{IsRising, is_in, has_change, element_of}
use Rattle.terms.specs.Choice.{counting}
use Rattle.terms.specs.Restore.{Restoring, AreListed, restore_candidates, restore_judging, IsRestored, Restores}
use Rattle.terms.proofs.SameZones.{same_zone}
use Rattle.machine.specs.Outcome.{Status, Failed, Line, StatusLine}
use Rattle.machine.specs.Receiving.{place_of}
use Rattle.machine.specs.Restoring.{HasRestoreStatus, IsBack, StaysOn, WasNotOn, RestoresListed}
use Rattle.machine_laws.proofs.Decided.{members_only}
use Rattle.machine_laws.proofs.FailureAnswers.{failure_only}
use Rattle.terms.proofs.Lists.{map_alike}

-- the zone that a restore leaves
module _ (r : Restoring) (kept : List Id) (a b : Zone) (to_a : Restores r kept a) (to_b : Restores r kept b) where
  element_only : (type : ElemType) (name : Text) → element_of a type name ≡ element_of b type name
  element_only type name = by (list_any (λ x. has_change r.global x type name) kept) refl
    where
      by : (t : Bool) → list_any (λ x. has_change r.global x type name) kept ≡ t
          → element_of a type name ≡ element_of b type name
      by true some =
          let any = Any-from_list_any (λ x. has_change r.global x type name) kept some in
          to_a.reverted type name any ∙ sym (to_b.reverted type name any)
      by false none =
          let all = All_from_no_list_any (λ x. has_change r.global x type name) kept none in
          to_a.others type name all ∙ sym (to_b.others type name all)

  restored_only : a ≡ b
  restored_only =
      same_zone a b to_a.is_zone to_b.is_zone
      (ap (λ (z : Zone). z.kind) to_a.rest ∙ sym (ap (λ (z : Zone). z.kind) to_b.rest))
      (ap (λ (z : Zone). z.srel) to_a.rest ∙ sym (ap (λ (z : Zone). z.srel) to_b.rest))
      (ap (λ (z : Zone). z.related) to_a.rest ∙ sym (ap (λ (z : Zone). z.related) to_b.rest))
      (λ x. ap (find (λ (e : Entry). bytes_eq e.id x)) (to_a.entries ∙ sym to_b.entries))
      element_only

-- the status of an id
module _ (r : Restoring) (ids kept : List Id) (members : (x : Id) → Contains kept x ↔ IsRestored r ids x) where
  pub within : (x : Id) → Contains kept x → Contains (restore_candidates r ids) x
  within x is = let stays = (members x).0 is in (stays.1.eligible x stays.2).cand

  status_only : (x : Id) (s t : Status) → HasRestoreStatus r ids kept x s → HasRestoreStatus r ids kept x t → s ≡ t
  status_only x s t (IsBack k) (IsBack k') = refl
  status_only x s t (IsBack k) (StaysOn f c out why) = absurd (out k)
  status_only x s t (IsBack k) (WasNotOn listed off) = absurd (off (within x k))
  status_only x s t (StaysOn f c out why) (IsBack k) = absurd (out k)
  status_only x s t (StaysOn f c out why) (StaysOn f' c' out' why') =
      ap (λ f. Failed f) (failure_only (restore_judging r ids) kept x f f' why why')
  status_only x s t (StaysOn f c out why) (WasNotOn listed off) = absurd (off c)
  status_only x s t (WasNotOn listed off) (IsBack k) = absurd (off (within x k))
  status_only x s t (WasNotOn listed off) (StaysOn f c out why) = absurd (off c)
  status_only x s t (WasNotOn listed off) (WasNotOn listed' off') = refl

-- RESTORE of this list in this setting leaves the zone and prints the lines.
record Answers (r : Restoring) (what : RestoreList) (new : Zone) (lines : List Line) : Type 0 where
  ids : List Id
  listed : AreListed r what ids
  kept : List Id
  rising : IsRising kept
  members : (x : Id) → Contains kept x ↔ IsRestored r ids x
  restores : Restores r kept new
  status : Id → Status
  lines_are : lines ≡ map (λ x. StatusLine x (place_of r.global x) (status x)) ids
  each : (x : Id) → Contains ids x → HasRestoreStatus r ids kept x (status x)

answers_only : (r : Restoring) (what : RestoreList) (a b : Zone) (lines more : List Line) → Answers r what a lines
    → Answers r what b more → (a ≡ b) × (lines ≡ more)
answers_only r what a b lines more is is' =
    let ids = members_only _ is'.ids is.ids is'.listed.rising is.listed.rising is'.listed.members is.listed.members in
    let kept = members_only (IsRestored r is.ids) is'.kept is.kept is'.rising is.rising
    (subst (λ ids. (x : Id) → Contains is'.kept x ↔ IsRestored r ids x) ids is'.members) is.members in
    let line : (Id → Status) → Id → Line = λ status x. StatusLine x (place_of r.global x) (status x) in (
      restored_only r is.kept a b is.restores (subst (λ kept. Restores r kept b) kept is'.restores),
      is.lines_are
          ∙ map_alike (line is.status) (line is'.status) is.ids
          (λ x there. ap (StatusLine x (place_of r.global x)) (status_only r is.ids is.kept is.members x (is.status x)
          (is'.status x) (is.each x there)
          (subst (λ kept. HasRestoreStatus r is.ids kept x (is'.status x)) kept
          (subst (λ ids. HasRestoreStatus r ids is'.kept x (is'.status x)) ids
          (is'.each x (subst (λ ids. Contains ids x) (sym ids) there))))))
          ∙ ap (map (line is'.status)) (sym ids) ∙ sym is'.lines_are,
    )

-- So RESTORE makes one zone and prints one list of lines.
pub restores_only : (g : Global) (zone accepted : Zone) (what : RestoreList) (a b : Zone) (lines more : List Line)
    → RestoresListed g zone accepted what a lines → RestoresListed g zone accepted what b more
    → (a ≡ b) × (lines ≡ more)
restores_only g zone accepted what a b lines more is is' =
    answers_only setting what a b lines more (answers a lines is) (answers b more is')
  where
    setting : Restoring
    setting = record { global = g; choice = counting g zone []; zone = zone; accepted = accepted }

    answers : (new : Zone) (lines : List Line) → RestoresListed g zone accepted what new lines
        → Answers setting what new lines
    answers new lines is = record {
      ids = is.ids;
      listed = subst (λ r. AreListed r what is.ids) is.setting_is is.listed;
      kept = is.kept;
      rising = is.rising;
      members = subst (λ r. (x : Id) → Contains is.kept x ↔ IsRestored r is.ids x) is.setting_is is.members;
      restores = subst (λ r. Restores r is.kept new) is.setting_is is.restores;
      status = is.status;
      lines_are = is.lines_are;
      each = subst (λ r. (x : Id) → Contains is.ids x → HasRestoreStatus r is.ids is.kept x (is.status x))
          is.setting_is is.each;
    }
