-- The zone that an install asks for is there.
use Rattle.std.proofs.Common.{◌≡◌, ◌∙◌, Bool, true, false, not, List, Option, None, Some, IsTrue, filter}
use Rattle.std.proofs.Common.{refl, sym, ap, true≢false}
use Rattle.std.specs.Prelude.{IfSome, IsFalse, if◌then◌else◌}
use Rattle.std.specs.List.{list_any}
use Rattle.std.proofs.lemmas.Bool.{false_from_ne_true}
use Rattle.std.proofs.lemmas.List.Folds.{list_any-from_Any, Any-from_list_any}
use Rattle.std.proofs.lemmas.List.Kept.{AllPairs-filter}
use Rattle.terms.proofs.ListMembers.{filter_in, in_filter}
use Rattle.terms.specs.declared.kinds.ElemType.{ElemType}
use Rattle.terms.specs.Types.{Text, Id, Element, Zone}
use Rattle.terms.specs.Lookups.{has_change, element_of, element_cmp, element_eq, element_key}
use Rattle.std.specs.Ordering.{is_lt}
use Rattle.terms.specs.Rising.{Rises}
use Rattle.terms.specs.Deleted.{deletions, is_deleted, zone_less}
use Rattle.terms.specs.Install.{Installation, TakesEffect, cleared, HasElementAfter, HasInstalled}
use Rattle.terms.proofs.ElementOrder.{element_cmp_total, element_ties}
use Rattle.change.specs.Restoring.{all_changed}
use Rattle.terms.proofs.ElementOrder.{same_key}
use Rattle.sorted.specs.ElementKeys.{Key}
use Rattle.change.proofs.Reverted.{by_some}
use Rattle.machine_laws.proofs.Effective.{IsSoundInstall, effective, in_effective}
use Rattle.machine_laws.proofs.ElementAnswered.{element_answered}
use Rattle.machine_laws.proofs.EntriesAnswered as after
use Rattle.machine_laws.proofs.MadeEntries as made
use Rattle.machine_laws.proofs.Wanted.{with_wanted, with_wanted_rises, found_wanted}

module _ (i : Installation) (sound : IsSoundInstall i) where
  -- whether something that takes effect changes the element
  is_changed : Key → Bool
  is_changed k = list_any (λ x. has_change i.global x k.0 k.1) (effective i sound)

  -- the element of this key after the install
  abbrev IsAfter : Key → Element → Type 0
  IsAfter k e = HasElementAfter i k.0 k.1 e × (element_key e ≡ k)

  changed_after : (k : Key) → is_changed k ≡ true → (e : Element) × IsAfter k e
  unfolding is_changed
  changed_after k some =
      let test : Id → Bool = λ x. has_change i.global x k.0 k.1 in
      let any = Any-from_list_any test (effective i sound) some in
      let made = element_answered i sound k.0 k.1 (filter test (effective i sound)) (λ y. (
        λ is. let both = filter_in test (effective i sound) y is in ((in_effective i sound y).0 both.0, both.1),
        λ both. in_filter test (effective i sound) y ((in_effective i sound y).1 both.0) both.1,
      )) any.1 (in_filter test (effective i sound) any.1 (any.0, any.2, any.3) any.4) in
      (made.0, (made.1, made.2))

  after_by : (k : Key) (b : Bool) → is_changed k ≡ b → Option Element
  after_by k true some = Some (changed_after k some).0
  after_by k false none = None

  element_after : Key → Option Element
  element_after k = after_by k (is_changed k) refl

  after_keyed : (k : Key) → IfSome (element_after k) (λ e. element_key e ≡ k)
  unfolding element_after after_by
  after_keyed k = by (is_changed k) refl
    where
      by : (b : Bool) (at : is_changed k ≡ b) → IfSome (after_by k b at) (λ e. element_key e ≡ k)
      by true some = (changed_after k some).1.1
      by false none = tt

  is_after : (k : Key) → is_changed k ≡ true → (e : Element) × (element_after k ≡ Some e) × HasElementAfter i k.0 k.1 e
  unfolding element_after after_by
  is_after k changed = by (is_changed k) refl changed
    where
      by : (b : Bool) (at : is_changed k ≡ b) → b ≡ true
          → (e : Element) × (after_by k b at ≡ Some e) × HasElementAfter i k.0 k.1 e
      by true some is = let made = changed_after k some in (made.0, refl, made.1.0)
      by false none is = absurd (true≢false (sym is))

  elements : List Element
  elements = with_wanted element_cmp_total element_key element_after (all_changed i.global (effective i sound))
      (cleared i).elements

  elements_rise : Rises element_cmp element_key elements
  unfolding elements zone_less
  elements_rise =
      with_wanted_rises element_cmp_total element_key element_after (all_changed i.global (effective i sound))
      (cleared i).elements
      (AllPairs-filter (λ e f. IsTrue (is_lt (element_cmp (element_key e) (element_key f))))
      (λ e. not (is_deleted i.global i.choice (deletions i.choice i.kept) e.fmid)) i.zone.elements
      sound.is_zone.elements)

  new : Zone
  new = record i.zone { entries = made.entries i sound; elements = elements }

  element_found : (type : ElemType) (name : Text) → element_of new type name
      ≡ (if is_changed (type, name) then element_after (type, name) else element_of (cleared i) type name)
  unfolding new elements is_changed
  element_found type name =
      found_wanted element_cmp_total element_key element_after element_eq element_ties same_key after_keyed
      (all_changed i.global (effective i sound)) (cleared i).elements (type, name)
      ∙ ap (λ b. if b then element_after (type, name) else element_of (cleared i) type name)
      (by_some i.global type name (effective i sound))

  changed : (type : ElemType) (name : Text) (x : Id) → TakesEffect i x → IsTrue (has_change i.global x type name)
      → (e : Element) × (element_of new type name ≡ Some e) × HasElementAfter i type name e
  unfolding is_changed
  changed type name x effect has =
      let at = (in_effective i sound x).1 effect in
      let some : is_changed (type, name) ≡ true = list_any-from_Any (λ x. has_change i.global x type name)
      (effective i sound) (at.0, x, at.1, at.2, has) in
      let after = is_after (type, name) some in (
        after.0,
        element_found type name
            ∙ ap (λ b. if b then element_after (type, name) else element_of (cleared i) type name) some ∙ after.1,
        after.2,
      )

  unchanged : (type : ElemType) (name : Text)
      → ((x : Id) → TakesEffect i x → IsFalse (has_change i.global x type name))
      → element_of new type name ≡ element_of (cleared i) type name
  unfolding is_changed
  unchanged type name none =
      element_found type name
      ∙ ap (λ b. if b then element_after (type, name) else element_of (cleared i) type name)
      (false_from_ne_true (is_changed (type, name)) (λ some.
      let any = Any-from_list_any (λ x. has_change i.global x type name) (effective i sound) some in
      true≢false (sym any.4 ∙ none any.1 ((in_effective i sound any.1).0 (any.0, any.2, any.3)))))

  pub zone_answered : (zone : Zone) × HasInstalled i zone
  unfolding new
  zone_answered =
      let entries = made.entry_found i sound in (
        new,
        record {
          rest = refl;
          is_zone = record {
            entries = made.entries_rise i sound;
            held = made.entries_held i sound;
            waived = made.entries_waive i sound;
            elements = elements_rise;
            related = sound.is_zone.related;
          };
          applied = after.applied i sound new entries;
          not_applied = after.not_applied i sound new entries;
          supby_rising = after.supby_rising i sound new entries;
          supby = after.supby i sound new entries;
          delby = after.delby i sound new entries;
          waived_rising = after.waived_rising i sound new entries;
          waived = after.waived i sound new entries;
          not_waived = after.not_waived i sound new entries;
          changed = changed;
          unchanged = unchanged;
        },
      )
