-- The zone that a restore asks for is there.
use Rattle.std.proofs.Common.{◌≡◌, ◌∙◌, List, refl, ap}
use Rattle.std.specs.Prelude.{if◌then◌else◌}
use Rattle.std.specs.List.{list_any}
use Rattle.std.proofs.lemmas.List.Folds.{list_any_none, list_any-from_Any}
use Rattle.terms.specs.declared.kinds.ElemType.{ElemType}
use Rattle.terms.specs.Types.{Text, Id, Element, Zone}
use Rattle.terms.specs.Lookups.{IsZone, is_in, has_change, element_of, element_eq, element_key}
use Rattle.terms.specs.Deleted.{entries_less}
use Rattle.terms.specs.Restore.{Restoring, Restores}
use Rattle.terms.proofs.ElementOrder.{element_cmp_total, element_ties}
use Rattle.zones.proofs.Entries.{entries_less_held, entries_less_waive, entries_less_rise}
use Rattle.change.specs.Restoring.{all_changed, element_at}
use Rattle.terms.proofs.ElementOrder.{same_key}
use Rattle.change.proofs.Reverted.{key_found, by_some}
use Rattle.machine_laws.proofs.Wanted.{with_wanted, with_wanted_rises, found_wanted}

module _ (r : Restoring) (kept : List Id) (is : IsZone r.zone) where
  -- the elements, with those that are taken back as the distribution zone has them
  with_back : List Element
  with_back = with_wanted element_cmp_total element_key (element_at r.accepted) (all_changed r.global kept)
      r.zone.elements

  back : Zone
  back = record r.zone { entries = entries_less (is_in kept) r.zone.entries; elements = with_back }

  stands : (type : ElemType) (name : Text) → element_of back type name
      ≡ (if list_any (λ x. has_change r.global x type name) kept then element_of r.accepted type name
      else element_of r.zone type name)
  unfolding back with_back
  stands type name =
      found_wanted element_cmp_total element_key (element_at r.accepted) element_eq element_ties same_key
      (λ k. key_found r.accepted k.0 k.1) (all_changed r.global kept) r.zone.elements (type, name)
      ∙ ap (λ b. if b then element_of r.accepted type name else element_of r.zone type name)
      (by_some r.global type name kept)

  pub restored : (new : Zone) × Restores r kept new
  unfolding back with_back
  restored = (
    back,
    record {
      rest = refl;
      is_zone = record {
        entries = entries_less_rise (is_in kept) r.zone.entries is.entries;
        held = entries_less_held (is_in kept) r.zone.entries;
        waived = entries_less_waive (is_in kept) r.zone.entries is.waived;
        elements = with_wanted_rises element_cmp_total element_key (element_at r.accepted)
            (all_changed r.global kept) r.zone.elements is.elements;
        related = is.related;
      };
      entries = refl;
      reverted = λ type name some.
          stands type name ∙ ap (λ b. if b then element_of r.accepted type name else element_of r.zone type name)
          (list_any-from_Any (λ x. has_change r.global x type name) kept some);
      others = λ type name none.
          stands type name ∙ ap (λ b. if b then element_of r.accepted type name else element_of r.zone type name)
          (list_any_none (λ x. has_change r.global x type name) kept none);
    },
  )
