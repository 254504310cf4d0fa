-- The entries that are made are those of an install.
use Rattle.std.proofs.Common.{◌≡◌, true, false, List, ◌++◌, Option, Some, None, refl}
use Rattle.std.proofs.Common.{sym, ap, ap₂, ◌∙◌, subst, true≢false, IsTrue}
use Rattle.std.specs.Prelude.{◌↔◌, ◌||◌, Contains, filter, is_some, unwrap_or}
use Rattle.std.specs.Str.{bytes_eq}
use Rattle.terms.proofs.ListMembers.{in_filter, filter_in}
use Rattle.terms.proofs.Searches.{find_gives, All_find}
use Rattle.terms.proofs.TextOrder.{same_from}
use Rattle.terms.specs.Types.{Id, Entry, Zone, Applied, an_applied}
use Rattle.terms.specs.Lookups.{IsRising, IsZone, is_nil, is_in, waives_applied, entry_of}
use Rattle.terms.specs.Deleted.{zone_less}
use Rattle.zones.proofs.Entries.{entries_less_waive}
use Rattle.sysmods.specs.Choices.{number_in}
use Rattle.change.specs.declared.deleting.Deleting.{Deleting}
use Rattle.change.specs.declared.plan.Plan.{Plan}
use Rattle.zones.specs.Gone.{is_gone, left_of}
use Rattle.change.specs.Deleting.{delby_left}
use Rattle.change.specs.Pairs.{others_of}
use Rattle.change.specs.Entries.{is_open, bare_entry, old_entry, IsWaived, IsAppliedEntry, IsOtherEntry, IsEntryAfter}

pub waived_from : (d : Deleting) (p : Plan) (x : Id) (others left waived : List Id)
    → left ≡ filter (is_open d p) others → others ≡ others_of p.bypassed x
    → ((z : Id) → Contains waived z ↔ Contains left z) → IsRising waived → IsWaived d p x waived
waived_from d p x others left waived filtered are same rising = record {
  rising = rising;
  members = λ z. (
    λ h. filter_in (is_open d p) (others_of p.bypassed x) z
        (subst (λ zs. Contains zs z) (filtered ∙ ap (filter (is_open d p)) are) ((same z).0 h)),
    λ h. (same z).1 (subst (λ zs. Contains zs z) (sym (filtered ∙ ap (filter (is_open d p)) are))
        (in_filter (is_open d p) (others_of p.bypassed x) z h.0 h.1)),
  );
}

pub applied_from : (d : Deleting) (p : Plan) (x : Id) (old : Entry) (applied : Option Applied) (delby : Option Id)
    (waived : List Id) → old ≡ old_entry (left_of d.left) x → applied
    ≡ Some (an_applied p.date (number_in d.left.vers.now x))
    → delby ≡ delby_left d x → IsWaived d p x waived
    → IsAppliedEntry d p x (record old { applied = applied; delby = delby; waived = waived })
applied_from d p x old applied delby waived is on deleted waives = record {
  rest = ap₂ {A = Entry} {B = Option Applied × Option Id} {C = Entry}
      (λ e m. record e { applied = m.0; delby = m.1; waived = waived }) is (ap₂ (λ a k. (a, k)) on deleted);
  waived = waives;
}

pub other_from : (d : Deleting) (p : Plan) (x : Id) (old : Entry) (more supby : List Id) (delby : Option Id)
    → old ≡ old_entry (left_of d.left) x → more ≡ others_of p.superseders x
    → ((y : Id) → Contains supby y ↔ Contains (old.supby ++ more) y) → delby ≡ delby_left d x
    → IsOtherEntry d p x (record old { supby = supby; delby = delby })
other_from d p x old more supby delby is are same deleted = record {
  rest = ap₂ {A = Entry} {B = Option Id} {C = Entry} (λ e k. record e { supby = supby; delby = k }) is deleted;
  supby = λ y. subst (λ ys. Contains supby y ↔ Contains ys y) (ap₂ (λ e l. e.supby ++ l) is are) (same y);
}

pub old_id : (zone : Zone) (x : Id) → (old_entry zone x).id ≡ x
old_id zone x = by (entry_of zone x) refl
  where
    by : (o : Option Entry) → entry_of zone x ≡ o → (unwrap_or o (bare_entry x)).id ≡ x
    by None at = refl
    by (Some e) at = same_from e.id x (find_gives (λ v. bytes_eq v.id x) zone.entries e at).0

pub old_waives : (d : Deleting) → IsZone d.left.zone.now → (x : Id)
    → IsTrue (waives_applied (old_entry (left_of d.left) x))
unfolding zone_less
old_waives d is_zone x = by (entry_of (left_of d.left) x) refl
  where
    by : (o : Option Entry) → entry_of (left_of d.left) x ≡ o → IsTrue (waives_applied (unwrap_or o (bare_entry x)))
    by None at = refl
    by (Some e) at = All_find (λ e. IsTrue (waives_applied e)) (λ v. bytes_eq v.id x) (left_of d.left).entries e
        (entries_less_waive (is_gone d.left) d.left.zone.now.entries is_zone.waived) at

module _ (d : Deleting) (p : Plan) (x : Id) (e : Entry) where
  pub after_applied : is_in p.effective x ≡ true → IsAppliedEntry d p x e → IsEntryAfter d p x e
  after_applied takes made = record {
    id = ap (λ v. v.id) made.rest ∙ old_id (left_of d.left) x;
    applied = λ h. made;
    other = λ not_it. absurd (true≢false (sym takes ∙ not_it));
    waives = ap (λ v. is_some v.applied || is_nil v.waived) made.rest;
  }

  pub waives_other : IsZone d.left.zone.now → IsOtherEntry d p x e → IsTrue (waives_applied e)
  waives_other is_zone made =
      ap (λ v. is_some v.applied || is_nil v.waived) made.rest ∙ old_waives d is_zone x

  pub after_other : IsZone d.left.zone.now → is_in p.effective x ≡ false → IsOtherEntry d p x e → IsEntryAfter d p x e
  after_other is_zone not_it made = record {
    id = ap (λ v. v.id) made.rest ∙ old_id (left_of d.left) x;
    applied = λ takes. absurd (true≢false (sym takes ∙ not_it));
    other = λ h. made;
    waives = waives_other is_zone made;
  }
