-- What SYSMODs that stay applied lose by deletions.
use Rattle.std.proofs.Common.{◌≡◌, Bool, true, false, not, List, [], ◌∷◌, filter, map}
use Rattle.std.proofs.Common.{cond, refl, sym}
use Rattle.std.proofs.Common.{ap, ◌∙◌, is_some, subst, inl, inr}
use Rattle.std.specs.Prelude.{◌&&◌, ◌||◌, ◌⊎◌, get_or, if◌then◌else◌}
use Rattle.std.specs.List.{flat_map, list_any}
use Rattle.std.specs.Str.{bytes_eq}
use Rattle.std.proofs.lemmas.List.Elements.{filter_agree}
use Rattle.std.proofs.lemmas.List.Folds.{list_any_none}
use Rattle.std.proofs.lemmas.Cmp.{nat_list_eq_equiv}
use Rattle.std.proofs.lemmas.Slice.Eq.{bytes_eq-Decides}
use Rattle.terms.proofs.Searches.{filter_none}
use Rattle.terms.specs.Types.{Id, Global, Entry, Zone}
use Rattle.terms.specs.Lookups.{is_in, has_content, is_applied, supby_of, applied_ids, supplies}
use Rattle.terms.specs.Choice.{Choice, del_of}
use Rattle.terms.specs.Deleted.{is_deleted, is_taken_out, entry_less, zone_less}
use Rattle.terms.specs.Needs.{binding_ids, is_lost, orphans}
use Rattle.terms.specs.Tests.{Setting}
use Rattle.terms.proofs.Ids.{Contains_from_is_in, is_in_from_Contains}
use Rattle.terms.proofs.NothingDeleted.{is_taken_out_none}
use Rattle.zones.proofs.Flats.{filter_flat_map, filter_weaker}
use Rattle.std.proofs.lemmas.Bool.{and_parts, and_from, or_left, or_right, or_cases}
use Rattle.terms.proofs.Booleans.{same_truth}
use Rattle.terms.proofs.Options.{is_some_unless}
use Rattle.terms.proofs.Searches.{some_passes, passes_some}
use Rattle.terms.proofs.Applied.{in_applied_ids}

bytes_eq_same : (z : Id) → bytes_eq z z ≡ true
bytes_eq_same z = nat_list_eq_equiv.refl z

ids_left : (gone : Id → Bool) (es : List Entry)
    → map (λ e. e.id) (filter (λ e. is_some e.applied) (map (entry_less gone) es))
    ≡ map (λ e. e.id) (filter (λ e. is_some e.applied && not (gone e.id)) es)
ids_left gone [] = refl
ids_left gone (e ∷ es) =
    ap (λ b. map (λ e. e.id) (cond b (entry_less gone e ∷ filter (λ e. is_some e.applied) (map (entry_less gone) es))
    (filter (λ e. is_some e.applied) (map (entry_less gone) es)))) (is_some_unless (gone e.id) e.applied)
    ∙ by (is_some e.applied && not (gone e.id)) (ids_left gone es)
  where
    by : (b : Bool) → map (λ e. e.id) (filter (λ e. is_some e.applied) (map (entry_less gone) es))
        ≡ map (λ e. e.id) (filter (λ e. is_some e.applied && not (gone e.id)) es)
        → map (λ e. e.id) (cond b (entry_less gone e ∷ filter (λ e. is_some e.applied) (map (entry_less gone) es))
        (filter (λ e. is_some e.applied) (map (entry_less gone) es)))
        ≡ map (λ e. e.id) (cond b (e ∷ filter (λ e. is_some e.applied && not (gone e.id)) es)
        (filter (λ e. is_some e.applied && not (gone e.id)) es))
    by true rest = ap (λ ids. e.id ∷ ids) rest
    by false rest = rest

module _ (g : Global) (c : Choice) (dels : List Id) (zone : Zone) where
  abbrev is_gone : Id → Bool
  is_gone = is_taken_out g c dels zone

  abbrev staying : Zone
  staying = zone_less g c dels zone

  applied_ids_less : applied_ids staying
      ≡ map (λ e. e.id) (filter (λ e. is_some e.applied && not (is_gone e.id)) zone.entries)
  unfolding zone_less
  applied_ids_less =
      ap (map (λ (e : Entry). e.id)) (filter_weaker (λ (e : Entry). is_some e.applied) has_content
      (λ e dated. rw dated refl) (map (entry_less is_gone) zone.entries))
      ∙ ids_left is_gone zone.entries

  abbrev pub is_missed : Id → Bool
  is_missed z = is_gone z || list_any is_gone (supby_of zone z)

  abbrev pub lost : List Id
  lost = flat_map (λ e. if is_some e.applied && not (is_gone e.id)
      then filter is_missed (binding_ids c zone (is_applied staying) e.id) else []) zone.entries

  taken : (p z : Id) → is_gone p ≡ true → (bytes_eq p z || is_in (supby_of zone z) p) ≡ true
      → list_any (λ p. is_gone p && supplies zone p z) (applied_ids zone) ≡ true
  taken p z gone names =
      let on : is_applied zone p ≡ true = (and_parts (is_applied zone p) (is_deleted g c dels p) gone).0 in
      passes_some (λ p. is_gone p && supplies zone p z) (applied_ids zone) p (in_applied_ids zone p on)
      (and_from (is_gone p) (supplies zone p z) gone
      (and_from (is_applied zone p) (bytes_eq p z || is_in (supby_of zone z) p) on names))

  missed : (p z : Id) → is_gone p ≡ true → (bytes_eq p z ≡ true) ⊎ (is_in (supby_of zone z) p ≡ true)
      → is_missed z ≡ true
  missed p z gone (inl same) = or_left (is_gone z) (list_any is_gone (supby_of zone z))
      (subst (λ y. is_gone y ≡ true) ((bytes_eq-Decides p z).0 same) gone)
  missed p z gone (inr within) = or_right (is_gone z) (list_any is_gone (supby_of zone z))
      (passes_some is_gone (supby_of zone z) p (Contains_from_is_in (supby_of zone z) p within) gone)

  lost_missed : (z : Id) → list_any (λ p. is_gone p && supplies zone p z) (applied_ids zone) ≡ is_missed z
  lost_missed z = same_truth _ _ up (λ h. down (or_cases (is_gone z) (list_any is_gone (supby_of zone z)) h))
    where
      up : list_any (λ p. is_gone p && supplies zone p z) (applied_ids zone) ≡ true → is_missed z ≡ true
      up h =
          let s = some_passes (λ p. is_gone p && supplies zone p z) (applied_ids zone) h in
          let named : Bool = bytes_eq s.0 z || is_in (supby_of zone z) s.0 in
          missed s.0 z (and_parts (is_gone s.0) (supplies zone s.0 z) s.2).0
          (or_cases (bytes_eq s.0 z) (is_in (supby_of zone z) s.0)
          (and_parts (is_applied zone s.0) named (and_parts (is_gone s.0) (supplies zone s.0 z) s.2).1).1)

      down : (is_gone z ≡ true) ⊎ (list_any is_gone (supby_of zone z) ≡ true)
          → list_any (λ p. is_gone p && supplies zone p z) (applied_ids zone) ≡ true
      down (inl gone) = taken z z gone (or_left (bytes_eq z z) (is_in (supby_of zone z) z) (bytes_eq_same z))
      down (inr some) =
          let s = some_passes is_gone (supby_of zone z) some in
          taken s.0 z s.2 (or_right (bytes_eq s.0 z) (is_in (supby_of zone z) s.0)
          (is_in_from_Contains (supby_of zone z) s.0 s.1))

orphans_lost : (s : Setting) (x : Id) → orphans s x ≡ lost s.global s.choice (del_of s.choice x) s.zone
unfolding orphans
orphans_lost s x =
    let dels = del_of s.choice x in
    let left = zone_less s.global s.choice dels s.zone in
    let binding = binding_ids s.choice s.zone (is_applied left) in
    filter_agree (is_lost s dels) (is_missed s.global s.choice dels s.zone)
    (lost_missed s.global s.choice dels s.zone) (flat_map binding (applied_ids left))
    ∙ ap (λ ids. filter (is_missed s.global s.choice dels s.zone) (flat_map binding ids))
    (applied_ids_less s.global s.choice dels s.zone)
    ∙ filter_flat_map (is_missed s.global s.choice dels s.zone) binding (λ (e : Entry). e.id)
    (λ e. is_some e.applied && not (is_taken_out s.global s.choice dels s.zone e.id)) s.zone.entries

-- in each setting of the global zone, the choice and the zone
pub lost_orphans : (g : Global) (c : Choice) (dels : List Id) (zone : Zone) (s : Setting) (x : Id) → dels ≡ del_of c x
    → s.global ≡ g → s.choice ≡ c → s.zone ≡ zone → lost g c dels zone ≡ orphans s x
lost_orphans g c dels zone s x is eg ec ez =
    ap (λ ds. lost g c ds zone) is
    ∙ ap (λ h. lost h c (del_of c x) zone) (sym eg)
    ∙ ap (λ d. lost s.global d (del_of d x) zone) (sym ec)
    ∙ ap (lost s.global s.choice (del_of s.choice x)) (sym ez)
    ∙ sym (orphans_lost s x)

-- no DELETE takes no supplier
pub orphans_none : (s : Setting) (x : Id) → del_of s.choice x ≡ [] → orphans s x ≡ []
unfolding orphans
orphans_none s x none = filter_none (is_lost s (del_of s.choice x)) _ (λ i d h. nothing _)
  where
    nothing : (z : Id) → is_lost s (del_of s.choice x) z ≡ false
    nothing z =
        ap (λ dels. is_lost s dels z) none
        ∙ list_any_none (λ p. is_taken_out s.global s.choice [] s.zone p && supplies s.zone p z) (applied_ids s.zone)
        (λ i d h. ap (λ b. b && supplies s.zone (get_or (applied_ids s.zone) i d) z)
        (is_taken_out_none s.global s.choice s.zone (get_or (applied_ids s.zone) i d)))
