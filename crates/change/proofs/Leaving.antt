-- What deletions leave of a zone, and who has deleted an id.
use Rattle.std.proofs.Common.{◌≡◌, Bool, true, false, not, List, [], ◌∷◌, ◌++◌, Option, Some, None, refl, sym, ap, ◌∙◌}
use Rattle.std.proofs.Common.{subst, true≢false, IsTrue, filter, find, map, Contains}
use Rattle.std.specs.Prelude.{◌&&◌, ◌||◌, is_some, slice_get, unwrap_or, if◌then◌else◌}
use Rattle.std.specs.Option.{option_map, option_map_or, option_and_then}
use Rattle.std.specs.Str.{bytes_eq}
use Rattle.std.proofs.lemmas.List.Elements.{Contains-append_left, Contains-append_right}
use Rattle.terms.proofs.ListMembers.{in_map, none_in, in_flat}
use Rattle.terms.proofs.Searches.{find_gives, All_find, first_kept}
use Rattle.terms.proofs.TextOrder.{same_from}
use Rattle.terms.specs.Types.{Text, Id, Entry, Global, Zone, Applied}
use Rattle.terms.specs.Lookups.{IsZone, is_nil, has_content, waives_applied, is_in, is_function, entry_of, delby_of}
use Rattle.terms.specs.Choice.{Choice, del_of}
use Rattle.terms.specs.Deleted.{deletions, is_deleted, is_taken_out, entry_less, zone_less}
use Rattle.terms.specs.Install.{delby_after}
use Rattle.terms.proofs.Ids.{Contains_from_is_in}
use Rattle.terms.proofs.SameZones.{an_entry}
use Rattle.terms.proofs.NothingDeleted.{is_taken_out_none, zone_less_none}
use Rattle.zones.proofs.Filtered.{passing}
use Rattle.zones.proofs.Entries.{entry_less_waives}
use Rattle.zones.proofs.Lookups.{entry_of_less}
use Rattle.sysmods.specs.Choices.{number_in}
use Rattle.change.specs.declared.deleting.Deleting.{Deleting}
use Rattle.zones.specs.Gone.{is_gone, left_of}
use Rattle.change.specs.Deleting.{AreDeletions, choice_of, is_function_gone, first_naming, first_meeting}
use Rattle.change.specs.Deleting.{first_deleter, delby_left, at_stake}
use Rattle.change.specs.Entries.{bare_entry, old_entry, if_held}
use Rattle.change.specs.Plans.{installation}

-- ---- what is left of an entry

-- an entry that nothing holds is bare
bare : (e : Entry) (x : Id) → e.id ≡ x → has_content e ≡ false → IsTrue (waives_applied e) → e ≡ bare_entry x
bare e x same unheld waives =
    ap {A = Id} {B = Entry} (λ v. record e { id = v }) same ∙ by e.applied e.supby e.delby e.waived unheld waives
  where
    by : (date : Option Applied) (supby : List Id) (delby : Option Id) (waived : List Id)
        → (is_some date || not (is_nil supby) || is_some delby) ≡ false → (is_some date || is_nil waived) ≡ true
        → an_entry x date supby delby waived ≡ bare_entry x
    by None [] None [] unheld waives = refl
    by None [] None (w ∷ ws) unheld waives = absurd (true≢false (sym waives))
    by None [] (Some k) waived unheld waives = absurd (true≢false unheld)
    by None (y ∷ ys) delby waived unheld waives = absurd (true≢false unheld)
    by (Some t) supby delby waived unheld waives = absurd (true≢false unheld)

module _ (g : Global) (c : Choice) (dels : List Id) (zone : Zone) (is_zone : IsZone zone) where
  abbrev gone : Id → Bool
  gone = is_taken_out g c dels zone

  abbrev less : Zone
  less = zone_less g c dels zone

  pub left_none : (x : Id) → entry_of zone x ≡ None → entry_of less x ≡ None
  left_none x at =
      entry_of_less g c dels zone is_zone x ∙ ap (λ o. passing has_content (option_map (entry_less gone) o)) at

  pub left_some : (x : Id) (e : Entry) → entry_of zone x ≡ Some e → entry_less gone e ≡ old_entry less x
  left_some x e at = by (has_content (entry_less gone e)) refl
    where
      found : entry_of less x ≡ passing has_content (Some (entry_less gone e))
      found =
          entry_of_less g c dels zone is_zone x ∙ ap (λ o. passing has_content (option_map (entry_less gone) o)) at

      id : (entry_less gone e).id ≡ x
      id = same_from e.id x (find_gives (λ v. bytes_eq v.id x) zone.entries e at).0

      waives : IsTrue (waives_applied (entry_less gone e))
      waives = entry_less_waives gone e
          (All_find (λ e. IsTrue (waives_applied e)) (λ v. bytes_eq v.id x) zone.entries e is_zone.waived at)

      by : (b : Bool) → has_content (entry_less gone e) ≡ b → entry_less gone e ≡ old_entry less x
      by true held =
          sym (ap (λ o. unwrap_or o (bare_entry x)) (found
          ∙ ap (λ b. if b then Some (entry_less gone e) else None) held))
      by false unheld =
          bare (entry_less gone e) x id unheld waives
          ∙ sym (ap (λ o. unwrap_or o (bare_entry x)) (found
          ∙ ap (λ b. if b then Some (entry_less gone e) else None) unheld))

-- the entry that a zone has is held
pub old_held : (zone : Zone) → IsZone zone → (x : Id) → entry_of zone x ≡ if_held (old_entry zone x)
old_held zone is_zone x = by (entry_of zone x) refl
  where
    by : (o : Option Entry) → entry_of zone x ≡ o → o ≡ if_held (unwrap_or o (bare_entry x))
    by None at = refl
    by (Some e) at = sym (ap (λ b. if b then Some e else None)
        (All_find (λ e. IsTrue (has_content e)) (λ v. bytes_eq v.id x) zone.entries e is_zone.held at))

-- ---- who has deleted an id

-- what the deletions do not have, no SYSMOD names
pub named_by_none : (c : Choice) (kept : List Id) (x : Id) → (¬ Contains (deletions c kept) x)
    → find (λ k. is_in (del_of c k) x) kept ≡ None
named_by_none c kept x out = by (find (λ k. is_in (del_of c k) x) kept) refl
  where
    by : (o : Option Id) → find (λ k. is_in (del_of c k) x) kept ≡ o → o ≡ None
    by None at = refl
    by (Some k) at =
        let gives = find_gives (λ k. is_in (del_of c k) x) kept k at in
        absurd (out (in_flat (del_of c) kept k x gives.1 (Contains_from_is_in (del_of c k) x gives.0)))

module _ (d : Deleting) (dels : AreDeletions d) where
  pub delby_is : (bypassed : List (Id × Id)) (date : Text) (x : Id)
      → delby_left d x
      ≡ delby_after (installation d.left.vers.now.global.now (choice_of d) (number_in d.left.vers.now)
      d.left.zone.now d.kept.now
      bypassed date) x
  unfolding delby_after
  delby_is bypassed date x = by (delby_of d.left.zone.now x)
    where
      meeting : Id → Bool
      meeting k = is_deleted d.left.vers.now.global.now (choice_of d) (del_of (choice_of d) k) x

      naming : Id → Bool
      naming k = is_in (del_of (choice_of d) k) x

      either : (b : Bool) → (if b then find meeting d.kept.now else find naming d.kept.now)
          ≡ slice_get (if b then filter meeting d.kept.now else filter naming d.kept.now) 0
      either true = sym (first_kept meeting d.kept.now)
      either false = sym (first_kept naming d.kept.now)

      by : (o : Option Id) → (if is_some o then o else first_deleter d x)
          ≡ (if is_some o then o else slice_get
          (if is_function d.left.vers.now.global.now x && is_taken_out d.left.vers.now.global.now (choice_of d)
          (deletions (choice_of d) d.kept.now) d.left.zone.now x
          then filter (λ k. is_deleted d.left.vers.now.global.now (choice_of d) (del_of (choice_of d) k) x) d.kept.now
          else filter (λ k. is_in (del_of (choice_of d) k) x) d.kept.now) 0)
      by (Some k) = refl
      by None = either (is_function_gone d x)
          ∙ ap (λ ds. slice_get
          (if is_function d.left.vers.now.global.now x && is_taken_out d.left.vers.now.global.now (choice_of d) ds
          d.left.zone.now x
          then filter (λ k. is_deleted d.left.vers.now.global.now (choice_of d) (del_of (choice_of d) k) x) d.kept.now
          else filter (λ k. is_in (del_of (choice_of d) k) x) d.kept.now) 0) dels

  -- ---- an id that is not at stake

  module _ (is_zone : IsZone d.left.zone.now) (x : Id) (out : ¬ Contains (at_stake d.left.zone.now d.left.dels.now)
      x) where
    -- it is not deleted, and its entry stands
    record Stays : Type 0 where
      pub not_named : ¬ Contains d.left.dels.now x
      pub not_gone : is_gone d.left x ≡ false
      pub same : entry_of (left_of d.left) x ≡ entry_of d.left.zone.now x

    none_there : (ds : List Id) → (¬ Contains (ds ++ map (λ e. e.id) d.left.zone.now.entries) x)
        → entry_of d.left.zone.now x ≡ None
    none_there ds free = by (entry_of d.left.zone.now x) refl
      where
        by : (o : Option Entry) → entry_of d.left.zone.now x ≡ o → o ≡ None
        by None at = refl
        by (Some e) at =
            let gives = find_gives (λ v. bytes_eq v.id x) d.left.zone.now.entries e at in
            absurd (free (Contains-append_right ds (map (λ e. e.id) d.left.zone.now.entries) x
            (subst (Contains (map (λ e. e.id) d.left.zone.now.entries)) (same_from e.id x gives.0)
            (in_map (λ (e : Entry). e.id) d.left.zone.now.entries e gives.1))))

    stays : Stays
    stays = by d.left.dels.now refl
      where
        by : (ds : List Id) → d.left.dels.now ≡ ds → Stays
        by [] none = record {
          not_named = λ h. none_in x (subst (λ ds. Contains ds x) none h);
          not_gone = ap (λ ds. is_taken_out d.left.vers.now.global.now (choice_of d) ds d.left.zone.now x) none
              ∙ is_taken_out_none d.left.vers.now.global.now (choice_of d) d.left.zone.now x;
          same = ap (λ ds. entry_of (zone_less d.left.vers.now.global.now (choice_of d) ds d.left.zone.now) x) none
              ∙ ap (λ z. entry_of z x) (zone_less_none d.left.vers.now.global.now (choice_of d) d.left.zone.now
              is_zone.held);
        }
        by (y ∷ ys) some =
            let free : ¬ Contains ((y ∷ ys) ++ map (λ e. e.id) d.left.zone.now.entries) x =
            subst (λ ds. ¬ Contains (at_stake d.left.zone.now ds) x) some out in
            let none = none_there (y ∷ ys) free in
            record {
              not_named = λ h. free (Contains-append_left (y ∷ ys) (map (λ e. e.id) d.left.zone.now.entries) x
                  (subst (λ ds. Contains ds x) some h));
              not_gone = ap (λ o. option_map_or (λ (e : Entry). is_some e.applied) o false
                  && is_deleted d.left.vers.now.global.now (choice_of d) d.left.dels.now x) none;
              same = left_none d.left.vers.now.global.now (choice_of d) d.left.dels.now d.left.zone.now is_zone x
                  none ∙ sym none;
            }

    pub entry_stays : entry_of (left_of d.left) x ≡ entry_of d.left.zone.now x
    entry_stays = stays.same

    pub delby_stays : delby_left d x ≡ (old_entry (left_of d.left) x).delby
    delby_stays = by (delby_of d.left.zone.now x) ∙ read (entry_of d.left.zone.now x)
        ∙ sym (ap (λ o. (unwrap_or o (bare_entry x)).delby) stays.same)
      where
        undeleted : first_deleter d x ≡ None
        undeleted = ap (λ b. if b then first_meeting d x else first_naming d x)
            (part (is_function d.left.vers.now.global.now x))
            ∙ named_by_none (choice_of d) d.kept.now x
            (λ h. stays.not_named (subst (λ ds. Contains ds x) (sym dels) h))
          where
            part : (b : Bool) → (b && is_gone d.left x) ≡ false
            part true = stays.not_gone
            part false = refl

        by : (o : Option Id) → (if is_some o then o else first_deleter d x) ≡ o
        by (Some k) = refl
        by None = undeleted

        read : (o : Option Entry) → option_and_then (λ e. e.delby) o ≡ (unwrap_or o (bare_entry x)).delby
        read None = refl
        read (Some e) = refl
