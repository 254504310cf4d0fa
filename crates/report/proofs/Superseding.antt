-- The search back from an id over those that name it in SUP.
use Rattle.std.proofs.Common.{◌≡◌, ◌⊎◌, inl, inr, ℕ, ◌+◌, ◌-◌, ◌<◌, ◌≤◌, Bool, true, List, [], ◌∷◌, ◌++◌, length, refl}
use Rattle.std.proofs.Common.{sym, subst, subst₂, get_or, Option, None, Some, Contains, IsTrue, map, filter}
use Rattle.std.specs.Prelude.{◌↔◌, slice_get}
use Rattle.std.specs.Option.{option_map_or}
use Rattle.std.specs.Str.{bytes_eq}
use Rattle.std.proofs.lemmas.List.Elements.{Contains-append_left, Contains-append_right}
use Rattle.terms.proofs.Ids.{is_in_from_Contains, Contains_from_is_in}
use Rattle.terms.proofs.Leads.{reaches_named, reaches_first, reaches_back, all_reached}
use Rattle.terms.proofs.ListMembers.{here, here_or, none_in, in_map, in_filter, filter_in, in_flat}
use Rattle.terms.proofs.Places.{contains_at}
use Rattle.terms.proofs.Searches.{find_gives}
use Rattle.terms.proofs.TextOrder.{same_from}
use Rattle.terms.specs.declared.codes.NeedKind.{NeedKind}
use Rattle.terms.specs.Types.{Text, Id, Ver, Sysmod, Global, Zone}
use Rattle.terms.specs.Global.{named, names_for}
use Rattle.terms.specs.Lookups.{sysmod_of, is_in, at_most_one}
use Rattle.terms.specs.Choice.{Choice, vers_of, counting, sup_of}
use Rattle.terms.specs.Needs.{takes_superseder, Serves}
use Rattle.terms.specs.Over.{Supersedes}
use Rattle.sysmods.specs.declared.ver_choice.VerChoice.{VerChoice}
use Rattle.sysmods.specs.Choices.{has_ver, choice, number_in}
use Rattle.sysmods.specs.Held.{zone_of}
use Rattle.sysmods.specs.Namers.{namers_for}
use Rattle.sysmods.specs.Seen.{AddsAll, IsGoing}
use Rattle.sysmods.proofs.Going.{going_start, going_next, going_end}
use Rattle.sysmods.proofs.Growth.{adds_none, adds_insert}
use Rattle.indexmap.specs.IndexSet.{insert_key}
use Rattle.machine.specs.Errsysmods.{Resolves}
use Rattle.report.specs.Superseders.{direct_superseders}

-- what has a ++VER is received
pub received : (g : Global) (srel : Text) (x : Id) (v : Ver) → Contains (vers_of g srel x) v
    → Contains (map (λ s. s.id) g.sysmods) x
received g srel x v = by (sysmod_of g x) refl
  where
    by : (o : Option Sysmod) → sysmod_of g x ≡ o
        → Contains (option_map_or (λ s. filter (λ v. bytes_eq v.srel srel) s.vers) o []) v
        → Contains (map (λ s. s.id) g.sysmods) x
    by None at is = absurd (none_in v is)
    by (Some s) at is =
        let gives = find_gives (λ s. bytes_eq s.id x) g.sysmods s at in
        subst (Contains (map (λ s. s.id) g.sysmods)) (same_from s.id x gives.0)
        (in_map (λ s. s.id) g.sysmods s gives.1)

-- what names anything in SUP has a ++VER that does
pub sup_by : (g : Global) (srel : Text) (places : Id → ℕ) (x z : Id)
    → Contains (sup_of (λ y. slice_get (vers_of g srel y) (places y)) x) z
    → (v : Ver) × Contains (vers_of g srel x) v × Contains v.sup z
sup_by g srel places x z = by (slice_get (vers_of g srel x) (places x)) refl
  where
    by : (o : Option Ver) → slice_get (vers_of g srel x) (places x) ≡ o → Contains (option_map_or (λ v. v.sup) o []) z
        → (v : Ver) × Contains (vers_of g srel x) v × Contains v.sup z
    by None at is = absurd (none_in z is)
    by (Some v) at is = (v, contains_at (vers_of g srel x) (places x) v at, is)

-- SUP is among what a ++VER names
sup_named : (v : Ver) (z : Id) → Contains v.sup z → Contains (named v) z
sup_named v z is =
    Contains-append_left (v.pre ++ v.sup) (at_most_one v.fmid) z (Contains-append_right v.pre v.sup z is)

-- they are those that name it
pub direct_are : (vers : VerChoice) (z y : Id)
    → Contains (direct_superseders vers z) y ↔ Contains (sup_of (choice vers) y) z
direct_are vers z y = (
  λ h. Contains_from_is_in (sup_of (choice vers) y) z (filter_in names namers y h).1,
  λ h.
      let by = sup_by g srel (λ x. number_in vers x - 1) y z h in
      let own = is_in_from_Contains (names_for (zone_of g.sysmods) srel y) z
      (in_flat named (vers_of g srel y) by.0 z by.1 (sup_named by.0 z by.2)) in
      in_filter names namers y
      (in_filter (λ x. is_in (names_for (zone_of g.sysmods) srel x) z) (map (λ s. s.id) g.sysmods) y
      (received g srel y by.0 by.1) own)
      (is_in_from_Contains (sup_of (choice vers) y) z h),
)
  where
    g : Global
    g = vers.global.now

    srel : Text
    srel = vers.srel

    names : Id → Bool
    names x = is_in (sup_of (choice vers) x) z

    namers : List Id
    namers = namers_for g.sysmods srel z

module _ (vers : VerChoice) (id : Id) where
  abbrev next : Id → List Id
  next = direct_superseders vers

  abbrev Begins : Id → Type 0
  Begins y = y ≡ id

  abbrev pub Belongs : Id → Type 0
  Belongs y = (y ≡ id) ⊎ Supersedes (choice vers) y id

  abbrev pub IsSearching : List Id → ℕ → Type 0
  IsSearching seen gone = IsGoing next Begins Belongs seen gone

  pub searching_first : (seen : List Id) → seen ≡ insert_key bytes_eq [] id → IsSearching seen 0
  searching_first seen is =
      going_start next Begins Belongs (id ∷ []) seen
      (λ z h. elim (here_or id [] z h) [ inl same ↦ inl (sym same) | inr none ↦ absurd (none_in z none) ])
      (λ z same. subst (Contains (id ∷ [])) (sym same) (here id []))
      (subst (AddsAll [] (id ∷ [])) (sym is) (adds_insert [] [] [] id (adds_none [])))

  belongs_more : (y z : Id) → Belongs y → Contains (next y) z → Belongs z
  belongs_more y z (inl same) named =
      inr (reaches_named (sup_of (choice vers)) z id
      (subst (Contains (sup_of (choice vers) z)) same ((direct_are vers y z).0 named)))
  belongs_more y z (inr over) named =
      inr (reaches_first (sup_of (choice vers)) z y id ((direct_are vers y z).0 named) over)

  pub searching_next : (old new : List Id) (gone : ℕ) (y : Id) → gone < length old → y ≡ get_or old gone y
      → AddsAll old (next y) new → IsSearching old gone → IsSearching new (gone + 1)
  searching_next = going_next next Begins Belongs belongs_more

  -- having gone through all, it has seen the id and all that supersede it
  pub searching_last : (seen : List Id) (gone : ℕ) → length seen ≤ gone → IsSearching seen gone
      → (y : Id) → Contains seen y ↔ Belongs y
  searching_last seen gone ended s y = (
    s.sound y,
    λ h. elim h [
      | inl same ↦ s.first y same
      | inr over ↦ all_reached next (Contains seen) id (λ w named. closed id w (s.first id refl) named) closed y
          (reaches_back (sup_of (choice vers)) next (λ x z named. (direct_are vers z x).1 named) y id over)
    ],
  )
    where
      closed : (x z : Id) → Contains seen x → Contains (next x) z → Contains seen z
      closed = going_end next Begins Belongs seen gone ended s

-- they serve a need that superseders serve
pub serves_above : (c : Choice) (kind : NeedKind) (id : Id) (ids : List Id) → takes_superseder kind ≡ true
    → ((y : Id) → Contains ids y ↔ ((y ≡ id) ⊎ Supersedes c y id)) → (y : Id) → Contains ids y ↔ Serves c kind y id
serves_above c kind id ids takes are y = (
  λ h. elim ((are y).0 h) [ inl same ↦ inl same | inr above ↦ inr (takes, above) ],
  λ s. (are y).1 (elim s [ inl same ↦ inl same | inr both ↦ inr both.1 ]),
)

-- those of what was seen that pass a test
pub kept_of : (test : Id → Bool) (Of : Id → Type 0) (seen kept ids : List Id) → kept ≡ filter test seen
    → ((y : Id) → Contains ids y ↔ Contains kept y) → ((y : Id) → Contains seen y ↔ Of y)
    → (y : Id) → Contains ids y ↔ (IsTrue (test y) × Of y)
kept_of test Of seen kept ids is same of y = (
  λ h. let f = filter_in test seen y (subst (λ l. Contains l y) is ((same y).0 h)) in (f.1, (of y).0 f.0),
  λ h. (same y).1 (subst (λ l. Contains l y) (sym is) (in_filter test seen y ((of y).1 h.1) h.0)),
)

-- by the choice that counts in a zone
pub resolves_as : (g : Global) (zone : Zone) (vers : VerChoice) (reason : Id) → vers.global.now ≡ g
    → vers.srel ≡ zone.srel → choice vers ≡ counting g zone [] → (y : Id)
    → (IsTrue (has_ver vers.global.now vers.srel y) × ((y ≡ reason) ⊎ Supersedes (choice vers) y reason))
    ↔ Resolves g zone reason y
resolves_as g zone vers reason global srel counts y = (
  λ h. record {
    fits = subst₂ (λ g s. IsTrue (has_ver g s y)) global srel h.0;
    reaches = subst (λ c. (y ≡ reason) ⊎ Supersedes c y reason) counts h.1;
  },
  λ r. (
    subst₂ (λ g s. IsTrue (has_ver g s y)) (sym global) (sym srel) r.fits,
    subst (λ c. (y ≡ reason) ⊎ Supersedes c y reason) (sym counts) r.reaches,
  ),
)
