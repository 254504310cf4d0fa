-- If no SYSMOD has two ++VERs for an SREL, the same ++VERs count for every command, and all that is said by one choice
-- of ++VERs is true by the other.
use Rattle.std.proofs.Common.{◌≡◌, ◌∙◌, ◌≤◌, ◌-◌, ℕ, zero, suc, List, [], ◌∷◌, ◌++◌, Option, None, Some}
use Rattle.std.proofs.Common.{Contains, IsSome, is_some, length, inl, inr, refl, sym, ap, subst, arith, true}
use Rattle.std.proofs.Common.{true≢false}
use Rattle.std.specs.Prelude.{slice_get, position, unwrap_or, if◌then◌else◌}
use Rattle.std.specs.Option.{option_map_or, option_and_then}
use Rattle.terms.specs.Types.{Id, Ver, Applied, Global, Element, Zone}
use Rattle.terms.specs.Lookups.{at_most_one, is_in, is_applied, is_function, applied_of}
use Rattle.terms.specs.Choice.{Choice, vers_of, fits, place, counting, fmid_of, pre_of, sup_of}
use Rattle.terms.specs.Over.{names, IsOver, owner}
use Rattle.terms.specs.Closed.{IsSupported, IsClosedZone}
use Rattle.terms.proofs.Applied.{is_applied_dated}
use Rattle.terms.proofs.Leads.{reaches_more}
use Rattle.terms.proofs.Searches.{first_of_one}
use Rattle.machine_laws.proofs.AppliedIds.{of_applied}
use Rattle.machine_laws.proofs.KeptChoice.{counts_whatever}
use Rattle.terms.specs.Stream.{IsInStream, IsClean, IsInLevel, HasAllFixes, HasOwners}
use Rattle.terms.specs.Stream.{ver_for, IsCleanFor}
use Rattle.stream_laws.proofs.Below.{names_in_stream}

-- ---- the ++VER that counts

-- of one item or none, the one that is there is the first
only_first : {X : Type 0} (xs : List X) (n : ℕ) → length xs ≤ 1 → is_some (slice_get xs n) ≡ true
    → slice_get xs n ≡ slice_get xs 0
only_first [] n few there = refl
only_first (x ∷ xs) zero few there = refl
only_first (x ∷ []) (suc n) few there = absurd (true≢false (sym there))
only_first (x ∷ y ∷ xs) (suc n) few there = absurd (omega (arith, few))

pub counts_for : (g : Global) (zone : Zone) (cands : List Id) → IsClosedZone g (counting g zone []) zone
    → ((x : Id) → length (vers_of g zone.srel x) ≤ 1) → (x : Id) → counting g zone cands x ≡ ver_for g zone.srel x
counts_for g zone cands closed single x = by (applied_of zone x) refl
  where
    by : (o : Option Applied) → applied_of zone x ≡ o → counting g zone cands x ≡ ver_for g zone.srel x
    by None at = ap (slice_get (vers_of g zone.srel x))
        (ap (λ o. option_map_or (λ (a : Applied). a.number - 1) o
        (unwrap_or (position (fits zone (is_in cands)) (vers_of g zone.srel x)) 0)) at
        ∙ first_of_one (fits zone (is_in cands)) (vers_of g zone.srel x) (single x))
    by (Some a) at =
        let on : is_applied zone x ≡ true = is_applied_dated zone x ∙ ap is_some at in
        only_first (vers_of g zone.srel x) (place g zone cands x) (single x)
        (ap is_some (counts_whatever g zone cands [] x on)
        ∙ (of_applied (IsSupported (counting g zone []) zone) zone closed.supported x on).received)

-- ---- by one choice, and by another that is the same

abbrev named_by : Option Ver → List Id
named_by o = option_map_or (λ v. v.pre) o [] ++ option_map_or (λ v. v.sup) o []
    ++ at_most_one (option_and_then (λ v. v.fmid) o)

pub over_by : (was now : Choice) (x z : Id) → ((y : Id) → IsInStream was y → was y ≡ now y) → IsOver was x z
    → IsOver now x z
over_by was now x z same = reaches_more (names was) (names now) more x z
  where
    more : (y w : Id) → Contains (names was y) w → Contains (names now y) w
    more y w named = subst (λ o. Contains (named_by o) w) (same y (names_in_stream was y w named)) named

pub level_by : (was now : Choice) (e : Element) (y : Id) → ((x : Id) → IsInStream was x → was x ≡ now x)
    → IsInLevel was e y → IsInLevel now e y
level_by was now e y same (r, within, inl is) = (r, within, inl is)
level_by was now e y same (r, within, inr over) = (r, within, inr (over_by was now r y same over))

module _ (g : Global) (was now : Choice) (same : (x : Id) → was x ≡ now x) where
  was_in : (x : Id) → IsInStream now x → IsInStream was x
  was_in x = subst IsSome (sym (same x))

  pub same_owner : (x : Id) → owner g was x ≡ owner g now x
  same_owner x = ap (λ (o : Option Ver). if is_function g x then x else unwrap_or (option_and_then (λ v. v.fmid) o) x)
      (same x)

  abbrev sup_in : Option Ver → List Id
  sup_in o = option_map_or (λ v. v.sup) o []

  now_sup : (x z : Id) → Contains (sup_of was x) z → Contains (sup_of now x) z
  now_sup x z = subst (λ o. Contains (sup_in o) z) (same x)

  was_sup : (x z : Id) → Contains (sup_of now x) z → Contains (sup_of was x) z
  was_sup x z = subst (λ o. Contains (sup_in o) z) (sym (same x))

  was_pre : (x z : Id) → Contains (pre_of now x) z → Contains (pre_of was x) z
  was_pre x z = subst (λ o. Contains (option_map_or (λ v. v.pre) o []) z) (sym (same x))

  now_required : (x z : Id) → Contains (pre_of was x ++ sup_of was x) z → Contains (pre_of now x ++ sup_of now x) z
  now_required x z = subst (λ o. Contains (option_map_or (λ v. v.pre) o [] ++ sup_in o) z) (same x)

  same_fmid : (x : Id) → fmid_of was x ≡ fmid_of now x
  same_fmid x = ap (option_and_then (λ v. v.fmid)) (same x)

  pub clean_by : IsClean g was → IsClean g now
  clean_by clean = record {
    ordered = λ x y of_x of_y other owners share.
        elim (clean.ordered x y (was_in x of_x) (was_in y of_y) other (same_owner x ∙ owners ∙ sym (same_owner y))
        share) [
          | inl over ↦ inl (over_by was now x y (λ z there. same z) over)
          | inr under ↦ inr (over_by was now y x (λ z there. same z) under)
        ];
    requisites = λ x y of_y named.
        let has = clean.requisites x y (was_in y of_y) (was_sup x y named) in
        record {
          fmid = sym (same_fmid x) ∙ has.fmid ∙ same_fmid y;
          pre = λ z pre. now_required x z (has.pre z (was_pre y z pre));
          sup = λ z sup. now_sup x z (has.sup z (was_sup y z sup));
        };
    elements = λ x y of_y named. clean.elements x y (was_in y of_y) (was_sup x y named);
  }

  pub fixes_by : (zone : Zone) → HasAllFixes g was zone → HasAllFixes g now zone
  fixes_by zone fixes y of_y there type name changes =
      let fix = fixes y (was_in y of_y) there type name changes in
      (fix.0, fix.1, level_by was now fix.0 y (λ x of_x. same x) fix.2)

  pub owners_by : (zone : Zone) → HasOwners g was zone → HasOwners g now zone
  owners_by zone owners y on type name changes e found = sym (same_owner y) ∙ owners y on type name changes e found

-- In a closed zone a clean stream is clean by the ++VERs that count, whatever the candidates are.
pub clean_by_what_counts : (g : Global) (zone : Zone) (cands : List Id) → IsClosedZone g (counting g zone []) zone
    → IsCleanFor g zone.srel → IsClean g (counting g zone cands)
clean_by_what_counts g zone cands closed clean =
    clean_by g (ver_for g zone.srel) (counting g zone cands)
    (λ x. sym (counts_for g zone cands closed clean.single x)) clean.clean
