-- Where no SYSMOD has two ++VERs of one SREL, all is as if there were one ++VER for each SREL.
use Rattle.std.proofs.Common.{◌≡◌, ◌≤◌, ◌+◌, ◌-◌, ◌∙◌, Bool, true, false, not, List, [], ◌∷◌, length, Option, None}
use Rattle.std.proofs.Common.{Some, All, Contains, Any, IfSome, IsTrue, IsFalse, get_or, refl, sym, ap, subst}
use Rattle.std.proofs.Common.{arith, eq-eqb}
use Rattle.std.specs.Prelude.{◌↔◌, ◌&&◌, ◌==◌, position, slice_get, unwrap_or}
use Rattle.std.specs.List.{list_any}
use Rattle.std.specs.Option.{option_map_or, option_and_then}
use Rattle.std.specs.Str.{bytes_eq}
use Rattle.std.proofs.lemmas.Bool.{and_parts}
use Rattle.std.proofs.lemmas.List.Elements.{All-contains, All-contains_itself}
use Rattle.std.proofs.lemmas.List.Folds.{list_any_none}
use Rattle.std.proofs.lemmas.List.Sums.{length-filter, count_by-le-length}
use Rattle.terms.proofs.ListMembers.{there}
use Rattle.terms.proofs.Pairs.{pairs_unmap}
use Rattle.terms.proofs.Searches.{All_find, All_from_no_list_any, find_gives}
use Rattle.terms.specs.Types.{Text, Id, Ver, Applied, Change, Global, Entry, Element, Zone, NamedZone}
use Rattle.terms.specs.Lookups.{at_most_one, is_in, is_before, is_applied, applied_of, entry_of, changes_of}
use Rattle.terms.specs.Lookups.{element_of, element_eq, element_key}
use Rattle.terms.specs.Choice.{Choice, vers_of, fits, place, counting}
use Rattle.terms.specs.Tests.{Setting}
use Rattle.terms.specs.Restore.{Restoring, are_applied, is_alike, are_alike, may_return, ChangesOtherLevel}
use Rattle.terms.specs.Closed.{IsClosedZone, IsOwned}
use Rattle.store_schema.specs.Inventory.{Inventory}
use Rattle.store_schema.specs.Earlier.{IsOfEarlier}
use Rattle.sysmods.proofs.OneVer.{HasSingleVers, one_ver, first_place}
use Rattle.change.proofs.KeptTogether.{unsupplied}
use Rattle.machine_laws.proofs.Decisions.{candidate_open}
use Rattle.machine_laws.specs.Singles.{OneCounts, NeverSeveralFit, FirstInstalls, LevelAsksApplied}
use Rattle.machine_laws.proofs.KeptChoice.{undated}
use Rattle.machine_laws.proofs.Installable.{not_supplied}
use Rattle.terms.proofs.Applied.{applied_dated}

single_vers : (i : Inventory) → IsOfEarlier i → HasSingleVers i.global
single_vers i is = λ k d below.
    pairs_unmap (λ (a b : Ver). IsTrue (is_before a.srel b.srel)) (λ (x y : Text). IsTrue (is_before x y))
    (λ (v : Ver). v.srel) (λ a b lower. lower) (get_or i.global.sysmods k d).vers (is.singles k d below)

-- what is applied has number 1
abbrev HasFirsts : Zone → Type 0
HasFirsts zone = All (λ e. IfSome e.applied (λ a. a.number ≡ 1)) zone.entries

first_number : (zone : Zone) → HasFirsts zone → (x : Id) (a : Applied) → applied_of zone x ≡ Some a → a.number ≡ 1
first_number zone firsts x a = by (entry_of zone x) refl
  where
    by : (o : Option Entry) → entry_of zone x ≡ o → option_and_then (λ e. e.applied) o ≡ Some a → a.number ≡ 1
    by None found at = absurd (cc at)
    by (Some e) found at = subst (λ o. IfSome o (λ (a : Applied). a.number ≡ 1)) at
        (All_find (λ e. IfSome e.applied (λ a. a.number ≡ 1)) (λ e. bytes_eq e.id x) zone.entries e firsts found)

zone_firsts : (i : Inventory) → IsOfEarlier i → (z : NamedZone) → Contains i.zones z → HasFirsts z.zone
zone_firsts i is z there = All-contains (λ (z : NamedZone). HasFirsts z.zone) i.zones z is.firsts there

-- ---- what counts

first_is : (g : Global) → HasSingleVers g → (zone : Zone) → HasFirsts zone → (cands : List Id) (x : Id)
    → place g zone cands x ≡ 0
first_is g single zone firsts cands x = by (applied_of zone x) refl
  where
    by : (o : Option Applied) → applied_of zone x ≡ o → place g zone cands x ≡ 0
    by None at = first_place g zone cands x single at
    by (Some a) at = ap (λ o. option_map_or (λ (a : Applied). a.number - 1) o
        (unwrap_or (position (fits zone (is_in cands)) (vers_of g zone.srel x)) 0)) at
        ∙ ap (λ n. n - 1) (first_number zone firsts x a at)

only_one : {X : Type 0} (xs : List X) → length xs ≤ 1 → at_most_one (slice_get xs 0) ≡ xs
only_one [] few = refl
only_one (x ∷ []) few = refl
only_one (x ∷ y ∷ ys) few = absurd (omega (arith, few))

pub one_counts : OneCounts
one_counts i is z there cands x =
    ap (λ n. at_most_one (slice_get (vers_of i.global z.zone.srel x) n))
    (first_is i.global (single_vers i is) z.zone (zone_firsts i is z there) cands x)
    ∙ only_one (vers_of i.global z.zone.srel x) (one_ver i.global z.zone.srel x (single_vers i is))

pub never_several_fit : NeverSeveralFit
never_several_fit i is s same x several =
    let one = one_ver s.global s.zone.srel x (subst HasSingleVers (sym same) (single_vers i is)) in
    let fit = count_by-le-length (fits s.zone (is_in s.cands)) (vers_of s.global s.zone.srel x) in
    let counted = length-filter (fits s.zone (is_in s.cands)) (vers_of s.global s.zone.srel x) in
    omega (arith, one, fit, counted, several)

-- ---- installs

pub first_installs : FirstInstalls
first_installs i is zone related sel bypass date d decides x kept =
    ap (λ n. n.number x) decides.installing
    ∙ ap (λ n. n + 1) (first_place i.global zone decides.cands x (single_vers i is) (undated zone x off))
  where
    cand : Contains decides.cands x
    cand =
        let stays = (decides.kept.members x).0 kept in
        subst (λ (s : Setting). Contains s.cands x) decides.setting (stays.1.eligible x stays.2).0.0.0

    off : is_applied zone x ≡ false
    off = unsupplied zone x (not_supplied i.global zone x (and_parts _ _ (candidate_open i.global zone sel x
        ((decides.candidates.members x).0 cand))).0)

-- ---- OtherLevel

module _ (zone accepted : Zone) (of_zone : HasFirsts zone) (of_accepted : HasFirsts accepted) where
  both_first : (x : Id) → IsTrue (is_applied zone x) → IsTrue (is_applied accepted x) → is_alike zone accepted x ≡ true
  both_first x on too =
      let m = applied_dated zone x on in
      let n = applied_dated accepted x too in
      ap (λ o. option_map_or (λ (a : Applied). option_map_or (λ (b : Applied). a.number == b.number)
      (applied_of accepted x) false) o false) m.1
      ∙ ap (λ o. option_map_or (λ (b : Applied). m.0.number == b.number) o false) n.1
      ∙ eq-eqb m.0.number n.0.number
      (first_number zone of_zone x m.0 m.1 ∙ sym (first_number accepted of_accepted x n.0 n.1))

  -- where its ids are applied in both, they are so by one number
  alike_all : (e : Element) → ((x : Id) → Contains (e.fmid ∷ e.rmid ∷ e.umids) x → IsTrue (is_applied accepted x))
      → are_applied zone e ≡ true → are_alike zone accepted e ≡ true
  alike_all e too on = ap not (list_any_none (λ y. not (is_alike zone accepted y)) (e.rmid ∷ e.umids) (λ k d below.
      let x = get_or (e.rmid ∷ e.umids) k d in
      let among = there e.fmid (e.rmid ∷ e.umids) x (All-contains_itself (e.rmid ∷ e.umids) k d below) in
      ap not (both_first x (not_not (is_applied zone x)
      (All-contains (λ y. not (is_applied zone y) ≡ false) (e.fmid ∷ e.rmid ∷ e.umids) x
      (All_from_no_list_any (λ y. not (is_applied zone y)) (e.fmid ∷ e.rmid ∷ e.umids)
      (not_true (list_any (λ y. not (is_applied zone y)) (e.fmid ∷ e.rmid ∷ e.umids)) on)) among)) (too x among))))
    where
      not_not : (b : Bool) → not b ≡ false → b ≡ true
      not_not true e = refl
      not_not false e = absurd (cc e)

      not_true : (b : Bool) → not b ≡ true → b ≡ false
      not_true true e = absurd (cc e)
      not_true false e = refl

  module _ (g : Global) (c : Choice) (closed : IsClosedZone g (counting g accepted []) accepted) where
    abbrev r : Restoring
    r = record { global = g; choice = c; zone = zone; accepted = accepted }

    returns : (e : Element) → Contains accepted.elements e → may_return r e ≡ are_applied zone e
    returns e stands = by (are_applied zone e) refl
      where
        owned : IsOwned g (counting g accepted []) accepted e
        owned = All-contains (IsOwned g (counting g accepted []) accepted) accepted.elements e closed.elements stands

        by : (b : Bool) → are_applied zone e ≡ b → (b && are_alike zone accepted e) ≡ b
        by true on = alike_all e (λ x among. All-contains (λ y. IsTrue (is_applied accepted y))
            (e.fmid ∷ e.rmid ∷ e.umids) x owned.applied among) on
        by false on = refl

    abbrev element : Change → Option Element
    element h = element_of accepted h.elem_type h.name

    asks : (h : Change) → option_map_or (may_return r) (element h) true
        ≡ option_map_or (are_applied zone) (element h) true
    asks h = by (element h) refl
      where
        by : (o : Option Element) → element h ≡ o
            → option_map_or (may_return r) o true ≡ option_map_or (are_applied zone) o true
        by None at = refl
        by (Some e) at = returns e (find_gives (λ (v : Element). element_eq (element_key v) (h.elem_type, h.name))
            accepted.elements e at).1

    asks_applied : (x : Id) → ChangesOtherLevel r x
        ↔ Any (λ h. IsFalse (option_map_or (are_applied zone) (element h) true)) (changes_of g x)
    asks_applied x = (
      λ (k, h, below, at, fails). (k, h, below, at, sym (asks h) ∙ fails),
      λ (k, h, below, at, fails). (k, h, below, at, asks h ∙ fails),
    )

pub level_asks_applied : LevelAsksApplied
level_asks_applied i is closed target distribution of_target of_distribution c x =
    asks_applied target.zone distribution.zone (zone_firsts i is target of_target)
    (zone_firsts i is distribution of_distribution) i.global c
    (All-contains (λ z. IsClosedZone i.global (counting i.global z.zone []) z.zone) i.zones distribution closed
    of_distribution) x
