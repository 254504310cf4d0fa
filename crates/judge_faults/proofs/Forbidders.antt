-- What the pass over a zone's entries gathers: which applied functions name an id in NPRE.
use Rattle.std.proofs.Common.{◌≡◌, ◌∙◌, inl, inr, true, false, List, not, Contains, IsTrue, filter}
use Rattle.std.proofs.Common.{sym, subst, true≢false}
use Rattle.std.specs.Prelude.{is_some}
use Rattle.std.specs.List.{list_any}
use Rattle.std.specs.Ordering.{nat_cmp}
use Rattle.std.specs.declared.cmp.Ordering.{Ordering}
use Rattle.std.specs.Cmp.Lexicographic.{slice_cmp}
use Rattle.std.proofs.lemmas.Bool.{and_parts}
use Rattle.std.proofs.lemmas.List.Folds.{Any-from_list_any, list_any-from_Any}
use Rattle.sorted.specs.MultiMap.{MultiMap, listed, Gains}
use Rattle.sorted.proofs.Gaining.{gains_alike}
use Rattle.terms.specs.Types.{Id, Entry, Global, Zone}
use Rattle.terms.specs.Lookups.{IsZone, is_applied, is_function}
use Rattle.terms.specs.Choice.{Choice, npre_of}
use Rattle.terms.specs.Deleted.{is_deleted, zone_less}
use Rattle.terms.proofs.Applied.{in_applied_ids}
use Rattle.terms.proofs.ListMembers.{filter_in, map_in}
use Rattle.zones.proofs.Lookups.{is_applied_less}
use Rattle.judge_faults.specs.Forbidders.{ForbidsBy, AreForbidders, IsForbidden}

-- the order of ids
abbrev pub C : Id → Id → Ordering
C = slice_cmp nat_cmp

-- what is applied has an entry
applied_entry : (zone : Zone) (y : Id) → IsTrue (is_applied zone y)
    → (e : Entry) × Contains zone.entries e × (e.id ≡ y) × IsTrue (is_some e.applied)
applied_entry zone y on =
    let from = map_in (λ e. e.id) (filter (λ e. is_some e.applied) zone.entries) y (in_applied_ids zone y on) in
    let kept = filter_in (λ e. is_some e.applied) zone.entries from.0 from.1 in
    (from.0, kept.0, from.2, kept.1)

module _ (g : Global) (c : Choice) where
  -- the entry of an applied function
  pub gains_function : (old new : MultiMap Id Id) (e : Entry) → IsTrue (is_some e.applied) → IsTrue (is_function g e.id)
      → Gains C old new (λ z y. Contains (npre_of c e.id) z × (y ≡ e.id)) → Gains C old new (ForbidsBy g c e)
  gains_function old new e applied function =
      gains_alike C old new (λ z y. Contains (npre_of c e.id) z × (y ≡ e.id)) (ForbidsBy g c e) (λ z y. (
        λ h. record { id = h.1; applied = applied; function = function; names = h.0 },
        λ h. (h.names, h.id),
      ))

  module _ (dels : List Id) (zone : Zone) where
    abbrev left : Zone
    left = zone_less g c dels zone

    pub forbidden_names : (x : Id) → list_any (is_applied left) (npre_of c x) ≡ true → IsForbidden g c left x
    forbidden_names x on =
        let a = Any-from_list_any (is_applied left) (npre_of c x) on in (a.1, a.4, inl (a.0, a.2, a.3))

    module _ (all : MultiMap Id Id) (are : AreForbidders g c zone.entries all) where
      pub forbidden_listed : (x : Id) → list_any (is_applied left) (listed C all x) ≡ true
          → IsForbidden g c left x
      forbidden_listed x on =
          let a = Any-from_list_any (is_applied left) (listed C all x) on in
          let f = (are x a.1).0 (a.0, a.2, a.3) in (
            a.1,
            a.4,
            inr (
              subst (λ y. IsTrue (is_function g y)) (sym f.2.id) f.2.function,
              subst (λ y. Contains (npre_of c y) x) (sym f.2.id) f.2.names,
            ),
          )

      -- what is forbidden otherwise is so by a function
      pub forbidden_else : IsZone zone → (x : Id) → list_any (is_applied left) (npre_of c x) ≡ false
          → IsForbidden g c left x → list_any (is_applied left) (listed C all x) ≡ true
      forbidden_else is_zone x off (y, on, inl named) =
          absurd (true≢false (sym (list_any-from_Any (is_applied left) (npre_of c x)
          (named.0, y, named.1, named.2, on)) ∙ off))
      forbidden_else is_zone x off (y, on, inr by) =
          let there = and_parts (is_applied zone y) (not (is_deleted g c dels y))
          (sym (is_applied_less g c dels zone is_zone y) ∙ on) in
          let e = applied_entry zone y there.0 in
          let names = (are x y).1 (
            e.0,
            e.1,
            record {
              id = sym e.2;
              applied = e.3;
              function = subst (λ y. IsTrue (is_function g y)) (sym e.2) by.0;
              names = subst (λ y. Contains (npre_of c y) x) (sym e.2) by.1;
            },
          ) in
          list_any-from_Any (is_applied left) (listed C all x) (names.0, y, names.1, names.2, on)
