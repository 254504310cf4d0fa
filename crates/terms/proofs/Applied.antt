-- The ids that are applied in a zone.
use Rattle.std.proofs.Common.{◌≡◌, Bool, false, List, [], ◌∷◌, filter, find, is_some, Option, None, Some, Contains}
use Rattle.std.proofs.Common.{IsTrue, refl, sym, subst, ap, ◌∙◌, ◌↔◌, true≢false, inl, inr}
use Rattle.std.specs.Option.{option_map_or}
use Rattle.std.specs.Ordering.{is_lt, nat_cmp}
use Rattle.std.specs.Cmp.Lexicographic.{slice_cmp}
use Rattle.std.specs.Str.{bytes_eq}
use Rattle.terms.specs.Rising.{Rises}
use Rattle.terms.specs.Types.{Id, Entry, Zone}
use Rattle.terms.specs.Lookups.{IsZone, entry_of, is_applied, applied_ids}
use Rattle.terms.proofs.ListMembers.{none_in, here_or, in_map, map_in, filter_in, in_filter}
use Rattle.terms.proofs.Searches.{find_gives}
use Rattle.terms.proofs.TextOrder.{same_from, same_itself, other_from_less}
use Rattle.terms.proofs.Pairs.{AllPairs_first, AllPairs_rest}
use Rattle.terms.proofs.Orderings.{Less_from_is_lt}
use Rattle.std.proofs.Common.{true}
use Rattle.std.specs.Option.{option_and_then}
use Rattle.terms.proofs.Options.{some_from}
use Rattle.terms.specs.Types.{Applied}
use Rattle.terms.specs.Lookups.{applied_of}

-- an entry is found at its own id
pub found_itself : (es : List Entry) → Rises (slice_cmp nat_cmp) (λ e. e.id) es → (e : Entry) → Contains es e
    → find (λ v. bytes_eq v.id e.id) es ≡ Some e
found_itself [] rising e h = absurd (none_in e h)
found_itself (v ∷ es) rising e h = elim (here_or v es e h) [
  | inl same ↦ subst (λ (w : Entry). find (λ u. bytes_eq u.id w.id) (v ∷ es) ≡ Some w) same (rw (same_itself v.id) refl)
  | inr later ↦ (
      let less = subst (λ (w : Entry). IsTrue (is_lt (slice_cmp nat_cmp v.id w.id))) later.2
      (AllPairs_first Below v es rising later.0 e later.1) in
      rw (other_from_less v.id e.id (Less_from_is_lt (slice_cmp nat_cmp v.id e.id) less))
      (found_itself es (AllPairs_rest Below v es rising) e later))
]
  where
    Below : Entry → Entry → Type 0
    Below a b = IsTrue (is_lt (slice_cmp nat_cmp a.id b.id))

-- what is applied has a date and a number
pub is_applied_dated : (zone : Zone) (x : Id) → is_applied zone x ≡ is_some (applied_of zone x)
is_applied_dated zone x = by (entry_of zone x)
  where
    by : (o : Option Entry)
        → option_map_or (λ e. is_some e.applied) o false ≡ is_some (option_and_then (λ e. e.applied) o)
    by None = refl
    by (Some e) = refl

pub applied_dated : (zone : Zone) (x : Id) → is_applied zone x ≡ true → (a : Applied) × (applied_of zone x ≡ Some a)
applied_dated zone x on = some_from (applied_of zone x) (sym (is_applied_dated zone x) ∙ on)

-- the applied ids are those that are applied
abbrev pub AppliedAre : Zone → Type 0
AppliedAre zone = (y : Id) → Contains (applied_ids zone) y ↔ IsTrue (is_applied zone y)

abbrev on : Option Entry → Bool
on o = option_map_or (λ e. is_some e.applied) o false

-- what is applied is one of the applied ids
pub in_applied_ids : (zone : Zone) (y : Id) → IsTrue (is_applied zone y) → Contains (applied_ids zone) y
in_applied_ids zone y applied = by (entry_of zone y) refl
  where
    by : (o : Option Entry) → entry_of zone y ≡ o → Contains (applied_ids zone) y
    by None e = absurd (true≢false (sym applied ∙ ap on e))
    by (Some f) e =
        let gives = find_gives (λ v. bytes_eq v.id y) zone.entries f e in
        subst (Contains (applied_ids zone)) (same_from f.id y gives.0)
        (in_map (λ v. v.id) (filter (λ v. is_some v.applied) zone.entries) f
        (in_filter (λ v. is_some v.applied) zone.entries f gives.1 (sym (ap on e) ∙ applied)))

pub applied_are : (zone : Zone) → IsZone zone → AppliedAre zone
applied_are zone form y = (there, in_applied_ids zone y)
  where
    there : Contains (applied_ids zone) y → IsTrue (is_applied zone y)
    there h =
        let from = map_in (λ e. e.id) (filter (λ e. is_some e.applied) zone.entries) y h in
        let kept = filter_in (λ e. is_some e.applied) zone.entries from.0 from.1 in
        subst (λ w. IsTrue (is_applied zone w)) from.2
        (ap on (found_itself zone.entries form.entries from.0 kept.0) ∙ kept.1)
