-- The ids whose entries something holds after an install.
use Rattle.std.proofs.Common.{◌≡◌, ◌∙◌, ◌⊎◌, inl, inr, Bool, true, false, not, List, [], ◌∷◌, Option, None, Some}
use Rattle.std.proofs.Common.{Contains, filter, map, refl, sym, ap, subst, true≢false, arith}
use Rattle.std.specs.Prelude.{◌&&◌, ◌||◌, is_some, slice_get, if◌then◌else◌}
use Rattle.std.specs.List.{flat_map}
use Rattle.std.specs.Option.{option_map_or, option_and_then}
use Rattle.std.specs.Str.{bytes_eq}
use Rattle.std.proofs.lemmas.Bool.{and_parts, or_cases}
use Rattle.terms.proofs.ListMembers.{here, there, none_in, in_map, filter_in, in_flat}
use Rattle.terms.proofs.Places.{contains_at}
use Rattle.terms.proofs.Searches.{find_gives}
use Rattle.terms.proofs.TextOrder.{same_from}
use Rattle.terms.specs.Types.{Id, Entry, Applied}
use Rattle.terms.specs.Lookups.{is_nil, is_in, is_function, has_content, entry_of}
use Rattle.terms.specs.Lookups.{applied_of, supby_of, delby_of}
use Rattle.terms.specs.Choice.{sup_of, del_of}
use Rattle.terms.specs.Over.{Reaches}
use Rattle.terms.specs.Deleted.{deletions, is_deleted, is_taken_out}
use Rattle.terms.specs.Install.{Installation, applied_with, cleared, deleters, delby_after}
use Rattle.terms.proofs.Ids.{Contains_from_is_in}
use Rattle.terms.proofs.Leads.{last_step}
use Rattle.change.proofs.Leaving.{left_none}
use Rattle.machine_laws.proofs.Effective.{IsSoundInstall, received, superseder_received, effective, in_effective}
use Rattle.machine_laws.proofs.Effective.{superseders, in_superseders}
use Rattle.machine_laws.proofs.EntryAfter.{applied_after, supby_after, made}
use Rattle.machine_laws.proofs.JoinedIds.{in_joined}

module _ (i : Installation) (sound : IsSoundInstall i) where
  zone_ids : List Id
  zone_ids = map (λ e. e.id) i.zone.entries

  -- what is kept, what has an entry, what is superseded, and what is deleted
  lists : List (List Id)
  lists = i.kept ∷ zone_ids ∷ flat_map (sup_of i.choice) (received i sound) ∷ deletions i.choice i.kept ∷ []

  pub concerned : List Id
  concerned = flat_map (λ ids. ids) lists

  among : (ids : List Id) → Contains lists ids → (x : Id) → Contains ids x → Contains concerned x
  unfolding concerned
  among ids of x is = in_flat (λ ids. ids) lists ids x of is

  in_zone : (x : Id) (e : Entry) → entry_of i.zone x ≡ Some e → Contains concerned x
  unfolding lists zone_ids
  in_zone x e found =
      let gives = find_gives (λ e. bytes_eq e.id x) i.zone.entries e found in
      among zone_ids (1, omega arith, refl) x
      (subst (Contains (map (λ e. e.id) i.zone.entries)) (same_from e.id x gives.0)
      (in_map (λ (e : Entry). e.id) i.zone.entries e gives.1))

  in_cleared : (x : Id) (e : Entry) → entry_of (cleared i) x ≡ Some e → Contains concerned x
  in_cleared x e found = by (entry_of i.zone x) refl
    where
      by : (o : Option Entry) → entry_of i.zone x ≡ o → Contains concerned x
      by None at = absurd (cc (sym found
          ∙ left_none i.global i.choice (deletions i.choice i.kept) i.zone sound.is_zone x at))
      by (Some was) at = in_zone x was at

  applied_concerned : (x : Id) (a : Applied) → applied_after i sound x ≡ Some a → Contains concerned x
  unfolding applied_after lists
  applied_concerned x a = by (is_in (effective i sound) x) refl
    where
      old : (o : Option Entry) → entry_of (cleared i) x ≡ o → option_and_then (λ e. e.applied) o ≡ Some a
          → Contains concerned x
      old None found at = absurd (cc at)
      old (Some e) found at = in_cleared x e found

      by : (b : Bool) → is_in (effective i sound) x ≡ b
          → (if b then Some (applied_with i x) else applied_of (cleared i) x) ≡ Some a → Contains concerned x
      by true takes at =
          let effect = (in_effective i sound x).0 (Contains_from_is_in (effective i sound) x takes) in
          among i.kept (0, omega arith, refl) x effect.kept
      by false other at = old (entry_of (cleared i) x) refl at

  supby_concerned : (x y : Id) → Contains (supby_after i sound x) y → Contains concerned x
  unfolding supby_after lists
  supby_concerned x y there = elim ((in_joined (supby_of (cleared i) x) (superseders i sound x) y).0 there) [
    | inl was ↦ old (entry_of (cleared i) x) refl was
    | inr new ↦ named (last_step (sup_of i.choice) y x ((in_superseders i sound x y).0 new).1)
  ]
    where
      old : (o : Option Entry) → entry_of (cleared i) x ≡ o → Contains (option_map_or (λ e. e.supby) o []) y
          → Contains concerned x
      old None found was = absurd (none_in y was)
      old (Some e) found was = in_cleared x e found

      direct : (z : Id) → Contains (sup_of i.choice z) x → Contains concerned x
      direct z names =
          among (flat_map (sup_of i.choice) (received i sound)) (2, omega arith, refl) x
          (in_flat (sup_of i.choice) (received i sound) z x (superseder_received i sound z x names) names)

      named : Contains (sup_of i.choice y) x
          ⊎ ((z : Id) × Reaches (sup_of i.choice) y z × Contains (sup_of i.choice z) x) → Contains concerned x
      named (inl names) = direct y names
      named (inr last) = direct last.0 last.2

  delby_concerned : (x y : Id) → delby_after i x ≡ Some y → Contains concerned x
  unfolding delby_after lists
  delby_concerned x y = by (delby_of i.zone x) refl
    where
      old : (o : Option Entry) → entry_of i.zone x ≡ o → is_some (option_and_then (λ e. e.delby) o) ≡ true
          → Contains concerned x
      old None found at = absurd (true≢false (sym at))
      old (Some e) found at = in_zone x e found

      taken : (o : Option Entry) → entry_of i.zone x ≡ o → option_map_or (λ e. is_some e.applied) o false ≡ true
          → Contains concerned x
      taken None found at = absurd (true≢false (sym at))
      taken (Some e) found at = in_zone x e found

      deleter : (b : Bool)
          → (is_function i.global x && is_taken_out i.global i.choice (deletions i.choice i.kept) i.zone x) ≡ b
          → Contains (if b then filter (λ k. is_deleted i.global i.choice (del_of i.choice k) x) i.kept
          else filter (λ k. is_in (del_of i.choice k) x) i.kept) y → Contains concerned x
      deleter true is there = taken (entry_of i.zone x) refl (and_parts _ _ (and_parts _ _ is).1).0
      deleter false is there =
          let passes = filter_in (λ k. is_in (del_of i.choice k) x) i.kept y there in
          among (deletions i.choice i.kept) (3, omega arith, refl) x
          (in_flat (del_of i.choice) i.kept y x passes.0 (Contains_from_is_in (del_of i.choice y) x passes.1))

      by : (o : Option Id) → delby_of i.zone x ≡ o → (if is_some o then o else slice_get (deleters i x) 0) ≡ Some y
          → Contains concerned x
      by None was at =
          deleter (is_function i.global x && is_taken_out i.global i.choice (deletions i.choice i.kept) i.zone x) refl
          (contains_at (deleters i x) 0 y at)
      by (Some k) was at = old (entry_of i.zone x) refl (ap is_some was)

  pub held_concerned : (x : Id) → has_content (made i sound x) ≡ true → Contains concerned x
  unfolding made
  held_concerned x held =
      elim (or_cases (is_some (applied_after i sound x) || not (is_nil (supby_after i sound x)))
      (is_some (delby_after i x)) held) [
        | inl first ↦ elim (or_cases (is_some (applied_after i sound x)) (not (is_nil (supby_after i sound x))) first) [
          | inl dated ↦ by_date (applied_after i sound x) refl dated
          | inr some ↦ by_supby (supby_after i sound x) refl some
        ]
        | inr deleted ↦ by_delby (delby_after i x) refl deleted
      ]
    where
      by_date : (o : Option Applied) → applied_after i sound x ≡ o → is_some o ≡ true → Contains concerned x
      by_date None at some = absurd (true≢false (sym some))
      by_date (Some a) at some = applied_concerned x a at

      by_supby : (ys : List Id) → supby_after i sound x ≡ ys → not (is_nil ys) ≡ true → Contains concerned x
      by_supby [] at some = absurd (true≢false (sym some))
      by_supby (y ∷ ys) at some = supby_concerned x y (subst (λ l. Contains l y) (sym at) (here y ys))

      by_delby : (o : Option Id) → delby_after i x ≡ o → is_some o ≡ true → Contains concerned x
      by_delby None at some = absurd (true≢false (sym some))
      by_delby (Some y) at some = delby_concerned x y at
