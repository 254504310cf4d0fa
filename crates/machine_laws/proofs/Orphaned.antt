-- What SYSMODs that stay applied require is supplied: where DELETE takes its suppliers, it is an orphan, and so a need.
use Rattle.std.proofs.Common.{◌≡◌, ◌⊎◌, Bool, true, false, List, [], Contains}
use Rattle.std.proofs.Common.{inl, inr, refl, sym, subst}
use Rattle.std.specs.Prelude.{◌&&◌, ◌||◌, if◌then◌else◌}
use Rattle.std.specs.Str.{bytes_eq}
use Rattle.std.proofs.lemmas.Bool.{and_from, and_right, or_left, or_right}
use Rattle.std.proofs.lemmas.List.Elements.{All-contains}
use Rattle.terms.proofs.ListMembers.{in_filter, in_flat}
use Rattle.terms.proofs.TextOrder.{same_itself}
use Rattle.terms.specs.declared.codes.NeedKind.TheVariants.{Orphan}
use Rattle.terms.specs.Types.{Text, Id, Zone}
use Rattle.terms.specs.Lookups.{is_in, is_applied, is_supplied, supplies, supby_of, applied_ids}
use Rattle.terms.specs.Choice.{del_of}
use Rattle.terms.specs.Deleted.{deletions, is_deleted, is_taken_out, zone_less}
use Rattle.terms.specs.Tests.{Setting}
use Rattle.terms.specs.Needs.{binding_ids, is_lost, orphans, asked}
use Rattle.terms.specs.Install.{HasInstalled}
use Rattle.terms.proofs.Ids.{is_in_from_Contains}
use Rattle.change.proofs.LessLookups.{deleted_by_one}
use Rattle.machine_laws.proofs.Supplied.{supplied_or, supplied_applied, supplied_by}
use Rattle.machine_laws.proofs.Supplied.{left_applied, applied_left, supby_left, fewer_applied}
use Rattle.machine_laws.proofs.Given.{Keeps, installing, kept_survives}
use Rattle.machine_laws.proofs.Chains.{was_supported, was_supby}
use Rattle.machine_laws.proofs.Binding.{more_bound}
use Rattle.machine_laws.proofs.Effect.{supplied_stays}
use Rattle.machine_laws.proofs.NeedsMet.{need_supplied}
use Rattle.terms.proofs.Applied.{in_applied_ids}
use Rattle.terms.proofs.Searches.{passes_some}

module _ (s : Setting) (survivors kept : List Id) (k : Keeps s survivors kept) (bypassed : List (Id × Id)) (date : Text)
    (new : Zone) (installed : HasInstalled (installing s kept bypassed date) new) where
  abbrev dels : List Id
  dels = deletions s.choice kept

  abbrev less : Zone
  less = zone_less s.global s.choice dels s.zone

  -- What a kept DELETE takes a supplier of is an orphan, and so it is supplied.
  lost_supplied : (p w z : Id) → is_applied s.zone p ≡ true → (bytes_eq p z || is_in (supby_of s.zone z) p) ≡ true
      → is_deleted s.global s.choice dels p ≡ true → is_applied less w ≡ true
      → Contains (binding_ids s.choice s.zone (is_applied less) w) z → is_supplied new z ≡ true
  unfolding orphans
  lost_supplied p w z on supplier deleted stays bound =
      need_supplied s survivors kept k bypassed date new installed Orphan (λ zone z. refl) one.0 z one.1 asks refl
    where
      one : (y : Id) × Contains kept y × (is_deleted s.global s.choice (del_of s.choice y) p ≡ true)
      one = deleted_by_one s.global s.choice kept p deleted

      taken : List Id
      taken = del_of s.choice one.0

      staying : Zone
      staying = zone_less s.global s.choice taken s.zone

      still : (x : Id) → is_applied less x ≡ true → is_applied staying x ≡ true
      still = fewer_applied s.global s.choice s.zone k.is_zone taken dels
          (λ y deletes. in_flat (del_of s.choice) kept one.0 y one.1 deletes)

      loses : is_lost s taken z ≡ true
      loses = passes_some (λ q. is_taken_out s.global s.choice taken s.zone q && supplies s.zone q z)
          (applied_ids s.zone) p (in_applied_ids s.zone p on)
          (and_from (is_taken_out s.global s.choice taken s.zone p) (supplies s.zone p z)
          (and_from (is_applied s.zone p) _ on one.2) (and_from (is_applied s.zone p) _ on supplier))

      asks : Contains (asked s survivors one.0 Orphan) z
      asks = subst (λ b. Contains (if b then orphans s one.0 else []) z)
          (sym (is_in_from_Contains survivors one.0 (kept_survives s survivors kept k one.0 one.1)))
          (in_filter (is_lost s taken) _ z
          (in_flat (binding_ids s.choice s.zone (is_applied staying)) (applied_ids staying) w z
          (in_applied_ids staying w (still w stays))
          (more_bound s.choice s.zone (is_applied less) (is_applied staying) still w z bound)) loses)

  -- What binds what stays applied was supplied: it is still, or it is an orphan.
  pub stays_supplied : (w z : Id) → is_applied less w ≡ true
      → Contains (binding_ids s.choice s.zone (is_applied less) w) z → is_supplied new z ≡ true
  stays_supplied w z on bound = by (supplied_or s.zone z was)
    where
      old : (x : Id) → is_applied less x ≡ true → is_applied s.zone x ≡ true
      old x here = (left_applied s.global s.choice s.zone k.is_zone dels x here).0

      was : is_supplied s.zone z ≡ true
      was = All-contains (λ z. is_supplied s.zone z ≡ true) (binding_ids s.choice s.zone (is_applied s.zone) w) z
          (was_supported s survivors kept k w (old w on)).requisites
          (more_bound s.choice s.zone (is_applied less) (is_applied s.zone) old w z bound)

      itself : is_applied s.zone z ≡ true → (b : Bool) → is_deleted s.global s.choice dels z ≡ b
          → is_supplied new z ≡ true
      itself there true gone = lost_supplied z w z there (or_left (bytes_eq z z) _ (same_itself z)) gone on bound
      itself there false left = supplied_stays s survivors kept k bypassed date new installed z
          (supplied_applied less z (applied_left s.global s.choice s.zone k.is_zone dels z there left))

      through : (y : Id) → Contains (supby_of s.zone z) y → (b : Bool) → is_deleted s.global s.choice dels y ≡ b
          → is_supplied new z ≡ true
      through y there true gone = lost_supplied y w z (was_supby s survivors kept k z y there)
          (or_right (bytes_eq y z) _ (is_in_from_Contains (supby_of s.zone z) y there)) gone on bound
      through y there false left = supplied_stays s survivors kept k bypassed date new installed z
          (supplied_by less z y (supby_left s.global s.choice s.zone k.is_zone dels z y there
          (and_right (is_applied s.zone y) (is_deleted s.global s.choice dels y) left)))

      by : (is_applied s.zone z ≡ true) ⊎ ((y : Id) × Contains (supby_of s.zone z) y) → is_supplied new z ≡ true
      by (inl there) = itself there (is_deleted s.global s.choice dels z) refl
      by (inr (y, there)) = through y there (is_deleted s.global s.choice dels y) refl
