-- What an install makes of the entry of an id.
use Rattle.std.proofs.Common.{◌≡◌, Bool, true, false, not, List, [], Option, None, Some, All}
use Rattle.std.proofs.Common.{IsTrue, filter, map, refl}
use Rattle.std.specs.Prelude.{◌||◌, is_some, if◌then◌else◌}
use Rattle.std.specs.Option.{option_map_or, option_and_then}
use Rattle.std.specs.Str.{bytes_eq}
use Rattle.terms.proofs.Searches.{All_find}
use Rattle.terms.specs.Types.{Id, Entry, Applied}
use Rattle.terms.specs.Lookups.{is_nil, is_in, waives_applied, entry_of}
use Rattle.terms.specs.Lookups.{applied_of, supby_of, waived_of}
use Rattle.terms.specs.Deleted.{deletions, is_taken_out, zone_less}
use Rattle.terms.specs.Install.{Installation, applied_with, cleared, delby_after}
use Rattle.zones.proofs.Entries.{entries_less_waive}
use Rattle.machine_laws.proofs.Effective.{IsSoundInstall, effective}
use Rattle.machine_laws.proofs.Effective.{superseders}
use Rattle.machine_laws.proofs.JoinedIds.{joined}

module _ (i : Installation) (sound : IsSoundInstall i) where
  unfoldable pub applied_after : Id → Option Applied
  applied_after x = if is_in (effective i sound) x then Some (applied_with i x) else applied_of (cleared i) x

  unfoldable pub supby_after : Id → List Id
  supby_after x = joined (supby_of (cleared i) x) (superseders i sound x)

  unfoldable pub supplied_after : Id → Bool
  supplied_after x = is_some (applied_after x) || not (is_nil (supby_after x))

  unfoldable pub bypassed_of : Id → List Id
  bypassed_of x = map (λ p. p.1) (filter (λ p. bytes_eq p.0 x) i.bypassed)

  unfoldable pub waived_after : Id → List Id
  waived_after x =
      if is_in (effective i sound) x then joined [] (filter (λ z. not (supplied_after z)) (bypassed_of x))
      else waived_of (cleared i) x

  unfoldable pub made : Id → Entry
  made x = record {
    id = x;
    applied = applied_after x;
    supby = supby_after x;
    delby = delby_after i x;
    waived = waived_after x;
  }

  -- ---- only what is applied waives

  cleared_waive : All (λ e. IsTrue (waives_applied e)) (cleared i).entries
  unfolding zone_less
  cleared_waive = entries_less_waive (is_taken_out i.global i.choice (deletions i.choice i.kept) i.zone) i.zone.entries
      sound.is_zone.waived

  pub waives : (x : Id) → IsTrue (waives_applied (made x))
  unfolding made applied_after waived_after
  waives x = by (is_in (effective i sound) x)
    where
      old : (o : Option Entry) → entry_of (cleared i) x ≡ o
          → (is_some (option_and_then (λ e. e.applied) o) || is_nil (option_map_or (λ e. e.waived) o [])) ≡ true
      old None at = refl
      old (Some e) at =
          All_find (λ e. IsTrue (waives_applied e)) (λ e. bytes_eq e.id x) (cleared i).entries e cleared_waive at

      by : (b : Bool)
          → (is_some (if b then Some (applied_with i x) else applied_of (cleared i) x)
          || is_nil (if b then joined [] (filter (λ z. not (supplied_after z)) (bypassed_of x))
          else waived_of (cleared i) x)) ≡ true
      by true = refl
      by false = old (entry_of (cleared i) x) refl
