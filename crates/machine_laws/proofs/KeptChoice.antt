-- What counts for an applied SYSMOD is the ++VER by which it was installed, whatever is applied later.
use Rattle.std.proofs.Common.{◌≡◌, ◌+◌, ◌-◌, ◌∙◌, Bool, true, false, List, Option, None, Some}
use Rattle.std.proofs.Common.{is_some, refl, sym, ap, arith}
use Rattle.std.specs.Prelude.{position, slice_get, unwrap_or}
use Rattle.std.specs.Option.{option_map_or, option_and_then}
use Rattle.std.proofs.lemmas.Option.{same_Some}
use Rattle.terms.specs.Types.{Id, Applied, Global, Entry, Zone}
use Rattle.terms.specs.Lookups.{IsZone, is_in, is_applied, applied_of, entry_of}
use Rattle.terms.specs.Choice.{vers_of, fits, place, counting}
use Rattle.terms.specs.Deleted.{deletions, is_taken_out, entries_less, zone_less}
use Rattle.terms.specs.Install.{Installation, TakesEffect, applied_with, cleared, HasInstalled}
use Rattle.machine_laws.proofs.Stable.{by_either, stable_number}
use Rattle.machine_laws.proofs.TakenOff.{dated_left}
use Rattle.terms.proofs.Applied.{applied_dated}

-- and what is not has none
pub undated : (zone : Zone) (x : Id) → is_applied zone x ≡ false → applied_of zone x ≡ None
undated zone x off = by (entry_of zone x) off
  where
    none : (o : Option Applied) → is_some o ≡ false → o ≡ None
    none None is_so = refl
    none (Some a) is_so = absurd (cc is_so)

    by : (o : Option Entry) → option_map_or (λ e. is_some e.applied) o false ≡ false
        → option_and_then (λ e. e.applied) o ≡ None
    by None is_so = refl
    by (Some e) is_so = none e.applied is_so

-- The place of what is applied is that of its number.
kept_place : (g : Global) (zone : Zone) (cands : List Id) (x : Id) (a : Applied) → applied_of zone x ≡ Some a
    → place g zone cands x ≡ a.number - 1
kept_place g zone cands x a at = ap (λ o. option_map_or (λ (b : Applied). b.number - 1) o
    (unwrap_or (position (fits zone (is_in cands)) (vers_of g zone.srel x)) 0)) at

-- In two zones of one SREL that have applied it by one number, one ++VER counts, whatever the candidates are.
pub counts_alike : (g : Global) (a b : Zone) (cands others : List Id) (x : Id) (m n : Applied) → a.srel ≡ b.srel
    → applied_of a x ≡ Some m → applied_of b x ≡ Some n → m.number ≡ n.number
    → counting g a cands x ≡ counting g b others x
counts_alike g a b cands others x m n srel of_a of_b same =
    ap (slice_get (vers_of g a.srel x))
    (kept_place g a cands x m of_a ∙ ap (λ k. k - 1) same ∙ sym (kept_place g b others x n of_b))
    ∙ ap (λ t. slice_get (vers_of g t x) (place g b others x)) srel

-- For what is applied the candidates do not matter.
pub counts_whatever : (g : Global) (zone : Zone) (cands others : List Id) (x : Id) → is_applied zone x ≡ true
    → counting g zone cands x ≡ counting g zone others x
counts_whatever g zone cands others x on =
    let has = applied_dated zone x on in
    counts_alike g zone zone cands others x has.0 has.0 refl has.1 has.1 refl

-- What is not taken out counts as before.
pub counts_left : (g : Global) (is_gone : Id → Bool) (zone new : Zone) (cands others : List Id) (x : Id) → IsZone zone
    → new.entries ≡ entries_less is_gone zone.entries → new.srel ≡ zone.srel → is_applied new x ≡ true
    → counting g new cands x ≡ counting g zone others x
counts_left g is_gone zone new cands others x is entries srel on =
    let has = applied_dated new x on in
    counts_alike g new zone cands others x has.0 has.0 srel has.1 (dated_left is_gone zone new is entries x has.0 has.1)
    refl

-- An install by the numbers of what counts.
module _ (i : Installation) (cands : List Id) (numbers : (x : Id) → i.number x ≡ place i.global i.zone cands x + 1)
    (is : IsZone i.zone) (new : Zone) (installed : HasInstalled i new) where
  was_dated : (x : Id) (a : Applied) → applied_of (cleared i) x ≡ Some a → applied_of i.zone x ≡ Some a
  unfolding zone_less
  was_dated x a = dated_left (is_taken_out i.global i.choice (deletions i.choice i.kept) i.zone) i.zone (cleared i) is
      refl x a

  -- the number of what takes effect, or of what was applied and stays so
  place_after : (x : Id) (a : Applied) → applied_of new x ≡ Some a → a.number - 1 ≡ place i.global i.zone cands x
  place_after x a at = by_either {A = TakesEffect i x} (stable_number (a.number - 1) (place i.global i.zone cands x))
      (λ effect.
      let same = ap (λ (b : Applied). b.number) (same_Some (applied_with i x) a (sym (installed.applied x effect) ∙ at))
      in
      let now = sym same ∙ numbers x in
      omega (arith, now))
      (λ out. sym (kept_place i.global i.zone cands x a (was_dated x a (sym (installed.not_applied x out) ∙ at))))

  -- After an install what counts for an applied SYSMOD is what counted in it, whatever the later candidates are.
  pub install_keeps_choice : (later : List Id) (x : Id) → is_applied new x ≡ true
      → counting i.global new later x ≡ counting i.global i.zone cands x
  install_keeps_choice later x on =
      let has = applied_dated new x on in
      ap (slice_get (vers_of i.global new.srel x))
      (kept_place i.global new later x has.0 has.1 ∙ place_after x has.0 has.1)
      ∙ ap (λ t. slice_get (vers_of i.global t x) (place i.global i.zone cands x))
      (ap (λ (z : Zone). z.srel) installed.rest)
