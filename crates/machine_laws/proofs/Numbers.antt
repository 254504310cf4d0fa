-- The number of the ++VER by which a SYSMOD is installed.
use Rattle.std.proofs.Common.{◌≡◌, ◌≤◌, ◌<◌, ◌+◌, ◌-◌, ◌^◌, Bool, true, false, List, [], filter, length, Option, None}
use Rattle.std.proofs.Common.{Some, All, refl, arith}
use Rattle.std.specs.Prelude.{position, nat_lt, unwrap_or}
use Rattle.std.specs.List.{position_or_len}
use Rattle.std.specs.Option.{option_map_or}
use Rattle.std.specs.Str.{bytes_eq}
use Rattle.std.proofs.lemmas.Bool.{ltb-true}
use Rattle.terms.specs.Types.{Text, Id, Ver, Sysmod, Applied, Global, Zone}
use Rattle.terms.specs.Lookups.{is_in, sysmod_of, applied_of}
use Rattle.terms.specs.Choice.{vers_of, fits, place}
use Rattle.store_schema.specs.Forms.{HasSysmodForms, HasZoneForms}
use Rattle.machine_laws.proofs.LessForms.{applied_forms}
use Rattle.machine_laws.proofs.OperandForms.{sysmod_forms}
use Rattle.terms.proofs.Searches.{filter_le}

-- The first that passes stands within the list.
first_within : {X : Type 0} (p : X → Bool) (xs : List X) → unwrap_or (position p xs) 0 ≤ length xs
first_within p xs = by (nat_lt (position_or_len p xs) (length xs)) refl
  where
    by : (b : Bool) → nat_lt (position_or_len p xs) (length xs) ≡ b → unwrap_or (position p xs) 0 ≤ length xs
    by true e = let below = ltb-true (position_or_len p xs) (length xs) e in rw e (omega (arith, below))
    by false e = rw e (omega arith)

module _ (g : Global) (sysmods : All HasSysmodForms g.sysmods) where
  -- no more than the SYSMOD has of all SRELs
  few_vers : (srel : Text) (x : Id) → length (vers_of g srel x) ≤ 8
  few_vers srel x = by (sysmod_of g x) refl
    where
      by : (o : Option Sysmod) → sysmod_of g x ≡ o
          → length (option_map_or (λ s. filter (λ v. bytes_eq v.srel srel) s.vers) o []) ≤ 8
      by None e = omega arith
      by (Some s) e =
          let most = (sysmod_forms g sysmods x s e).1.most in
          let part = filter_le (λ (v : Ver). bytes_eq v.srel srel) s.vers in
          omega (arith, most, part)

  -- The kept number has its form, and so has one of a few ++VERs.
  pub number_form : (zone : Zone) → HasZoneForms zone → (cands : List Id) (x : Id)
      → place g zone cands x + 1 < 2 ^ 63
  number_form zone forms cands x = by (applied_of zone x) refl
    where
      by : (o : Option Applied) → applied_of zone x ≡ o → option_map_or (λ a. a.number - 1) o
          (unwrap_or (position (fits zone (is_in cands)) (vers_of g zone.srel x)) 0) + 1 < 2 ^ 63
      by None e =
          let within = first_within (fits zone (is_in cands)) (vers_of g zone.srel x) in
          let few = few_vers zone.srel x in
          omega (arith, within, few)
      by (Some a) e =
          let most = (applied_forms zone forms x a e).1.most in
          let least = (applied_forms zone forms x a e).1.least in
          omega (arith, most, least)
