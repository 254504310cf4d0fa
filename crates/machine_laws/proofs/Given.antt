-- What is known of an APPLY or ACCEPT in a closed zone.
use Rattle.std.proofs.Common.{◌≡◌, ◌+◌, Bool, true, false, not, List, [], ◌∷◌, Option, Contains, IsTrue}
use Rattle.std.proofs.Common.{IsSome, is_some, length, inl, inr, refl, sym, ◌∙◌, ap, subst, arith, true≢false}
use Rattle.std.specs.Prelude.{◌↔◌, ◌-◌, position, slice_get, nat_lt, unwrap_or}
use Rattle.std.specs.List.{position_or_len}
use Rattle.std.specs.Option.{option_map_or}
use Rattle.std.proofs.lemmas.Bool.{and_parts, ltb-true}
use Rattle.std.proofs.lemmas.Option.{slice_get_cases}
use Rattle.terms.specs.Types.{Text, Id, Applied, Global, Zone, Bypass, Selection}
use Rattle.terms.specs.Lookups.{IsZone, is_nil, is_in, is_applied, applied_ids}
use Rattle.terms.specs.Choice.{vers_of, fits, place, counting}
use Rattle.terms.specs.Global.{IsGlobal}
use Rattle.terms.specs.Candidates.{is_installable}
use Rattle.terms.specs.Tests.{Setting, IsEligible, AreSurvivors}
use Rattle.terms.specs.Needs.{bypassed_ids}
use Rattle.terms.specs.Judged.{setting, Stays, IsKeptSet}
use Rattle.terms.specs.Install.{Installation, HasInstalled}
use Rattle.terms.specs.Closed.{IsClosedZone}
use Rattle.machine.specs.Installing.{Decision}
use Rattle.change.proofs.ChosenVers.{AreFor, counting_for}
use Rattle.change.proofs.KeptTogether.{unsupplied}
use Rattle.machine_laws.proofs.Decisions.{candidate_open}
use Rattle.machine_laws.proofs.AlikeSysmods.{closed_by}
use Rattle.machine_laws.proofs.AppliedIds.{applied_in_ids}
use Rattle.machine_laws.proofs.Installs.{IsInstall}
use Rattle.machine_laws.proofs.KeptChoice.{undated, counts_whatever, install_keeps_choice}
use Rattle.machine_laws.proofs.Installable.{not_supplied}

-- A kept set in a setting whose zone is closed.
pub record Keeps (s : Setting) (survivors kept : List Id) : Type 0 where
  pub global : IsGlobal s.global
  pub is_zone : IsZone s.zone
  pub vers : AreFor s.global s.zone.srel s.choice
  pub chosen : s.choice ≡ counting s.global s.zone s.cands
  pub installable : (x : Id) → Contains s.cands x → IsTrue (is_installable s.global s.zone x)
  pub are_survivors : AreSurvivors s survivors
  pub members : (x : Id) → Contains kept x ↔ Stays s survivors x
  pub closed : IsClosedZone s.global s.choice s.zone

-- what is installed of it
abbrev pub installing : Setting → List Id → List (Id × Id) → Text → Installation
installing s kept bypassed date = record {
  global = s.global;
  choice = s.choice;
  number = λ x. place s.global s.zone s.cands x + 1;
  zone = s.zone;
  kept = kept;
  bypassed = bypassed;
  date = date;
}

-- Of some items the first that passes is there, or else the first.
first_there : {X : Type 0} (p : X → Bool) (xs : List X) → not (is_nil xs) ≡ true
    → is_some (slice_get xs (unwrap_or (position p xs) 0)) ≡ true
first_there {X} p xs some = by (nat_lt (position_or_len p xs) (length xs)) refl
  where
    front : (ys : List X) → not (is_nil ys) ≡ true → is_some (slice_get ys 0) ≡ true
    front [] none = absurd (true≢false (sym none))
    front (y ∷ ys) there = refl

    by : (b : Bool) → nat_lt (position_or_len p xs) (length xs) ≡ b
        → is_some (slice_get xs (unwrap_or (position p xs) 0)) ≡ true
    by true e =
        let below = ltb-true (position_or_len p xs) (length xs) e in
        rw e (elim (slice_get_cases xs (position_or_len p xs)).1 [
          | inl there ↦ ap is_some there.2
          | inr past ↦ absurd (omega (arith, below, past.0))
        ])
    by false e = rw e (front xs some)

module _ (s : Setting) (survivors kept : List Id) (k : Keeps s survivors kept) where
  pub eligible : (x : Id) → Contains kept x → IsEligible s x
  eligible x is = let stays = (k.members x).0 is in stays.1.eligible x stays.2

  pub kept_candidate : (x : Id) → Contains kept x → Contains s.cands x
  kept_candidate x is = (eligible x is).0.0.0

  pub kept_survives : (x : Id) → Contains kept x → Contains survivors x
  kept_survives x is = (k.are_survivors.members x).1 (eligible x is).0

  -- a candidate is not applied
  pub unapplied : (x : Id) → Contains s.cands x → is_applied s.zone x ≡ false
  unapplied x is = unsupplied s.zone x (not_supplied s.global s.zone x (k.installable x is))

  -- and has a ++VER that counts
  pub candidate_ver : (x : Id) → Contains s.cands x → IsSome (s.choice x)
  candidate_ver x is = ap (λ c. is_some (c x)) k.chosen
      ∙ ap (λ o. is_some (slice_get (vers_of s.global s.zone.srel x) (option_map_or (λ (a : Applied). a.number - 1) o
      (unwrap_or (position (fits s.zone (is_in s.cands)) (vers_of s.global s.zone.srel x)) 0))))
      (undated s.zone x (unapplied x is))
      ∙ first_there (fits s.zone (is_in s.cands)) (vers_of s.global s.zone.srel x)
      (and_parts _ _ (and_parts _ _ (k.installable x is)).0).0

module _ (g : Global) (zone : Zone) (related : Option Zone) (sel : Selection) (bypass : Bypass) (date : Text)
    (d : Decision) (new : Zone) (is : IsInstall g zone related sel bypass date d new) where
  abbrev pub decided : Setting
  decided = setting g zone related is.decides.cands bypass

  abbrev pub kept_set : IsKeptSet decided d.kept
  kept_set = subst (λ s. IsKeptSet s d.kept) is.decides.setting is.decides.kept

  pub keeps : Keeps decided kept_set.survivors d.kept
  keeps = record {
    global = is.global;
    is_zone = is.is_zone;
    vers = counting_for g zone is.decides.cands;
    chosen = refl;
    installable = λ x there. (and_parts _ _ (candidate_open g zone sel x
        ((is.decides.candidates.members x).0 there))).0;
    are_survivors = kept_set.are_survivors;
    members = kept_set.members;
    closed = closed_by g (counting g zone []) (counting g zone is.decides.cands) zone is.closed
        (λ x there. counts_whatever g zone [] is.decides.cands x (applied_in_ids zone is.is_zone x there));
  }

  pub installed : HasInstalled (installing decided d.kept is.decides.bypassed date) new
  installed = subst (λ i. HasInstalled i new) is.decides.installing is.installs

  -- what is bypassed for a kept one
  pub bypassed_for : (x z : Id) → Contains is.decides.bypassed (x, z)
      ↔ (Contains d.kept x × Contains (bypassed_ids decided x) z)
  bypassed_for x z = subst
      (λ s. Contains is.decides.bypassed (x, z) ↔ (Contains d.kept x × Contains (bypassed_ids s x) z))
      is.decides.setting (is.decides.are_bypassed x z)

  -- what counts for the applied ones of the new zone is what counted in the setting
  pub choice_after : (x : Id) → Contains (applied_ids new) x → counting g zone is.decides.cands x ≡ counting g new [] x
  choice_after x there = sym (install_keeps_choice (installing decided d.kept is.decides.bypassed date)
      is.decides.cands (λ y. refl) is.is_zone new installed []
      x (applied_in_ids new is.installs.is_zone x there))
