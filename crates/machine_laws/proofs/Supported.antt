-- What APPLY and ACCEPT leave applied is supported: its FMID is applied, and its requisites are supplied or waived.
use Rattle.std.proofs.Common.{◌≡◌, ◌⊎◌, ◌∙◌, true, false, List, [], Option, Some, None, Contains, All, IfSome}
use Rattle.std.proofs.Common.{inl, inr, refl, sym, subst, get_or}
use Rattle.std.specs.Prelude.{◌↔◌, ◌||◌, if◌then◌else◌}
use Rattle.std.specs.Str.{bytes_eq}
use Rattle.std.proofs.lemmas.Bool.{or_left, or_right}
use Rattle.std.proofs.lemmas.List.Elements.{Contains-append_left, Contains-append_right, Contains-get_or}
use Rattle.terms.proofs.TextOrder.{same_itself}
use Rattle.terms.proofs.ListMembers.{in_flat}
use Rattle.terms.specs.Types.{Text, Id, IfReq, Global, Zone, Bypass, Selection}
use Rattle.terms.specs.Lookups.{is_in, is_function, is_applied, is_supplied, waived_of, applied_ids}
use Rattle.terms.specs.Choice.{counting, fmid_of, pre_of, req_of, ifs_of}
use Rattle.terms.specs.Conditions.{if_reqs, stated_for}
use Rattle.terms.specs.Deleted.{deletions, zone_less}
use Rattle.terms.specs.Tests.{Setting, view_of}
use Rattle.terms.specs.Needs.{binding_ids, bypassed_ids}
use Rattle.terms.specs.Install.{Installation, TakesEffect, HasInstalled}
use Rattle.terms.specs.Closed.{IsSupported}
use Rattle.terms.proofs.Ids.{is_in_from_Contains}
use Rattle.machine.specs.Installing.{Decision}
use Rattle.change.proofs.ChosenVers.{if_function}
use Rattle.machine_laws.proofs.AppliedIds.{applied_in_ids}
use Rattle.machine_laws.proofs.Supplied.{left_applied, waived_left}
use Rattle.machine_laws.proofs.Installs.{IsInstall}
use Rattle.machine_laws.proofs.Given.{Keeps, installing, kept_candidate, candidate_ver, decided, kept_set}
use Rattle.machine_laws.proofs.Given.{keeps, installed, bypassed_for}
use Rattle.machine_laws.proofs.Chains.{was_supported, view_applied}
use Rattle.machine_laws.proofs.Binding.{BindsIf, binds, is_bound, required_where}
use Rattle.machine_laws.proofs.Effect.{kept_received, effect_or_not, applied_either, other_applied}
use Rattle.machine_laws.proofs.Undeleted.{fmid_applied}
use Rattle.machine_laws.proofs.Orphaned.{stays_supplied}
use Rattle.machine_laws.proofs.NeedsMet.{pre_supplied, req_supplied, ifreq_supplied}
use Rattle.terms.proofs.Applied.{in_applied_ids}

module _ (s : Setting) (survivors kept : List Id) (k : Keeps s survivors kept) (bypassed : List (Id × Id)) (date : Text)
    (new : Zone) (installed : HasInstalled (installing s kept bypassed date) new) where
  abbrev i : Installation
  i = installing s kept bypassed date

  abbrev dels : List Id
  dels = deletions s.choice kept

  abbrev less : Zone
  less = zone_less s.global s.choice dels s.zone

  -- ---- what stays applied

  -- what stays applied waives what it did
  still_waived : (x z : Id) → (¬ TakesEffect i x) → is_applied less x ≡ true → is_in (waived_of new x) z ≡ false
      → is_in (waived_of s.zone x) z ≡ false
  still_waived x z out on unwaived =
      subst (λ ids. is_in ids z ≡ false)
      (installed.not_waived x out ∙ waived_left s.global s.choice s.zone k.is_zone dels x on) unwaived

  -- ---- what takes effect

  -- What its view has applied, or what is a candidate with it, is there for its ++IFs.
  there_for : (x f : Id) → Contains kept x → is_applied new f ≡ true
      → (is_applied (view_of s x) f || is_in s.cands f) ≡ true
  there_for x f is on = elim (applied_either s survivors kept k bypassed date new installed f on) [
    | inl effect ↦ or_right (is_applied (view_of s x) f) (is_in s.cands f)
        (is_in_from_Contains s.cands f (kept_candidate s survivors kept k f effect.kept))
    | inr stays ↦ or_left (is_applied (view_of s x) f) (is_in s.cands f)
        (view_applied s survivors kept k x f is stays)
  ]

  module _ (are_bypassed : (x z : Id)
      → Contains bypassed (x, z) ↔ (Contains kept x × Contains (bypassed_ids s x) z)) where
    -- its own requisites
    effect_supplied : (x z : Id) → TakesEffect i x → Contains (binding_ids s.choice new (is_applied new) x) z
        → is_supplied new z ≡ true
    effect_supplied x z effect bound =
        let b = binds s.choice new (is_applied new) x z bound in by b.unwaived_by b.by
      where
        by : is_in (waived_of new x) z ≡ false → Contains (pre_of s.choice x) z ⊎ Contains (req_of s.choice x) z
            ⊎ ((r : IfReq) × BindsIf s.choice new (is_applied new) x z r) → is_supplied new z ≡ true
        by unwaived (inl pre) =
            pre_supplied s survivors kept k bypassed date new installed are_bypassed x z effect pre unwaived
        by unwaived (inr (inl req)) =
            req_supplied s survivors kept k bypassed date new installed are_bypassed x z effect req unwaived
        by unwaived (inr (inr (r, b))) =
            ifreq_supplied s survivors kept k bypassed date new installed are_bypassed x z effect
            (Contains-append_left (if_reqs s.choice (λ f. is_applied (view_of s x) f || is_in s.cands f) x)
            (if is_function s.global x then stated_for s.choice (applied_ids (view_of s x)) x else []) z
            (required_where (λ f. is_applied (view_of s x) f || is_in s.cands f) (ifs_of s.choice x) r z b.has
            (there_for x r.function effect.kept b.there) b.requires)) unwaived

    -- what an applied one states by ++IF for a function that takes effect
    stated_supplied : (w z : Id) (r : IfReq) → is_applied less w ≡ true → TakesEffect i r.function
        → BindsIf s.choice new (is_applied new) w z r → is_supplied new z ≡ true
    stated_supplied w z r on effect b =
        ifreq_supplied s survivors kept k bypassed date new installed are_bypassed r.function z effect
        (Contains-append_right
        (if_reqs s.choice (λ f. is_applied (view_of s r.function) f || is_in s.cands f) r.function)
        (if is_function s.global r.function then stated_for s.choice (applied_ids (view_of s r.function)) r.function
        else []) z
        (subst (λ b. Contains (if b then stated_for s.choice (applied_ids (view_of s r.function)) r.function else []) z)
        (sym (if_function s.global s.zone.srel s.choice k.vers k.global.roles w r b.has
        (kept_received s survivors kept k r.function effect.kept)))
        (in_flat (if_reqs s.choice (bytes_eq r.function)) (applied_ids (view_of s r.function)) w z
        (in_applied_ids (view_of s r.function) w (view_applied s survivors kept k r.function w effect.kept on))
        (required_where (bytes_eq r.function) (ifs_of s.choice w) r z b.has (same_itself r.function) b.requires))))
        b.unwaived_by

    -- the requisites of what stays applied
    other_supplied : (w z : Id) → (¬ TakesEffect i w) → is_applied less w ≡ true
        → Contains (binding_ids s.choice new (is_applied new) w) z → is_supplied new z ≡ true
    other_supplied w z out on bound =
        let b = binds s.choice new (is_applied new) w z bound in by (still_waived w z out on b.unwaived_by) b.by
      where
        old : is_in (waived_of s.zone w) z ≡ false → Contains (pre_of s.choice w) z ⊎ Contains (req_of s.choice w) z
            ⊎ ((r : IfReq) × BindsIf s.choice s.zone (is_applied less) w z r) → is_supplied new z ≡ true
        old unwaived which = stays_supplied s survivors kept k bypassed date new installed w z on
            (is_bound s.choice s.zone (is_applied less) w z (record { unwaived_by = unwaived; by = which }))

        by : is_in (waived_of s.zone w) z ≡ false → Contains (pre_of s.choice w) z ⊎ Contains (req_of s.choice w) z
            ⊎ ((r : IfReq) × BindsIf s.choice new (is_applied new) w z r) → is_supplied new z ≡ true
        by unwaived (inl pre) = old unwaived (inl pre)
        by unwaived (inr (inl req)) = old unwaived (inr (inl req))
        by unwaived (inr (inr (r, b))) =
            elim (effect_or_not s survivors kept k bypassed date r.function) [
              | inl effect ↦ stated_supplied w z r on effect b
              | inr no_effect ↦
                  let stays : is_applied less r.function ≡ true =
                  sym (other_applied s survivors kept k bypassed date new installed r.function no_effect) ∙ b.there in
                  old unwaived (inr (inr (
                    r,
                    record {
                      has = b.has;
                      there = stays;
                      requires = b.requires;
                      unwaived_by = still_waived r.function z no_effect stays b.unwaived_by;
                    },
                  )))
            ]

    fmid_there : (x : Id) → is_applied new x ≡ true → IfSome (fmid_of s.choice x) (λ f. is_applied new f ≡ true)
    fmid_there x on = by (fmid_of s.choice x) refl
      where
        by : (o : Option Id) → fmid_of s.choice x ≡ o → IfSome o (λ f. is_applied new f ≡ true)
        by None at = tt
        by (Some f) at = fmid_applied s survivors kept k bypassed date new installed x f on at

    bound_supplied : (x : Id)
        → ((z : Id) → Contains (binding_ids s.choice new (is_applied new) x) z → is_supplied new z ≡ true)
        → All (λ z. is_supplied new z ≡ true) (binding_ids s.choice new (is_applied new) x)
    bound_supplied x each = λ j z below.
        each (get_or (binding_ids s.choice new (is_applied new) x) j z)
        (Contains-get_or (binding_ids s.choice new (is_applied new) x) j z below)

    supported : (x : Id) → is_applied new x ≡ true → IsSupported s.choice new x
    supported x on = elim (effect_or_not s survivors kept k bypassed date x) [
      | inl effect ↦ record {
        received = candidate_ver s survivors kept k x (kept_candidate s survivors kept k x effect.kept);
        fmid = fmid_there x on;
        requisites = bound_supplied x (λ z bound. effect_supplied x z effect bound);
      }
      | inr out ↦
          let stays : is_applied less x ≡ true =
          sym (other_applied s survivors kept k bypassed date new installed x out) ∙ on in
          record {
            received = (was_supported s survivors kept k x
                (left_applied s.global s.choice s.zone k.is_zone dels x stays).0).received;
            fmid = fmid_there x on;
            requisites = bound_supplied x (λ z bound. other_supplied x z out stays bound);
          }
    ]

    pub all_supported : All (IsSupported s.choice new) (applied_ids new)
    all_supported = λ j x below.
        supported (get_or (applied_ids new) j x) (applied_in_ids new installed.is_zone (get_or (applied_ids new) j x)
        (Contains-get_or (applied_ids new) j x below))

-- APPLY and ACCEPT keep it that all applied SYSMODs are supported.
pub installed_supported : (g : Global) (zone : Zone) (related : Option Zone) (sel : Selection) (bypass : Bypass)
    (date : Text) (d : Decision) (new : Zone) (is : IsInstall g zone related sel bypass date d new)
    → All (IsSupported (counting g zone is.decides.cands) new) (applied_ids new)
installed_supported g zone related sel bypass date d new is =
    all_supported (decided g zone related sel bypass date d new is)
    (kept_set g zone related sel bypass date d new is).survivors d.kept (keeps g zone related sel bypass date d new is)
    is.decides.bypassed date new (installed g zone related sel bypass date d new is)
    (bypassed_for g zone related sel bypass date d new is)
