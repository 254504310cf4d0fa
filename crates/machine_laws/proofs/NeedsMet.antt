-- What an APPLY or ACCEPT keeps needs nothing after it: what it asks for is supplied or waived.
use Rattle.std.proofs.Common.{◌≡◌, ◌∙◌, Bool, true, false, List, Contains}
use Rattle.std.proofs.Common.{inl, inr, refl, sym, subst, true≢false}
use Rattle.std.specs.Prelude.{◌↔◌, ◌++◌, [], if◌then◌else◌}
use Rattle.std.proofs.lemmas.List.Elements.{Contains-append_left, Contains-append_right}
use Rattle.terms.specs.declared.codes.NeedKind.{NeedKind}
use Rattle.terms.specs.declared.codes.NeedKind.TheVariants.{Pre, Req, Ifreq}
use Rattle.terms.specs.Types.{Text, Id, Zone}
use Rattle.terms.specs.Lookups.{is_in, is_supplied, waived_of}
use Rattle.terms.specs.Choice.{pre_of, req_of}
use Rattle.terms.specs.Tests.{Setting}
use Rattle.terms.specs.Needs.{asked, is_bypassed, is_met, zone_left}
use Rattle.terms.specs.Needs.{Needs, Serves, bypassed_ids}
use Rattle.terms.specs.Install.{Installation, TakesEffect, HasInstalled}
use Rattle.terms.proofs.Ids.{is_in_from_Contains}
use Rattle.machine_laws.proofs.Given.{Keeps, installing, kept_candidate}
use Rattle.machine_laws.proofs.Chains.{left_supplied_after}
use Rattle.machine_laws.proofs.Effect.{supplied_stays, served}

module _ (s : Setting) (survivors kept : List Id) (k : Keeps s survivors kept) where
  -- A need of what is kept is served by what is kept.
  need_served : (kind : NeedKind) (x z : Id) → Contains kept x → Contains (asked s survivors x kind) z
      → is_bypassed s.bypass kind ≡ false → is_met (zone_left s survivors) kind z ≡ false
      → (y : Id) × Contains kept y × Serves s.choice kind y z
  need_served kind x z is asks not_bypassed not_met =
      let stays = (k.members x).0 is in
      let needs : Needs s survivors x kind z = record {
        of = kept_candidate s survivors kept k x is;
        asks = asks;
        not_bypassed = not_bypassed;
        not_met = not_met;
      } in
      let server = stays.1.served x z kind stays.2 needs in
      (server.0, (k.members server.0).1 (stays.0, stays.1, server.1), server.2)

  module _ (bypassed : List (Id × Id)) (date : Text) (new : Zone)
      (installed : HasInstalled (installing s kept bypassed date) new) where
    abbrev i : Installation
    i = installing s kept bypassed date

    -- What it asks for is supplied, unless BYPASS covers it.
    pub need_supplied : (kind : NeedKind) → ((zone : Zone) (z : Id) → is_met zone kind z ≡ is_supplied zone z)
        → (x z : Id) → Contains kept x → Contains (asked s survivors x kind) z → is_bypassed s.bypass kind ≡ false
        → is_supplied new z ≡ true
    need_supplied kind met x z is asks not_bypassed = by (is_supplied (zone_left s survivors) z) refl
      where
        serving : (y : Id) → Contains kept y → Serves s.choice kind y z → is_supplied new z ≡ true
        serving y of_y (inl same) = served s survivors kept k bypassed date new installed y z of_y (inl same)
        serving y of_y (inr over) = served s survivors kept k bypassed date new installed y z of_y (inr over.1)

        by : (b : Bool) → is_supplied (zone_left s survivors) z ≡ b → is_supplied new z ≡ true
        by true is_there = supplied_stays s survivors kept k bypassed date new installed z
            (left_supplied_after s survivors kept k z is_there)
        by false missing =
            let server = need_served kind x z is asks not_bypassed (met (zone_left s survivors) z ∙ missing) in
            serving server.0 server.1 server.2

    -- Where it is bypassed, it is supplied or waived.
    module _ (are_bypassed : (x z : Id)
        → Contains bypassed (x, z) ↔ (Contains kept x × Contains (bypassed_ids s x) z)) where
      asked_supplied : (kind : NeedKind) → ((zone : Zone) (z : Id) → is_met zone kind z ≡ is_supplied zone z)
          → (x z : Id) → TakesEffect i x → Contains (asked s survivors x kind) z
          → (is_bypassed s.bypass kind ≡ true → Contains (bypassed_ids s x) z)
          → is_in (waived_of new x) z ≡ false → is_supplied new z ≡ true
      asked_supplied kind met x z effect asks waives unwaived = by (is_bypassed s.bypass kind) refl
        where
          waived : Contains (bypassed_ids s x) z → (b : Bool) → is_supplied new z ≡ b → b ≡ true
          waived over true at = refl
          waived over false at =
              let there = (installed.waived x z effect).1 ((are_bypassed x z).1 (effect.kept, over), at) in
              absurd (true≢false (sym (is_in_from_Contains (waived_of new x) z there) ∙ unwaived))

          by : (b : Bool) → is_bypassed s.bypass kind ≡ b → is_supplied new z ≡ true
          by true over = waived (waives over) (is_supplied new z) refl
          by false none = need_supplied kind met x z effect.kept asks none

      abbrev bypassed_pre : Id → List Id
      bypassed_pre x = if s.bypass.pre then pre_of s.choice x else []

      abbrev bypassed_req : Id → List Id
      bypassed_req x = if s.bypass.req then req_of s.choice x else []

      abbrev bypassed_ifreq : Id → List Id
      bypassed_ifreq x = if s.bypass.ifreq then asked s [] x Ifreq else []

      pub pre_supplied : (x z : Id) → TakesEffect i x → Contains (pre_of s.choice x) z
          → is_in (waived_of new x) z ≡ false → is_supplied new z ≡ true
      pre_supplied x z effect asks = asked_supplied Pre (λ zone z. refl) x z effect asks
          (λ over. Contains-append_left (bypassed_pre x ++ bypassed_req x) (bypassed_ifreq x) z
          (Contains-append_left (bypassed_pre x) (bypassed_req x) z
          (subst (λ b. Contains (if b then pre_of s.choice x else []) z) (sym over) asks)))

      pub req_supplied : (x z : Id) → TakesEffect i x → Contains (req_of s.choice x) z
          → is_in (waived_of new x) z ≡ false → is_supplied new z ≡ true
      req_supplied x z effect asks = asked_supplied Req (λ zone z. refl) x z effect asks
          (λ over. Contains-append_left (bypassed_pre x ++ bypassed_req x) (bypassed_ifreq x) z
          (Contains-append_right (bypassed_pre x) (bypassed_req x) z
          (subst (λ b. Contains (if b then req_of s.choice x else []) z) (sym over) asks)))

      pub ifreq_supplied : (x z : Id) → TakesEffect i x → Contains (asked s survivors x Ifreq) z
          → is_in (waived_of new x) z ≡ false → is_supplied new z ≡ true
      ifreq_supplied x z effect asks = asked_supplied Ifreq (λ zone z. refl) x z effect asks
          (λ over. Contains-append_right (bypassed_pre x ++ bypassed_req x) (bypassed_ifreq x) z
          (subst (λ b. Contains (if b then asked s [] x Ifreq else []) z) (sym over) asks))
