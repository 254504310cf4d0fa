-- The requisites that hold a SYSMOD, one by one.
use Rattle.std.proofs.Common.{◌≡◌, ◌⊎◌, Bool, true, false, not, List, ◌++◌, Contains, filter, inl, inr}
use Rattle.std.proofs.lemmas.Bool.{not-true, not_from_false}
use Rattle.std.proofs.lemmas.List.Elements.{Contains-append_left, Contains-append_right, Contains-append_cases}
use Rattle.terms.proofs.ListMembers.{in_filter, filter_in, flat_in, in_flat}
use Rattle.terms.specs.Types.{Id, IfReq, Zone}
use Rattle.terms.specs.Lookups.{is_in, waived_of}
use Rattle.terms.specs.Choice.{Choice, pre_of, req_of, ifs_of}
use Rattle.terms.specs.Conditions.{reqs_where}
use Rattle.terms.specs.Needs.{unwaived, binding_ifs, binding_ids}

-- An ++IF of w whose function is there requires z, and the function does not waive it.
pub record BindsIf (c : Choice) (zone : Zone) (is_there : Id → Bool) (w z : Id) (i : IfReq) : Type 0 where
  pub has : Contains (ifs_of c w) i
  pub there : is_there i.function ≡ true
  pub requires : Contains i.req z
  pub unwaived_by : is_in (waived_of zone i.function) z ≡ false

-- z is a PRE or REQ of w, or a requisite by ++IF, and w does not waive it.
pub record Binds (c : Choice) (zone : Zone) (is_there : Id → Bool) (w z : Id) : Type 0 where
  pub unwaived_by : is_in (waived_of zone w) z ≡ false
  pub by : Contains (pre_of c w) z ⊎ Contains (req_of c w) z ⊎ ((i : IfReq) × BindsIf c zone is_there w z i)

module _ (zone : Zone) where
  pub in_unwaived : (w : Id) (ids : List Id) (z : Id) → Contains ids z → is_in (waived_of zone w) z ≡ false
      → Contains (unwaived zone w ids) z
  in_unwaived w ids z there binding = in_filter (λ z. not (is_in (waived_of zone w) z)) ids z there
      (not_from_false (is_in (waived_of zone w) z) binding)

  pub unwaived_in : (w : Id) (ids : List Id) (z : Id) → Contains (unwaived zone w ids) z
      → Contains ids z × (is_in (waived_of zone w) z ≡ false)
  unwaived_in w ids z there =
      let from = filter_in (λ z. not (is_in (waived_of zone w) z)) ids z there in
      (from.0, not-true (is_in (waived_of zone w) z) from.1)

module _ (c : Choice) (zone : Zone) (is_there : Id → Bool) (w z : Id) where
  pub binds : Contains (binding_ids c zone is_there w) z → Binds c zone is_there w z
  binds bound =
      let from = unwaived_in zone w (pre_of c w ++ req_of c w ++ binding_ifs c zone is_there w) z bound in
      record { unwaived_by = from.1; by = which from.0 }
    where
      by_if : Contains (binding_ifs c zone is_there w) z → (i : IfReq) × BindsIf c zone is_there w z i
      by_if there =
          let from = flat_in (λ (i : IfReq). unwaived zone i.function i.req)
          (filter (λ i. is_there i.function) (ifs_of c w)) z there in
          let i : IfReq = from.0 in
          let stated = filter_in (λ (i : IfReq). is_there i.function) (ifs_of c w) i from.1 in
          let required = unwaived_in zone i.function i.req z from.2 in
          (i, record { has = stated.0; there = stated.1; requires = required.0; unwaived_by = required.1 })

      which : Contains (pre_of c w ++ req_of c w ++ binding_ifs c zone is_there w) z
          → Contains (pre_of c w) z ⊎ Contains (req_of c w) z ⊎ ((i : IfReq) × BindsIf c zone is_there w z i)
      which there =
          elim (Contains-append_cases (pre_of c w ++ req_of c w) (binding_ifs c zone is_there w) z there) [
            | inl own ↦ elim (Contains-append_cases (pre_of c w) (req_of c w) z own) [
              | inl pre ↦ inl pre
              | inr req ↦ inr (inl req)
            ]
            | inr ifs ↦ inr (inr (by_if ifs))
          ]

  pub is_bound : Binds c zone is_there w z → Contains (binding_ids c zone is_there w) z
  is_bound b = in_unwaived zone w (pre_of c w ++ req_of c w ++ binding_ifs c zone is_there w) z (among b.by)
      b.unwaived_by
    where
      by_if : (i : IfReq) → BindsIf c zone is_there w z i → Contains (binding_ifs c zone is_there w) z
      by_if i by = in_flat (λ (i : IfReq). unwaived zone i.function i.req)
          (filter (λ i. is_there i.function) (ifs_of c w)) i z
          (in_filter (λ (i : IfReq). is_there i.function) (ifs_of c w) i by.has by.there)
          (in_unwaived zone i.function i.req z by.requires by.unwaived_by)

      among : Contains (pre_of c w) z ⊎ Contains (req_of c w) z ⊎ ((i : IfReq) × BindsIf c zone is_there w z i)
          → Contains (pre_of c w ++ req_of c w ++ binding_ifs c zone is_there w) z
      among (inl pre) =
          Contains-append_left (pre_of c w ++ req_of c w) (binding_ifs c zone is_there w) z
          (Contains-append_left (pre_of c w) (req_of c w) z pre)
      among (inr (inl req)) =
          Contains-append_left (pre_of c w ++ req_of c w) (binding_ifs c zone is_there w) z
          (Contains-append_right (pre_of c w) (req_of c w) z req)
      among (inr (inr ifs)) =
          Contains-append_right (pre_of c w ++ req_of c w) (binding_ifs c zone is_there w) z (by_if ifs.0 ifs.1)

-- Where more functions are there, no fewer requisites bind.
pub more_bound : (c : Choice) (zone : Zone) (is_there more : Id → Bool) → ((f : Id) → is_there f ≡ true → more f ≡ true)
    → (w z : Id) → Contains (binding_ids c zone is_there w) z → Contains (binding_ids c zone more w) z
more_bound c zone is_there more within w z bound =
    let b = binds c zone is_there w z bound in
    is_bound c zone more w z (record { unwaived_by = b.unwaived_by; by = by b.by })
  where
    by : Contains (pre_of c w) z ⊎ Contains (req_of c w) z ⊎ ((i : IfReq) × BindsIf c zone is_there w z i)
        → Contains (pre_of c w) z ⊎ Contains (req_of c w) z ⊎ ((i : IfReq) × BindsIf c zone more w z i)
    by (inl pre) = inl pre
    by (inr (inl req)) = inr (inl req)
    by (inr (inr (i, b))) = inr (inr (
      i,
      record {
        has = b.has;
        there = within i.function b.there;
        requires = b.requires;
        unwaived_by = b.unwaived_by;
      },
    ))

-- a requisite of an ++IF whose function is there
pub required_where : (is_there : Id → Bool) (ifs : List IfReq) (i : IfReq) (z : Id) → Contains ifs i
    → is_there i.function ≡ true → Contains i.req z → Contains (reqs_where is_there ifs) z
required_where is_there ifs i z has there requires =
    in_flat (λ (i : IfReq). i.req) (filter (λ i. is_there i.function) ifs) i z
    (in_filter (λ (i : IfReq). is_there i.function) ifs i has there) requires
