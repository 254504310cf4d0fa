-- What a SYSMOD asks for where some ids are candidates, and where others are.
use Rattle.std.proofs.Common.{◌≡◌, ◌⊎◌, inl, inr, Bool, true, false, not, ◌||◌, List, [], ◌++◌, Option, None, Some}
use Rattle.std.proofs.Common.{filter, Contains, IsTrue, if◌then◌else◌, refl, sym, ap, subst, ◌∙◌, true≢false}
use Rattle.std.specs.List.{flat_map}
use Rattle.std.specs.Option.{option_map_or}
use Rattle.std.specs.Str.{bytes_eq}
use Rattle.std.proofs.lemmas.Bool.{or_cases, or_left, or_right}
use Rattle.std.proofs.lemmas.List.Elements.{Contains-append_left, Contains-append_right, Contains-append_cases}
use Rattle.terms.specs.Types.{Id, IfReq, Ver, Zone}
use Rattle.terms.specs.Lookups.{is_in, at_most_one, is_applied, is_supplied, is_function, applied_ids}
use Rattle.terms.specs.Choice.{fits, counting}
use Rattle.terms.specs.Candidates.{fmids_for, required_by, needed_ids}
use Rattle.terms.specs.Conditions.{reqs_where, stated_for}
use Rattle.terms.specs.Global.{named_functions}
use Rattle.terms.proofs.Ids.{is_in_from_Contains}
use Rattle.terms.proofs.ListMembers.{none_in, here, filter_in, in_filter, flat_in, in_flat}
use Rattle.terms.proofs.TextOrder.{same_from, same_itself}
use Rattle.select.specs.Scopes.{Selecting, needed_in, open_reasons_in, vers_in}
use Rattle.select.specs.Growing.{asked_by, open_fmids, namers_in}
use Rattle.select.proofs.Listed.{function_listed, fmid_named, if_named}
use Rattle.std.proofs.lemmas.Bool.{cases_Bool}

module _ (zone : Zone) where
  abbrev there_with : (Id → Bool) → Id → Bool
  there_with cands f = is_applied zone f || cands f

  -- what a ++VER requires by this function: all, if it is its FMID, else what its ++IFs for it do
  abbrev pub required_through : (Id → Bool) → Id → Ver → List Id
  required_through cands f v =
      if is_in (at_most_one v.fmid) f then required_by zone cands v else reqs_where (bytes_eq f) v.ifs

  -- a function that is there with some candidates is there with others, or is a candidate of the first alone
  there_split : (cands others : Id → Bool) (f : Id) → IsTrue (there_with cands f)
      → IsTrue (there_with others f) ⊎ (IsTrue (cands f) × (others f ≡ false))
  there_split cands others f h = elim (or_cases (is_applied zone f) (cands f) h) [
    | inl on ↦ inl (or_left (is_applied zone f) (others f) on)
    | inr is ↦ elim (cases_Bool (others f)) [
      | inl too ↦ inl (or_right (is_applied zone f) (others f) too)
      | inr off ↦ inr (is, off)
    ]
  ]

  fits_split : (cands others : Id → Bool) (v : Ver) → IsTrue (fits zone cands v)
      → IsTrue (fits zone others v) ⊎ ((f : Id) × (v.fmid ≡ Some f) × IsTrue (cands f) × (others f ≡ false))
  fits_split cands others v = by v.fmid refl
    where
      by : (o : Option Id) → v.fmid ≡ o → IsTrue (option_map_or (there_with cands) o true)
          → IsTrue (option_map_or (there_with others) v.fmid true)
          ⊎ ((f : Id) × (v.fmid ≡ Some f) × IsTrue (cands f) × (others f ≡ false))
      by None e h = inl (subst (λ o. IsTrue (option_map_or (there_with others) o true)) (sym e) refl)
      by (Some f) e h = elim (there_split cands others f h) [
        | inl too ↦ inl (subst (λ o. IsTrue (option_map_or (there_with others) o true)) (sym e) too)
        | inr (is, off) ↦ inr (f, e, is, off)
      ]

  required_split : (cands others : Id → Bool) (v : Ver) (z : Id) → Contains (required_by zone cands v) z
      → Contains (required_by zone others v) z
      ⊎ ((i : IfReq) × Contains v.ifs i × Contains i.req z × IsTrue (cands i.function) × (others i.function ≡ false))
  required_split cands others v z h =
      elim (Contains-append_cases (v.pre ++ v.req) (reqs_where (there_with cands) v.ifs) z h) [
        | inl names ↦ inl (Contains-append_left (v.pre ++ v.req) (reqs_where (there_with others) v.ifs) z names)
        | inr ifs ↦ (
            let from = flat_in (λ (i : IfReq). i.req) (filter (λ i. there_with cands i.function) v.ifs) z ifs in
            let kept = filter_in (λ i. there_with cands i.function) v.ifs from.0 from.1 in
            elim (there_split cands others from.0.function kept.1) [
              | inl too ↦ inl (Contains-append_right (v.pre ++ v.req) (reqs_where (there_with others) v.ifs) z
                  (in_flat (λ i. i.req) (filter (λ i. there_with others i.function) v.ifs) from.0 z
                  (in_filter (λ i. there_with others i.function) v.ifs from.0 kept.0 too) from.2))
              | inr (is, off) ↦ inr (from.0, kept.0, from.2, is, off)
            ])
      ]

  -- with more candidates no ++VER fits less or requires less
  module _ (cands others : Id → Bool) (more : (f : Id) → IsTrue (cands f) → IsTrue (others f)) (v : Ver) where
    fits_more : IsTrue (fits zone cands v) → IsTrue (fits zone others v)
    fits_more fit = elim (fits_split cands others v fit) [
      | inl too ↦ too
      | inr (f, _, is, off) ↦ absurd (true≢false (sym (more f is) ∙ off))
    ]

    required_more : (z : Id) → Contains (required_by zone cands v) z → Contains (required_by zone others v) z
    required_more z h = elim (required_split cands others v z h) [
      | inl too ↦ too
      | inr (i, _, _, is, off) ↦ absurd (true≢false (sym (more i.function is) ∙ off))
    ]

    through_more : (f z : Id) → Contains (required_through cands f v) z
        → Contains (required_through others f v) z
    through_more f z = by (is_in (at_most_one v.fmid) f)
      where
        by : (b : Bool) → Contains (if b then required_by zone cands v else reqs_where (bytes_eq f) v.ifs) z
            → Contains (if b then required_by zone others v else reqs_where (bytes_eq f) v.ifs) z
        by true h = required_more z h
        by false h = h

  -- What it requires by its FMID or by the function of an ++IF, and back.
  module _ (cands : Id → Bool) (v : Ver) (z : Id) where
    through_fmid : (f : Id) → v.fmid ≡ Some f → Contains (required_by zone cands v) z
        → Contains (required_through cands f v) z
    through_fmid f at h =
        subst (λ b. Contains (if b then required_by zone cands v else reqs_where (bytes_eq f) v.ifs) z) (sym named) h
      where
        named : is_in (at_most_one v.fmid) f ≡ true
        named = ap (λ o. is_in (at_most_one o) f) at ∙ is_in_from_Contains (at_most_one (Some f)) f (here f [])

    through_if : (i : IfReq) → Contains v.ifs i → Contains i.req z → Contains (required_by zone cands v) z
        → Contains (required_through cands i.function v) z
    through_if i has states h = by (is_in (at_most_one v.fmid) i.function)
      where
        by : (b : Bool)
            → Contains (if b then required_by zone cands v else reqs_where (bytes_eq i.function) v.ifs) z
        by true = h
        by false = in_flat (λ (j : IfReq). j.req) (filter (λ j. bytes_eq i.function j.function) v.ifs) i z
            (in_filter (λ j. bytes_eq i.function j.function) v.ifs i has (same_itself i.function)) states

    -- what an ++IF for a candidate requires
    pub if_required : (f : Id) → IsTrue (cands f) → Contains (reqs_where (bytes_eq f) v.ifs) z
        → Contains (required_by zone cands v) z
    if_required f is h =
        let from = flat_in (λ (i : IfReq). i.req) (filter (λ i. bytes_eq f i.function) v.ifs) z h in
        let kept = filter_in (λ i. bytes_eq f i.function) v.ifs from.0 from.1 in
        Contains-append_right (v.pre ++ v.req) (reqs_where (there_with cands) v.ifs) z
        (in_flat (λ (i : IfReq). i.req) (filter (λ i. there_with cands i.function) v.ifs) from.0 z
        (in_filter (λ i. there_with cands i.function) v.ifs from.0 kept.0
        (or_right (is_applied zone from.0.function) (cands from.0.function)
        (subst (λ w. IsTrue (cands w)) (same_from f from.0.function kept.1) is))) from.2)

module _ (scope : Selecting) where
  abbrev zone : Zone
  zone = scope.zone

  abbrev free : Id → Bool
  free z = not (is_supplied zone z)

  abbrev fmids : Id → List Id
  fmids x = open_fmids zone (fmids_for scope.global zone.srel x)

  -- what applied SYSMODs state for a function by the ++VERs that count
  abbrev pub for_function : Id → List Id
  for_function x =
      if is_function scope.global x then stated_for (counting scope.global zone []) (applied_ids zone) x else []

  -- under GROUPEXTEND the open reasons
  abbrev reasons_too : Id → List Id
  reasons_too x = if scope.selection.groupextend then open_reasons_in scope x else []

  -- by which operand it asks for an id
  pub data Asks (cands : Id → Bool) (x z : Id) : Type 0 where
    Fmid : Contains (fmids x) z → Asks cands x z
    Required : IsTrue (free z) → (v : Ver) → Contains (vers_in scope x) v → IsTrue (fits zone cands v)
        → Contains (required_by zone cands v) z → Asks cands x z
    Stated : IsTrue (free z) → Contains (for_function x) z → Asks cands x z
    Reason : IsTrue scope.selection.groupextend → Contains (open_reasons_in scope x) z → Asks cands x z

  -- the requisites of those of its ++VERs for the zone's SREL that fit
  abbrev own_requisites : (Id → Bool) → Id → List Id
  own_requisites cands x = flat_map (required_by zone cands) (filter (fits zone cands) (vers_in scope x))

  in_own : (cands : Id → Bool) (x z : Id) (v : Ver) → Contains (vers_in scope x) v
      → IsTrue (fits zone cands v) → Contains (required_by zone cands v) z → Contains (own_requisites cands x) z
  in_own cands x z v there fit within =
      in_flat (required_by zone cands) (filter (fits zone cands) (vers_in scope x)) v z
      (in_filter (fits zone cands) (vers_in scope x) v there fit) within

  own_in : (cands : Id → Bool) (x z : Id) → IsTrue (free z) → Contains (own_requisites cands x) z
      → Asks cands x z
  own_in cands x z is_free h =
      let from = flat_in (required_by zone cands) (filter (fits zone cands) (vers_in scope x)) z h in
      let kept = filter_in (fits zone cands) (vers_in scope x) from.0 from.1 in
      Required is_free from.0 kept.0 kept.1 from.2

  -- it asks for an id by this function, with a ++VER that fits
  pub record AsksThrough (cands : Id → Bool) (f x z : Id) : Type 0 where
    pub named : Contains (namers_in scope f) x
    pub is_free : IsTrue (free z)
    pub ver : Ver
    pub there : Contains (vers_in scope x) ver
    pub fit : IsTrue (fits zone cands ver)
    pub within : Contains (required_through zone cands f ver) z

  -- With other candidates it asks for the same, or it does so by a function that is a candidate here alone.
  pub asks_with : (cands others : Id → Bool) (x z : Id) → Asks cands x z
      → Asks others x z ⊎ ((f : Id) × IsTrue (cands f) × (others f ≡ false) × AsksThrough cands f x z)
  asks_with cands others x z (Fmid h) = inl (Fmid h)
  asks_with cands others x z (Stated is_free h) = inl (Stated is_free h)
  asks_with cands others x z (Reason extend h) = inl (Reason extend h)
  asks_with cands others x z (Required is_free v there fit within) = elim (fits_split zone cands others v fit) [
    | inr (f, at, is, off) ↦ inr (
      f,
      is,
      off,
      through f (fmid_named v f at) (through_fmid zone cands v z f at within),
    )
    | inl fit_too ↦ elim (required_split zone cands others v z within) [
      | inl too ↦ inl (Required is_free v there fit_too too)
      | inr (i, has, states, is, off) ↦ inr (
        i.function,
        is,
        off,
        through i.function (if_named v i has) (through_if zone cands v z i has states within),
      )
    ]
  ]
    where
      through : (f : Id) → IsTrue (is_in (named_functions v) f) → Contains (required_through zone cands f v) z
          → AsksThrough cands f x z
      through f names by_it = record {
        named = function_listed scope.global zone.srel x f v there names;
        is_free = is_free;
        ver = v;
        there = there;
        fit = fit;
        within = by_it;
      }

  -- with more candidates it asks for no less
  pub asks_more : (cands others : Id → Bool) (x z : Id) → ((f : Id) → IsTrue (cands f) → IsTrue (others f))
      → Asks cands x z → Asks others x z
  asks_more cands others x z more (Fmid h) = Fmid h
  asks_more cands others x z more (Stated is_free h) = Stated is_free h
  asks_more cands others x z more (Reason extend h) = Reason extend h
  asks_more cands others x z more (Required is_free v there fit within) =
      Required is_free v there (fits_more zone cands others more v fit)
      (required_more zone cands others more v z within)

  pub through_still : (cands others : Id → Bool) (f x z : Id) → ((h : Id) → IsTrue (cands h) → IsTrue (others h))
      → AsksThrough cands f x z → AsksThrough others f x z
  through_still cands others f x z more asks = record {
    named = asks.named;
    is_free = asks.is_free;
    ver = asks.ver;
    there = asks.there;
    fit = fits_more zone cands others more asks.ver asks.fit;
    within = through_more zone cands others more asks.ver f z asks.within;
  }

  -- what a growing one asks for has the needed ids, and under GROUPEXTEND the open reasons
  pub needed_asked : (cands : Id → Bool) (x z : Id) → Contains (needed_in scope cands x) z
      → Contains (asked_by scope cands x) z
  needed_asked cands x z h = Contains-append_left (needed_in scope cands x) (reasons_too x) z h

  pub reason_asked : (cands : Id → Bool) (x z : Id) → IsTrue scope.selection.groupextend
      → Contains (open_reasons_in scope x) z → Contains (asked_by scope cands x) z
  reason_asked cands x z extend h = Contains-append_right (needed_in scope cands x) (reasons_too x) z
      (subst (λ b. Contains (if b then open_reasons_in scope x else []) z) (sym extend) h)

  abbrev all_listed : (Id → Bool) → Id → List Id
  all_listed cands x = own_requisites cands x ++ for_function x

  needed_are : (cands : Id → Bool) (x : Id) → needed_in scope cands x ≡ fmids x ++ filter free (all_listed cands x)
  unfolding needed_ids
  needed_are cands x = refl

  in_needed : (cands : Id → Bool) (x z : Id) → IsTrue (free z) → Contains (all_listed cands x) z
      → Contains (needed_in scope cands x) z
  in_needed cands x z is_free h = subst (λ zs. Contains zs z) (sym (needed_are cands x))
      (Contains-append_right (fmids x) (filter free (all_listed cands x)) z
      (in_filter free (all_listed cands x) z h is_free))

  -- z is needed by x, or an open reason that x brings in
  abbrev pub IsWanted : (Id → Bool) → Id → Id → Type 0
  IsWanted cands x z =
      Contains (needed_in scope cands x) z ⊎ (IsTrue scope.selection.groupextend × Contains (open_reasons_in scope x) z)

  pub asks_needed : (cands : Id → Bool) (x z : Id) → Asks cands x z → IsWanted cands x z
  asks_needed cands x z (Fmid h) = inl (subst (λ zs. Contains zs z) (sym (needed_are cands x))
      (Contains-append_left (fmids x) (filter free (all_listed cands x)) z h))
  asks_needed cands x z (Required is_free v there fit within) = inl (in_needed cands x z is_free
      (Contains-append_left (own_requisites cands x) (for_function x) z (in_own cands x z v there fit within)))
  asks_needed cands x z (Stated is_free h) = inl (in_needed cands x z is_free
      (Contains-append_right (own_requisites cands x) (for_function x) z h))
  asks_needed cands x z (Reason extend h) = inr (extend, h)

  pub asks_asked : (cands : Id → Bool) (x z : Id) → Asks cands x z → Contains (asked_by scope cands x) z
  asks_asked cands x z asks = elim (asks_needed cands x z asks) [
    | inl needed ↦ needed_asked cands x z needed
    | inr (extend, reason) ↦ reason_asked cands x z extend reason
  ]

  pub asks_from : (cands : Id → Bool) (x z : Id) → Contains (asked_by scope cands x) z → Asks cands x z
  asks_from cands x z h =
      elim (Contains-append_cases (needed_in scope cands x) (reasons_too x) z h) [
        | inl needed ↦ elim (Contains-append_cases (fmids x) (filter free (all_listed cands x)) z
            (subst (λ zs. Contains zs z) (needed_are cands x) needed)) [
              | inl fmid ↦ Fmid fmid
              | inr rest ↦ listed_ask (filter_in free (all_listed cands x) z rest)
            ]
        | inr reason ↦ by scope.selection.groupextend refl reason
      ]
    where
      by : (b : Bool) → scope.selection.groupextend ≡ b → Contains (if b then open_reasons_in scope x else []) z
          → Asks cands x z
      by true e there = Reason e there
      by false e none = absurd (none_in z none)

      listed_ask : Contains (all_listed cands x) z × (free z ≡ true) → Asks cands x z
      listed_ask (there, is_free) =
          elim (Contains-append_cases (own_requisites cands x) (for_function x) z there) [
            | inl own ↦ own_in cands x z is_free own
            | inr others ↦ Stated is_free others
          ]
