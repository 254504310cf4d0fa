-- The ++VERs that fit, and what ++VERs require together.
use Rattle.std.proofs.Common.{◌≡◌, inl, inr, Bool, ◌||◌, List, [], ◌∷◌, ◌++◌, Option, None, Some}
use Rattle.std.proofs.Common.{map, filter, Contains, IsTrue, refl, sym, ap, subst, ◌∙◌}
use Rattle.std.specs.List.{flat_map}
use Rattle.std.specs.Option.{option_map_or}
use Rattle.std.specs.Str.{bytes_eq}
use Rattle.std.proofs.lemmas.Bool.{and_parts, and_from}
use Rattle.std.proofs.lemmas.Grind.{flat_map-append}
use Rattle.std.proofs.lemmas.List.Elements.{filter-append}
use Rattle.std.proofs.lemmas.List.Elements.{Contains-append_left, Contains-append_right, Contains-append_cases}
use Rattle.terms.specs.Types.{Id, IfReq, Ver, Sysmod, Zone}
use Rattle.terms.specs.Lookups.{sysmod_of, is_applied}
use Rattle.terms.specs.Choice.{fits}
use Rattle.terms.specs.Candidates.{required_by}
use Rattle.terms.specs.Conditions.{reqs_where}
use Rattle.terms.proofs.ListMembers.{filter_in, in_filter, flat_in, in_flat}
use Rattle.select.specs.Scopes.{Selecting, received_vers, vers_in, is_for_and_fits}
use Rattle.select.specs.Growing.{fitting, required_of}
use Rattle.select.proofs.Kept.{flat_mapped}

-- the requisites of all ++IFs that these have are those of each
pub reqs_flat : {X : Type 0} (p : Id → Bool) (f : X → List IfReq) (xs : List X)
    → reqs_where p (flat_map f xs) ≡ flat_map (λ x. reqs_where p (f x)) xs
reqs_flat p f [] = refl
reqs_flat p f (x ∷ xs) =
    ap (flat_map (λ i. i.req)) (filter-append (λ i. p i.function) (f x) (flat_map f xs))
    ∙ flat_map-append (λ i. i.req) (filter (λ i. p i.function) (f x)) (filter (λ i. p i.function) (flat_map f xs))
    ∙ ap (λ zs. reqs_where p (f x) ++ zs) (reqs_flat p f xs)

-- one of these ++VERs has it
pub reqs_from : (p : Id → Bool) (vs : List Ver) (z : Id) → Contains (reqs_where p (flat_map (λ v. v.ifs) vs)) z
    → (v : Ver) × Contains vs v × Contains (reqs_where p v.ifs) z
reqs_from p vs z h = flat_in (λ v. reqs_where p v.ifs) vs z
    (subst (λ zs. Contains zs z) (reqs_flat p (λ (v : Ver). v.ifs) vs) h)

pub in_reqs : (p : Id → Bool) (vs : List Ver) (v : Ver) (z : Id) → Contains vs v → Contains (reqs_where p v.ifs) z
    → Contains (reqs_where p (flat_map (λ v. v.ifs) vs)) z
in_reqs p vs v z there within = subst (λ zs. Contains zs z) (sym (reqs_flat p (λ (v : Ver). v.ifs) vs))
    (in_flat (λ v. reqs_where p v.ifs) vs v z there within)

-- What ++VERs require together is what one of them does.
module _ (zone : Zone) (cands : Id → Bool) where
  abbrev there : Id → Bool
  there f = is_applied zone f || cands f

  abbrev pres : List Ver → List Id
  pres vs = flat_map (λ v. v.pre) vs

  abbrev reqs : List Ver → List Id
  reqs vs = flat_map (λ v. v.req) vs

  abbrev conditional : List Ver → List Id
  conditional vs = reqs_where there (flat_map (λ v. v.ifs) vs)

  pub required_from : (vs : List Ver) (z : Id) → Contains (required_of zone cands vs) z
      → (v : Ver) × Contains vs v × Contains (required_by zone cands v) z
  required_from vs z h = elim (Contains-append_cases (pres vs ++ reqs vs) (conditional vs) z h) [
    | inl names ↦ elim (Contains-append_cases (pres vs) (reqs vs) z names) [
      | inl pre ↦ (
          let from = flat_in (λ (v : Ver). v.pre) vs z pre in (
            from.0,
            from.1,
            Contains-append_left (from.0.pre ++ from.0.req) (reqs_where there from.0.ifs) z
                (Contains-append_left from.0.pre from.0.req z from.2),
          ))
      | inr req ↦ (
          let from = flat_in (λ (v : Ver). v.req) vs z req in (
            from.0,
            from.1,
            Contains-append_left (from.0.pre ++ from.0.req) (reqs_where there from.0.ifs) z
                (Contains-append_right from.0.pre from.0.req z from.2),
          ))
    ]
    | inr ifs ↦ (
        let from = reqs_from there vs z ifs in
        (from.0, from.1, Contains-append_right (from.0.pre ++ from.0.req) (reqs_where there from.0.ifs) z from.2))
  ]

  pub in_required : (vs : List Ver) (v : Ver) (z : Id) → Contains vs v → Contains (required_by zone cands v) z
      → Contains (required_of zone cands vs) z
  in_required vs v z is h = elim (Contains-append_cases (v.pre ++ v.req) (reqs_where there v.ifs) z h) [
    | inl names ↦ Contains-append_left (pres vs ++ reqs vs) (conditional vs) z
        (elim (Contains-append_cases v.pre v.req z names) [
          | inl pre ↦ Contains-append_left (pres vs) (reqs vs) z (in_flat (λ (v : Ver). v.pre) vs v z is pre)
          | inr req ↦ Contains-append_right (pres vs) (reqs vs) z (in_flat (λ (v : Ver). v.req) vs v z is req)
        ])
    | inr ifs ↦ Contains-append_right (pres vs ++ reqs vs) (conditional vs) z (in_reqs there vs v z is ifs)
  ]

  -- of ++VERs that other items stand for
  pub required_mapped : {X : Type 0} (ver : X → Ver) (xs : List X)
      → flat_map (λ x. (ver x).pre) xs ++ flat_map (λ x. (ver x).req) xs
      ++ reqs_where there (flat_map (λ x. (ver x).ifs) xs)
      ≡ required_of zone cands (map ver xs)
  required_mapped ver xs =
      ap (λ ps. ps ++ flat_map (λ x. (ver x).req) xs ++ reqs_where there (flat_map (λ x. (ver x).ifs) xs))
      (sym (flat_mapped (λ (v : Ver). v.pre) ver xs))
      ∙ ap (λ rs. pres (map ver xs) ++ rs ++ reqs_where there (flat_map (λ x. (ver x).ifs) xs))
      (sym (flat_mapped (λ (v : Ver). v.req) ver xs))
      ∙ ap (λ is. pres (map ver xs) ++ reqs (map ver xs) ++ reqs_where there is)
      (sym (flat_mapped (λ (v : Ver). v.ifs) ver xs))

module _ (scope : Selecting) where
  abbrev is_for : Ver → Bool
  is_for v = bytes_eq v.srel scope.zone.srel

  pub vers_for : (x : Id) → filter is_for (received_vers scope x) ≡ vers_in scope x
  vers_for x = by (sysmod_of scope.global x)
    where
      by : (o : Option Sysmod)
          → filter is_for (option_map_or (λ s. s.vers) o []) ≡ option_map_or (λ s. filter is_for s.vers) o []
      by None = refl
      by (Some s) = refl

  -- What fits is a ++VER for the zone's SREL of one of them.
  pub fitting_from : (cands : Id → Bool) (xs : List Id) (v : Ver) → Contains (fitting scope cands xs) v
      → (y : Id) × Contains xs y × Contains (vers_in scope y) v × IsTrue (fits scope.zone cands v)
  fitting_from cands xs v h =
      let kept = filter_in (is_for_and_fits scope.zone cands) (flat_map (received_vers scope) xs) v h in
      let from = flat_in (received_vers scope) xs v kept.0 in
      let parts = and_parts (is_for v) (fits scope.zone cands v) kept.1 in (
        from.0,
        from.1,
        subst (λ vs. Contains vs v) (vers_for from.0)
            (in_filter is_for (received_vers scope from.0) v from.2 parts.0),
        parts.1,
      )

  pub in_fitting : (cands : Id → Bool) (xs : List Id) (y : Id) (v : Ver) → Contains xs y
      → Contains (vers_in scope y) v → IsTrue (fits scope.zone cands v) → Contains (fitting scope cands xs) v
  in_fitting cands xs y v among has fit =
      let kept = filter_in is_for (received_vers scope y) v (subst (λ vs. Contains vs v) (sym (vers_for y)) has) in
      in_filter (is_for_and_fits scope.zone cands) (flat_map (received_vers scope) xs) v
      (in_flat (received_vers scope) xs y v among kept.0)
      (and_from (is_for v) (fits scope.zone cands v) kept.1 fit)
