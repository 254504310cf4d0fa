-- What comes to be asked for once an id is: what it asks for, and what those ask for by it that name it as a function.
use Rattle.std.proofs.Common.{◌≡◌, ◌-◌, inl, inr, Bool, true, false, not, List, [], ◌∷◌, ◌++◌, map, Option, None, Some}
use Rattle.std.proofs.Common.{filter, Contains, IsTrue, is_some, if◌then◌else◌, refl, sym, ap, subst, ◌↔◌}
use Rattle.std.specs.Prelude.{ℕ, position, slice_get, unwrap_or}
use Rattle.std.specs.List.{flat_map}
use Rattle.std.specs.Option.{option_map_or, option_and_then}
use Rattle.std.specs.Str.{bytes_eq}
use Rattle.std.proofs.lemmas.List.Elements.{Contains-append_left, Contains-append_right, Contains-append_cases}
use Rattle.terms.specs.declared.kinds.HoldKind.TheVariants.{Error}
use Rattle.terms.specs.Types.{Id, IfReq, Ver, Applied, Entry, Zone}
use Rattle.terms.specs.Lookups.{is_in, is_applied, applied_of, entry_of, is_supplied, is_function, applied_ids}
use Rattle.terms.specs.Lookups.{at_most_one, holds_of}
use Rattle.terms.specs.Choice.{Choice, fits, ifs_of, counting}
use Rattle.terms.specs.Candidates.{fmids_for, required_by}
use Rattle.terms.specs.Conditions.{reqs_where, if_reqs, stated_for}
use Rattle.terms.proofs.ListMembers.{here, here_or, none_in, filter_in, in_filter, flat_in, in_flat}
use Rattle.terms.proofs.Places.{contains_at}
use Rattle.terms.proofs.TextOrder.{same_from}
use Rattle.terms.proofs.Applied.{AppliedAre, applied_dated}
use Rattle.select.specs.Scopes.{Selecting, vers_in}
use Rattle.select.specs.Growing.{taken_up, has_grown, open_fmids, fitting, required_of, required_for, installed_ver}
use Rattle.select.specs.Growing.{namers_in, stated, reasons, own_asked, fitting_namers, asked_by_namers}
use Rattle.select.proofs.Vers.{reqs_flat, reqs_from, in_reqs, required_from, in_required, fitting_from, in_fitting}
use Rattle.select.proofs.Needs.{for_function, Asks, Fmid, Required, Stated, Reason, AsksThrough, if_required}
use Rattle.select.proofs.Listed.{function_listed, if_named}

some_applied : (o : Option Entry) (a : Applied) → option_and_then (λ e. e.applied) o ≡ Some a
    → option_map_or (λ e. is_some e.applied) o false ≡ true
some_applied None a e = absurd (cc e)
some_applied (Some e) a is = ap is_some is

-- of those of an applied SYSMOD the one of its number, whatever would be taken else
by_number : (vs : List Ver) (o : Option Applied) (a : Applied) (other : ℕ) → o ≡ Some a
    → slice_get vs (option_map_or (λ b. b.number - 1) o other)
    ≡ option_and_then (λ b. slice_get vs (b.number - 1)) o
by_number vs None a other at = absurd (cc at)
by_number vs (Some b) a other at = refl

module _ (scope : Selecting) where
  abbrev zone : Zone
  zone = scope.zone

  abbrev counted_ver : Choice
  counted_ver = counting scope.global zone []

  -- the ++VER that counts of what is applied
  kept_counts : (y : Id) (a : Applied) → applied_of zone y ≡ Some a → counted_ver y ≡ installed_ver scope y
  kept_counts y a at = by_number (vers_in scope y) (applied_of zone y) a
      (unwrap_or (position (fits zone (is_in [])) (vers_in scope y)) 0) at

  -- what has one is applied, and it is one of its ++VERs
  kept_there : (y : Id) (v : Ver) → installed_ver scope y ≡ Some v
      → IsTrue (is_applied zone y) × Contains (vers_in scope y) v
  kept_there y v = by (applied_of zone y) refl
    where
      by : (o : Option Applied) → applied_of zone y ≡ o
          → option_and_then (λ a. slice_get (vers_in scope y) (a.number - 1)) o ≡ Some v
          → IsTrue (is_applied zone y) × Contains (vers_in scope y) v
      by None at found = absurd (cc found)
      by (Some a) at found = (
        some_applied (entry_of zone y) a at,
        contains_at (vers_in scope y) (a.number - 1) v found,
      )

  -- what states anything for a function by it
  record States (x y : Id) : Type 0 where
    on : IsTrue (is_applied zone y)
    names : Contains (namers_in scope x) y

  states : (x y z : Id) → Contains (if_reqs (installed_ver scope) (bytes_eq x) y) z → States x y
  states x y z = by (installed_ver scope y) refl
    where
      by : (o : Option Ver) → installed_ver scope y ≡ o
          → Contains (reqs_where (bytes_eq x) (option_map_or (λ v. v.ifs) o [])) z → States x y
      by None at none = absurd (none_in z none)
      by (Some v) at h =
          let from = flat_in (λ (i : IfReq). i.req) (filter (λ i. bytes_eq x i.function) v.ifs) z h in
          let kept = filter_in (λ i. bytes_eq x i.function) v.ifs from.0 from.1 in
          let is = kept_there y v at in
          record {
            on = is.0;
            names = subst (λ f. Contains (namers_in scope f) y) (sym (same_from x from.0.function kept.1))
                (function_listed scope.global zone.srel y from.0.function v is.1 (if_named v from.0 kept.0));
          }

  -- What applied SYSMODs state for it is what those among its namers state.
  stated_same : AppliedAre zone → (x z : Id) → Contains (stated scope x) z ↔ Contains (for_function scope x) z
  stated_same applied x z = by (is_function scope.global x)
    where
      reqs_at : Option Ver → List Id
      reqs_at o = reqs_where (bytes_eq x) (option_map_or (λ v. v.ifs) o [])

      counted : (y : Id) → IsTrue (is_applied zone y) → counted_ver y ≡ installed_ver scope y
      counted y on = let a = applied_dated zone y on in kept_counts y a.0 a.1

      as_stated : reqs_where (bytes_eq x) (flat_map (ifs_of (installed_ver scope)) (namers_in scope x))
          ≡ stated_for (installed_ver scope) (namers_in scope x) x
      as_stated = reqs_flat (bytes_eq x) (ifs_of (installed_ver scope)) (namers_in scope x)

      by : (b : Bool)
          → Contains
          (if b then reqs_where (bytes_eq x) (flat_map (ifs_of (installed_ver scope)) (namers_in scope x)) else [])
          z
          ↔ Contains (if b then stated_for counted_ver (applied_ids zone) x else []) z
      by false = (λ none. none, λ none. none)
      by true = (
        λ h.
            let from = flat_in (if_reqs (installed_ver scope) (bytes_eq x)) (namers_in scope x) z
            (subst (λ zs. Contains zs z) as_stated h) in
            let is = states x from.0 z from.2 in
            in_flat (if_reqs counted_ver (bytes_eq x)) (applied_ids zone) from.0 z ((applied from.0).1 is.on)
            (subst (λ o. Contains (reqs_at o) z) (sym (counted from.0 is.on)) from.2),
        λ h.
            let from = flat_in (if_reqs counted_ver (bytes_eq x)) (applied_ids zone) z h in
            let within : Contains (if_reqs (installed_ver scope) (bytes_eq x) from.0) z =
            subst (λ o. Contains (reqs_at o) z) (counted from.0 ((applied from.0).0 from.1)) from.2 in
            subst (λ zs. Contains zs z) (sym as_stated)
            (in_flat (if_reqs (installed_ver scope) (bytes_eq x)) (namers_in scope x) from.0 z
            (states x from.0 z within).names within),
      )

module _ (scope : Selecting) (seen : List Id) where
  abbrev free : Id → Bool
  free z = not (is_supplied scope.zone z)

  abbrev fmids : Id → List Id
  fmids x = open_fmids scope.zone (fmids_for scope.global scope.zone.srel x)

  abbrev cands : Id → Bool
  cands = taken_up scope seen

  abbrev error_reasons : Id → List Id
  error_reasons x = map (λ h. h.reason) (holds_of scope.global Error x)

  abbrev own_vers : Id → List Ver
  own_vers x = fitting scope cands (x ∷ [])

  abbrev own : Id → List Id
  own x = required_of scope.zone cands (own_vers x)

  abbrev all_requisites : Id → List Id
  all_requisites x = own x ++ stated scope x ++ reasons scope x

  in_asked : (x z : Id) → IsTrue (free z) → Contains (all_requisites x) z → Contains (own_asked scope seen x) z
  in_asked x z is_free h = Contains-append_right (fmids x) (filter free (all_requisites x)) z
      (in_filter free (all_requisites x) z h is_free)

  -- What it asks for it does by itself, and only that.
  pub own_has : AppliedAre scope.zone → (x z : Id) → Asks scope cands x z → Contains (own_asked scope seen x) z
  own_has applied x z (Fmid h) = Contains-append_left (fmids x) (filter free (all_requisites x)) z h
  own_has applied x z (Required is_free v is fit within) = in_asked x z is_free
      (Contains-append_left (own x ++ stated scope x) (reasons scope x) z
      (Contains-append_left (own x) (stated scope x) z (in_required scope.zone cands (own_vers x) v z
      (in_fitting scope cands (x ∷ []) x v (here x []) is fit) within)))
  own_has applied x z (Stated is_free h) = in_asked x z is_free
      (Contains-append_left (own x ++ stated scope x) (reasons scope x) z
      (Contains-append_right (own x) (stated scope x) z ((stated_same scope applied x z).1 h)))
  own_has applied x z (Reason extend h) =
      let kept = filter_in free (error_reasons x) z h in
      in_asked x z kept.1
      (Contains-append_right (own x ++ stated scope x) (reasons scope x) z
      (subst (λ b. Contains (if b then error_reasons x else []) z) (sym extend) kept.0))

  pub own_asks : AppliedAre scope.zone → (x z : Id) → Contains (own_asked scope seen x) z → Asks scope cands x z
  own_asks applied x z h =
      elim (Contains-append_cases (fmids x) (filter free (all_requisites x)) z h) [
        | inl fmid ↦ Fmid fmid
        | inr rest ↦ let kept = filter_in free (all_requisites x) z rest in called kept.1 kept.0
      ]
    where
      reason : IsTrue (free z) → (b : Bool) → scope.selection.groupextend ≡ b
          → Contains (if b then error_reasons x else []) z → Asks scope cands x z
      reason is_free false e none = absurd (none_in z none)
      reason is_free true e is = Reason e (in_filter free (error_reasons x) z is is_free)

      itself : (y : Id) → Contains (x ∷ []) y → y ≡ x
      itself y h = elim (here_or x [] y h) [ inl same ↦ sym same | inr none ↦ absurd (none_in y none) ]

      required : IsTrue (free z) → Contains (own x) z → Asks scope cands x z
      required is_free h =
          let from = required_from scope.zone cands (own_vers x) z h in
          let fit = fitting_from scope cands (x ∷ []) from.0 from.1 in
          Required is_free from.0 (subst (λ y. Contains (vers_in scope y) from.0) (itself fit.0 fit.1) fit.2)
          fit.3 from.2

      called : IsTrue (free z) → Contains (all_requisites x) z → Asks scope cands x z
      called is_free is =
          elim (Contains-append_cases (own x ++ stated scope x) (reasons scope x) z is) [
            | inl first ↦ elim (Contains-append_cases (own x) (stated scope x) z first) [
              | inl mine ↦ required is_free mine
              | inr others ↦ Stated is_free ((stated_same scope applied x z).0 others)
            ]
            | inr last ↦ reason is_free scope.selection.groupextend refl last
          ]

  -- What those ask for by it that grow and name it.
  abbrev growing_namers : Id → List Id
  growing_namers f = filter (has_grown scope seen) (namers_in scope f)

  abbrev has_fmid : Id → Ver → Bool
  has_fmid f v = is_in (at_most_one v.fmid) f

  abbrev by_fmid : Id → List Id
  by_fmid f = required_of scope.zone cands (filter (has_fmid f) (fitting_namers scope seen f))

  abbrev by_ifs : Id → List Id
  by_ifs f = required_for f (fitting_namers scope seen f)

  pub namers_have : (f y z : Id) → IsTrue (has_grown scope seen y) → AsksThrough scope cands f y z
      → Contains (asked_by_namers scope seen f) z
  namers_have f y z grows asks =
      in_filter free (by_fmid f ++ by_ifs f) z (by (has_fmid f asks.ver) refl asks.within) asks.is_free
    where
      fitting_ver : Contains (fitting_namers scope seen f) asks.ver
      fitting_ver = in_fitting scope cands (growing_namers f) y asks.ver
          (in_filter (has_grown scope seen) (namers_in scope f) y asks.named grows) asks.there asks.fit

      by : (b : Bool) → has_fmid f asks.ver ≡ b
          → Contains (if b then required_by scope.zone cands asks.ver else reqs_where (bytes_eq f) asks.ver.ifs) z
          → Contains (by_fmid f ++ by_ifs f) z
      by true e h = Contains-append_left (by_fmid f) (by_ifs f) z
          (in_required scope.zone cands (filter (has_fmid f) (fitting_namers scope seen f)) asks.ver z
          (in_filter (has_fmid f) (fitting_namers scope seen f) asks.ver fitting_ver e) h)
      by false e h = Contains-append_right (by_fmid f) (by_ifs f) z
          (in_reqs (bytes_eq f) (fitting_namers scope seen f) asks.ver z fitting_ver h)

  -- one that grows asks for it
  abbrev pub IsCalledFor : Id → Type 0
  IsCalledFor z = (y : Id) × IsTrue (has_grown scope seen y) × Asks scope cands y z

  pub namers_ask : (f z : Id) → IsTrue (cands f) → Contains (asked_by_namers scope seen f) z → IsCalledFor z
  namers_ask f z is h =
      let passed = filter_in free (by_fmid f ++ by_ifs f) z h in
      elim (Contains-append_cases (by_fmid f) (by_ifs f) z passed.0) [
        | inl whole ↦ (
            let from = required_from scope.zone cands (filter (has_fmid f) (fitting_namers scope seen f)) z whole in
            called passed.1 from.0 (filter_in (has_fmid f) (fitting_namers scope seen f) from.0 from.1).0 from.2)
        | inr ifs ↦ (
            let from = reqs_from (bytes_eq f) (fitting_namers scope seen f) z ifs in
            called passed.1 from.0 from.1 (if_required scope.zone cands from.0 z f is from.2))
      ]
    where
      called : IsTrue (free z) → (v : Ver) → Contains (fitting_namers scope seen f) v
          → Contains (required_by scope.zone cands v) z → IsCalledFor z
      called is_free v there within =
          let fit = fitting_from scope cands (growing_namers f) v there in
          let grows = filter_in (has_grown scope seen) (namers_in scope f) fit.0 fit.1 in
          (fit.0, grows.1, Required is_free v fit.2 fit.3 within)
