-- In a zone of a clean stream, all that a supplied SYSMOD is over is supplied.
use Rattle.std.proofs.Common.{◌≡◌, ◌∙◌, true, [], ◌++◌, Option, None, Some, Contains, IfSome, IsSome}
use Rattle.std.proofs.Common.{inl, inr, refl, ap, subst}
use Rattle.std.specs.Option.{option_map_or, option_and_then}
use Rattle.std.proofs.lemmas.List.Elements.{All-contains, Contains-append_cases}
use Rattle.terms.specs.Types.{Id, Ver, Global, Zone}
use Rattle.terms.specs.Lookups.{at_most_one, is_in, is_applied, is_supplied, supby_of, applied_ids}
use Rattle.terms.specs.Choice.{Choice, fmid_of, pre_of, sup_of}
use Rattle.terms.specs.Over.{names, IsOver, Supersedes}
use Rattle.terms.specs.Needs.{binding_ids}
use Rattle.terms.specs.Closed.{IsSupported}
use Rattle.terms.proofs.Applied.{in_applied_ids}
use Rattle.terms.proofs.Leads.{all_reached}
use Rattle.terms.proofs.ListMembers.{here_or, none_in}
use Rattle.machine_laws.proofs.Binding.{is_bound}
use Rattle.machine_laws.proofs.Supplied.{supplied_or, supplied_applied, supplied_by}
use Rattle.terms.specs.Stream.{IsInStream, KeepsRequisites, IsOfStream}

-- what names anything is in the stream
pub names_in_stream : (c : Choice) (x z : Id) → Contains (names c x) z → IsInStream c x
names_in_stream c x z = by (c x)
  where
    by : (o : Option Ver) → Contains (option_map_or (λ v. v.pre) o [] ++ option_map_or (λ v. v.sup) o []
        ++ at_most_one (option_and_then (λ v. v.fmid) o)) z → IsSome o
    by None is = absurd (none_in z is)
    by (Some v) is = refl

pub sup_in_stream : (c : Choice) (x z : Id) → Contains (sup_of c x) z → IsInStream c x
sup_in_stream c x z = by (c x)
  where
    by : (o : Option Ver) → Contains (option_map_or (λ v. v.sup) o []) z → IsSome o
    by None is = absurd (none_in z is)
    by (Some v) is = refl

only_one : (o : Option Id) (x : Id) → Contains (at_most_one o) x → o ≡ Some x
only_one None x is = absurd (none_in x is)
only_one (Some y) x is = elim (here_or y [] x is) [
  | inl same ↦ ap Some same
  | inr later ↦ absurd (none_in x later)
]

-- The SUP list has all that is superseded, directly or through others.
pub direct : (c : Choice) → KeepsRequisites c → (x z : Id) → Supersedes c x z → Contains (sup_of c x) z
direct c keeps x z = all_reached (sup_of c) (Contains (sup_of c x)) x (λ y named. named)
    (λ y w has named. (keeps x y (sup_in_stream c y w named) has).sup w named) z

module _ (g : Global) (c : Choice) (zone : Zone) (keeps : KeepsRequisites c) (is : IsOfStream g c zone) where
  pub supported : (x : Id) → is_applied zone x ≡ true → IsSupported c zone x
  supported x on = All-contains (IsSupported c zone) (applied_ids zone) x is.closed.supported (in_applied_ids zone x on)

  -- ---- what an applied SYSMOD names

  pre_supplied : (x z : Id) → is_applied zone x ≡ true → Contains (pre_of c x) z → is_supplied zone z ≡ true
  pre_supplied x z on named =
      All-contains (λ y. is_supplied zone y ≡ true) (binding_ids c zone (is_applied zone) x) z
      (supported x on).requisites
      (is_bound c zone (is_applied zone) x z (record {
        unwaived_by = ap (λ ids. is_in ids z) (is.unwaived x);
        by = inl named;
      }))

  sup_supplied : (x z : Id) → is_applied zone x ≡ true → Contains (sup_of c x) z → is_supplied zone z ≡ true
  sup_supplied x z on named = supplied_by zone z x ((is.supby z x).1 (on, named))

  fmid_supplied : (x z : Id) → is_applied zone x ≡ true → fmid_of c x ≡ Some z → is_supplied zone z ≡ true
  fmid_supplied x z on at = supplied_applied zone z
      (subst (λ o. IfSome o (λ f. is_applied zone f ≡ true)) at (supported x on).fmid)

  required_supplied : (x z : Id) → is_applied zone x ≡ true → Contains (pre_of c x ++ sup_of c x) z
      → is_supplied zone z ≡ true
  required_supplied x z on named = elim (Contains-append_cases (pre_of c x) (sup_of c x) z named) [
    | inl pre ↦ pre_supplied x z on pre
    | inr sup ↦ sup_supplied x z on sup
  ]

  applied_names : (x z : Id) → is_applied zone x ≡ true → Contains (names c x) z → is_supplied zone z ≡ true
  applied_names x z on named =
      elim (Contains-append_cases (pre_of c x ++ sup_of c x) (at_most_one (fmid_of c x)) z named) [
        | inl required ↦ required_supplied x z on required
        | inr fmid ↦ fmid_supplied x z on (only_one (fmid_of c x) z fmid)
      ]

  -- what a superseded one names, the SYSMOD that supersedes it names too
  superseded_names : (x b z : Id) → Contains (supby_of zone x) b → Contains (names c x) z → is_supplied zone z ≡ true
  superseded_names x b z by named =
      let sup = (is.supby x b).0 by in
      let has = keeps b x (names_in_stream c x z named) sup.1 in
      elim (Contains-append_cases (pre_of c x ++ sup_of c x) (at_most_one (fmid_of c x)) z named) [
        | inl required ↦ elim (Contains-append_cases (pre_of c x) (sup_of c x) z required) [
          | inl pre ↦ required_supplied b z sup.0 (has.pre z pre)
          | inr more ↦ sup_supplied b z sup.0 (has.sup z more)
        ]
        | inr fmid ↦ fmid_supplied b z sup.0 (has.fmid ∙ only_one (fmid_of c x) z fmid)
      ]

  supplied_names : (x z : Id) → is_supplied zone x ≡ true → Contains (names c x) z → is_supplied zone z ≡ true
  supplied_names x z there named = elim (supplied_or zone x there) [
    | inl on ↦ applied_names x z on named
    | inr by ↦ superseded_names x by.0 z by.1 named
  ]

  pub supplied_below : (x z : Id) → is_supplied zone x ≡ true → IsOver c x z → is_supplied zone z ≡ true
  supplied_below x z there over = all_reached (names c) (λ y. is_supplied zone y ≡ true) x
      (λ y named. supplied_names x y there named) supplied_names z over
