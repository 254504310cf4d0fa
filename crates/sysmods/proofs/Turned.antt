-- What the received SYSMODs name with one more among them, and who names it, are one relation.
use Rattle.std.proofs.Common.{◌≡◌, ◌≢◌, ◌&&◌, ◌⊎◌, inl, inr, Bool, true, false, List, [], ◌∷◌, map, filter, refl, sym}
use Rattle.std.proofs.Common.{ap, ◌∙◌, subst, None, Some, Contains, if◌then◌else◌}
use Rattle.std.specs.List.{flat_map, list_any}
use Rattle.std.specs.Str.{bytes_eq}
use Rattle.std.proofs.lemmas.Map.Views.{any-filter_same}
use Rattle.std.proofs.lemmas.List.Elements.{Contains-append_cases, Contains-append_left, Contains-append_right}
use Rattle.std.proofs.lemmas.Bool.{and_from}
use Rattle.terms.specs.Types.{Text, Id, Sysmod}
use Rattle.terms.specs.Lookups.{is_in}
use Rattle.terms.specs.Global.{named, names_for, with_sysmod}
use Rattle.terms.proofs.ListMembers.{here, here_or, none_in}
use Rattle.terms.proofs.Ids.{is_in_from_Contains, Contains_from_is_in}
use Rattle.terms.proofs.TextOrder.{same_from, same_or_not}
use Rattle.terms.proofs.Loops.{names_own, names_others}
use Rattle.sysmods.specs.Seen.{IsTurned}
use Rattle.sysmods.specs.Held.{found, zone_of}
use Rattle.sysmods.specs.Namers.{namers_for, namers_with}
use Rattle.sysmods.proofs.NamersFor.{named_for, named_by, named_by_received}
use Rattle.std.proofs.lemmas.Bool.{and_parts}

passing : (test : Id → Bool) (ks : List Id) (k : Id) → is_in (filter test ks) k ≡ (test k && is_in ks k)
passing test ks k = any-filter_same (bytes_eq k) test (test k) (λ y same. ap test (sym (same_from k y same))) ks

module _ (xs : List Sysmod) (s : Sysmod) (srel : Text) (new : found xs s.id ≡ None) where
  abbrev Own : List Id
  Own = flat_map named (filter (λ v. bytes_eq v.srel srel) s.vers)

  abbrev Some_own : Id → Bool
  Some_own z = list_any (λ v. bytes_eq v.srel srel && is_in (named v) z) s.vers

  own_is : (z : Id) → is_in Own z ≡ Some_own z
  own_is z = named_for (λ v. bytes_eq v.srel srel) s.vers z

  none_some : {r : Sysmod} → None ≡ Some r → ⊥
  none_some e = cc

  to_namers : (y z : Id) → Contains (names_for (with_sysmod (zone_of xs) s) srel y) z
      → Contains (namers_with xs s srel z) y
  to_namers y z names = by (same_or_not y s.id)
    where
      by : (y ≡ s.id) ⊎ (y ≢ s.id) → Contains (namers_with xs s srel z) y
      by (inl same) =
          let own : Contains Own z = subst (λ ids. Contains ids z)
          (ap (names_for (with_sysmod (zone_of xs) s) srel) same ∙ names_own (zone_of xs) s srel) names in
          let is : Some_own z ≡ true = sym (own_is z) ∙ is_in_from_Contains Own z own in
          Contains-append_right (namers_for xs srel z) (if Some_own z then s.id ∷ [] else []) y
          (subst (λ b. Contains (if b then s.id ∷ [] else []) y) (sym is)
          (subst (Contains (s.id ∷ [])) (sym same) (here s.id [])))
      by (inr other) =
          let is = is_in_from_Contains (names_for (zone_of xs) srel y) z
          (subst (λ ids. Contains ids z) (names_others (zone_of xs) s srel y other) names) in
          Contains-append_left (namers_for xs srel z) (if Some_own z then s.id ∷ [] else []) y
          (Contains_from_is_in (namers_for xs srel z) y
          (passing (λ k. is_in (names_for (zone_of xs) srel k) z) (map (λ r. r.id) xs) y
          ∙ and_from (is_in (names_for (zone_of xs) srel y) z) (is_in (map (λ r. r.id) xs) y) is
          (named_by_received xs srel z y is)))

  from_namers : (y z : Id) → Contains (namers_with xs s srel z) y
      → Contains (names_for (with_sysmod (zone_of xs) s) srel y) z
  from_namers y z there = by (Contains-append_cases (namers_for xs srel z) (if Some_own z then s.id ∷ [] else []) y
      there)
    where
      own : (b : Bool) → Some_own z ≡ b → Contains (if b then s.id ∷ [] else []) y
          → Contains (names_for (with_sysmod (zone_of xs) s) srel y) z
      own true is at =
          let same : s.id ≡ y = elim (here_or s.id [] y at) [ inl e ↦ e | inr none ↦ absurd (none_in y none) ] in
          subst (λ ids. Contains ids z) (sym (names_own (zone_of xs) s srel)
          ∙ ap (names_for (with_sysmod (zone_of xs) s) srel) same)
          (Contains_from_is_in Own z (own_is z ∙ is))
      own false is at = absurd (none_in y at)

      by : Contains (namers_for xs srel z) y ⊎ Contains (if Some_own z then s.id ∷ [] else []) y
          → Contains (names_for (with_sysmod (zone_of xs) s) srel y) z
      by (inl among) =
          let names : is_in (names_for (zone_of xs) srel y) z ≡ true =
          (and_parts (is_in (names_for (zone_of xs) srel y) z) (is_in (map (λ r. r.id) xs) y)
          (sym (passing (λ k. is_in (names_for (zone_of xs) srel k) z) (map (λ r. r.id) xs) y)
          ∙ is_in_from_Contains (namers_for xs srel z) y among)).0 in
          let r = named_by xs srel z y names in
          subst (λ ids. Contains ids z)
          (sym (names_others (zone_of xs) s srel y (λ same. none_some (sym new ∙ ap (found xs) (sym same) ∙ r.1))))
          (Contains_from_is_in (names_for (zone_of xs) srel y) z names)
      by (inr at) = own (Some_own z) refl at

  pub turned : IsTurned (names_for (with_sysmod (zone_of xs) s) srel) (namers_with xs s srel)
  turned y z = (to_namers y z, from_namers y z)
