-- What the received SYSMODs name with one more among them.
use Rattle.std.proofs.Common.{◌≡◌, ◌≢◌, ◌||◌, true, false, List, [], ◌∷◌, filter, refl, sym, ap, ◌∙◌, subst, Option}
use Rattle.std.proofs.Common.{None, Some, Contains, true≢false, arith}
use Rattle.std.specs.List.{flat_map, list_any}
use Rattle.std.specs.Option.{option_map_or}
use Rattle.std.specs.Str.{bytes_eq}
use Rattle.std.proofs.lemmas.List.Folds.{list_any-append}
use Rattle.terms.specs.Types.{Text, Id, Ver, Sysmod}
use Rattle.terms.specs.Lookups.{is_in}
use Rattle.terms.specs.Global.{named, names_for, with_sysmod}
use Rattle.terms.proofs.Ids.{is_in_from_Contains}
use Rattle.terms.proofs.TextOrder.{same_from, same_itself}
use Rattle.terms.proofs.Loops.{names_own, names_others, all_vers}
use Rattle.sysmods.specs.Held.{found, zone_of}
use Rattle.sysmods.proofs.Namers.{any_found}

module _ (xs : List Sysmod) (s : Sysmod) (srel : Text) (x : Id) where
  pub named_own : bytes_eq x s.id ≡ true → flat_map named (filter (λ v. bytes_eq v.srel srel) s.vers) ≡ names_for
      (with_sysmod (zone_of xs) s) srel x
  named_own e = sym (ap (names_for (with_sysmod (zone_of xs) s) srel) (same_from x s.id e)
      ∙ names_own (zone_of xs) s srel)

  apart : bytes_eq x s.id ≡ false → x ≢ s.id
  apart e same = true≢false (sym (ap (λ y. bytes_eq y s.id) same ∙ same_itself s.id) ∙ e)

  pub named_other : bytes_eq x s.id ≡ false → (o : Option Sysmod) → o ≡ found xs x
      → flat_map named (option_map_or (λ r. filter (λ v. bytes_eq v.srel srel) r.vers) o []) ≡ names_for
      (with_sysmod (zone_of xs) s) srel x
  named_other e o there =
      ap (λ p. flat_map named (option_map_or (λ r. filter (λ v. bytes_eq v.srel srel) r.vers) p [])) there
      ∙ sym (names_others (zone_of xs) s srel x (apart e))

-- what all ++VERs of a list name
pub any_flat : (vs : List Ver) (z : Id) → is_in (flat_map named vs) z ≡ list_any (λ v. is_in (named v) z) vs
any_flat [] z = refl
any_flat (v ∷ vs) z = list_any-append (bytes_eq z) (named v) (flat_map named vs)
    ∙ ap (λ b. is_in (named v) z || b) (any_flat vs z)

pub own_unnamed : (vs : List Ver) (z : Id) → list_any (λ v. is_in (named v) z) vs ≡ false
    → ¬ Contains (flat_map named vs) z
own_unnamed vs z none here = true≢false (sym (is_in_from_Contains (flat_map named vs) z here) ∙ any_flat vs z ∙ none)

pub others_unnamed : (xs : List Sysmod) (z : Id) → list_any (λ r. list_any (λ v. is_in (named v) z) r.vers) xs ≡ false
    → (y : Id) → ¬ Contains (flat_map named (all_vers (zone_of xs) y)) z
others_unnamed xs z none y = by (found xs y) refl
  where
    by : (o : Option Sysmod) → found xs y ≡ o → Contains (flat_map named (option_map_or (λ r. r.vers) (found xs y) []))
        z → ⊥
    by None e here =
        let now : Contains [] z = subst (λ o. Contains (flat_map named (option_map_or (λ r. r.vers) o [])) z) e here in
        absurd (omega (arith, now.1))
    by (Some r) e here =
        let now : Contains (flat_map named r.vers) z = subst
        (λ o. Contains (flat_map named (option_map_or (λ q. q.vers) o [])) z) e here in
        let names = sym (any_flat r.vers z) ∙ is_in_from_Contains (flat_map named r.vers) z now in
        true≢false (sym (any_found (λ q. list_any (λ v. is_in (named v) z) q.vers) (λ q. bytes_eq q.id y) xs r e names)
        ∙ none)
