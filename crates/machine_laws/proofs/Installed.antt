-- The zone that an install leaves is determined.
use Rattle.std.proofs.Common.{◌≡◌, ◌∙◌, Bool, true, false, not, Option, Some, Contains, IsTrue, refl}
use Rattle.std.proofs.Common.{sym, ap, subst, is_some}
use Rattle.std.specs.Prelude.{◌↔◌, ◌||◌, ◌+◌, IsFalse}
use Rattle.terms.specs.declared.kinds.ElemType.{ElemType}
use Rattle.terms.specs.Types.{Text, Id, Global, Zone, Bypass, Selection}
use Rattle.terms.specs.Lookups.{is_nil, has_change, element_of, is_applied, is_supplied, applied_of, supby_of}
use Rattle.terms.specs.Lookups.{waived_of}
use Rattle.terms.specs.Over.{IsOver}
use Rattle.terms.specs.Choice.{place, counting}
use Rattle.terms.specs.Global.{IsGlobal}
use Rattle.terms.specs.Judged.{setting, IsKeptSet}
use Rattle.terms.specs.Install.{Installation, TakesEffect, HasInstalled}
use Rattle.terms.proofs.SameZones.{same_zone, same_entry}
use Rattle.machine.specs.Installing.{Decision, IsDecision}
use Rattle.change.proofs.ChosenVers.{counting_for, names_no_loop}
use Rattle.change.proofs.KeptTogether.{kept_ordered}
use Rattle.machine_laws.proofs.Deciders.{AreOrdered}
use Rattle.machine_laws.proofs.Stable.{by_either}
use Rattle.machine_laws.proofs.Decided.{members_only, decision_only}
use Rattle.machine_laws.proofs.StableSame.{stable_option, stable_texts, stable_applied, stable_element}
use Rattle.machine_laws.proofs.InstalledElements.{element_after_only}
use Rattle.machine_laws.proofs.SamePairs.{installed_with}
use Rattle.terms.proofs.Applied.{is_applied_dated}

module _ (i : Installation) (no_loop : (x : Id) → ¬ IsOver i.choice x x) (ordered : AreOrdered i)
    (a b : Zone) (to_a : HasInstalled i a) (to_b : HasInstalled i b) where
  applied_only : (x : Id) → applied_of a x ≡ applied_of b x
  applied_only x = by_either {A = TakesEffect i x} (stable_option stable_applied (applied_of a x) (applied_of b x))
      (λ effect. to_a.applied x effect ∙ sym (to_b.applied x effect))
      (λ none. to_a.not_applied x none ∙ sym (to_b.not_applied x none))

  supby_only : (x : Id) → supby_of a x ≡ supby_of b x
  supby_only x = members_only _ (supby_of a x) (supby_of b x) (to_a.supby_rising x) (to_b.supby_rising x) (to_a.supby x)
      (to_b.supby x)

  supplied_only : (x : Id) → is_supplied a x ≡ is_supplied b x
  supplied_only x =
      ap (λ t. t || not (is_nil (supby_of a x)))
      (is_applied_dated a x ∙ ap is_some (applied_only x) ∙ sym (is_applied_dated b x))
      ∙ ap (λ ids. is_applied b x || not (is_nil ids)) (supby_only x)

  waived_only : (x : Id) → waived_of a x ≡ waived_of b x
  waived_only x = by_either {A = TakesEffect i x} (stable_texts (waived_of a x) (waived_of b x))
      (λ effect. members_only (λ z. Contains i.bypassed (x, z) × IsFalse (is_supplied b z)) (waived_of a x)
      (waived_of b x) (to_a.waived_rising x) (to_b.waived_rising x)
      (λ z. subst (λ t. Contains (waived_of a x) z ↔ (Contains i.bypassed (x, z) × IsFalse t)) (supplied_only z)
      (to_a.waived x z effect))
      (λ z. to_b.waived x z effect))
      (λ none. to_a.not_waived x none ∙ sym (to_b.not_waived x none))

  -- some SYSMOD that takes effect changes the element, or none does
  element_only : (type : ElemType) (name : Text) → element_of a type name ≡ element_of b type name
  element_only type name = by_either {A = (x : Id) × TakesEffect i x × IsTrue (has_change i.global x type name)}
      (stable_option stable_element (element_of a type name) (element_of b type name))
      (λ some.
      let in_a = to_a.changed type name some.0 some.1 some.2 in
      let in_b = to_b.changed type name some.0 some.1 some.2 in
      in_a.1 ∙ ap (λ e. Some e) (element_after_only i no_loop ordered type name in_a.0 in_b.0 in_a.2 in_b.2)
      ∙ sym in_b.1)
      (λ none.
      let unchanged : (x : Id) → TakesEffect i x → IsFalse (has_change i.global x type name) =
      λ x effect. false_unless (has_change i.global x type name) (λ changes. none (x, effect, changes)) in
      to_a.unchanged type name unchanged ∙ sym (to_b.unchanged type name unchanged))
    where
      false_unless : (b : Bool) → ¬ IsTrue b → IsFalse b
      false_unless true not_so = absurd (not_so refl)
      false_unless false not_so = refl

  pub installed_only : a ≡ b
  installed_only =
      same_zone a b to_a.is_zone to_b.is_zone
      (ap (λ (z : Zone). z.kind) to_a.rest ∙ sym (ap (λ (z : Zone). z.kind) to_b.rest))
      (ap (λ (z : Zone). z.srel) to_a.rest ∙ sym (ap (λ (z : Zone). z.srel) to_b.rest))
      (ap (λ (z : Zone). z.related) to_a.rest ∙ sym (ap (λ (z : Zone). z.related) to_b.rest))
      (λ x. same_entry a b to_a.is_zone to_b.is_zone x (applied_only x) (supby_only x)
      (to_a.delby x ∙ sym (to_b.delby x)) (waived_only x))
      element_only

module _ (g : Global) (is_global : IsGlobal g) (zone : Zone) (related : Option Zone) (sel : Selection)
    (bypass : Bypass) (date : Text) where
  -- What one decision installs leaves one zone,
  one_zone : (d : Decision) → IsDecision g zone related sel bypass date d → (a b : Zone) → HasInstalled d.installing a
      → HasInstalled d.installing b → a ≡ b
  one_zone d decides =
      subst (λ i. (a b : Zone) → HasInstalled i a → HasInstalled i b → a ≡ b) (sym decides.installing)
      (installed_only (record {
        global = g;
        choice = counting g zone decides.cands;
        number = λ x. place g zone decides.cands x + 1;
        zone = zone;
        kept = d.kept;
        bypassed = decides.bypassed;
        date = date;
      }) (names_no_loop g zone.srel (counting g zone decides.cands) (counting_for g zone decides.cands)
      is_global.no_loop)
      (kept_ordered (setting g zone related decides.cands bypass) is_kept.survivors d.kept is_kept.members))
    where
      is_kept : IsKeptSet (setting g zone related decides.cands bypass) d.kept
      is_kept = subst (λ s. IsKeptSet s d.kept) decides.setting decides.kept

  -- and so do two.
  pub zone_only : (d e : Decision) → IsDecision g zone related sel bypass date d
      → IsDecision g zone related sel bypass date e → (a b : Zone) → HasInstalled d.installing a
      → HasInstalled e.installing b → a ≡ b
  zone_only d e of_d of_e a b to_a to_b =
      let same = decision_only g zone related sel bypass date d e of_d of_e in
      one_zone e of_e a b
      (subst (λ i. HasInstalled i a) (sym (ap (λ (e : Decision). e.installing) same.is))
      (installed_with d.installing e.installing.bypassed a same.bypassed to_a)) to_b
