-- The element after an install is there.
use Rattle.std.proofs.Common.{◌≡◌, ◌⊎◌, inl, inr, List, [], Option, None, Some, Any, Contains}
use Rattle.std.proofs.Common.{IsTrue, IsSome, refl, sym, ap, subst, true≢false}
use Rattle.std.specs.Prelude.{◌↔◌, IfSome}
use Rattle.terms.proofs.ListMembers.{there}
use Rattle.terms.specs.declared.kinds.ElemType.{ElemType}
use Rattle.terms.specs.Types.{Text, Id, Element}
use Rattle.terms.specs.Lookups.{IsRising, element_key, has_change, element_of}
use Rattle.terms.specs.Changes.{has_replacement}
use Rattle.terms.specs.Over.{IsOver}
use Rattle.terms.specs.Deleted.{deletions}
use Rattle.terms.specs.Install.{Installation, TakesEffect, cleared, HasElementAfter}
use Rattle.store_schema.specs.Forms.{HasZoneForms, IsTextOf}
use Rattle.change.specs.Folding.{IsFolded}
use Rattle.change.proofs.ChosenVers.{names_no_loop}
use Rattle.change.proofs.FoldEnd.{folded_after, folded_none, folded_some}
use Rattle.terms.proofs.ChangedElements.{replaces_changes}
use Rattle.change.proofs.Reverted.{key_found}
use Rattle.machine_laws.proofs.LessForms.{zone_less_forms, element_forms}
use Rattle.machine_laws.proofs.Effective.{IsSoundInstall}
use Rattle.machine_laws.proofs.InOver.{AreInOver, in_over}
use Rattle.machine_laws.proofs.FoldAnswered.{IsUpdatable, Folded, folded_on}
use Rattle.machine_laws.proofs.TextForms.{text_form}

module _ (i : Installation) (sound : IsSoundInstall i) (type : ElemType) (name : Text) where
  abbrev Updatable : Element → Type 0
  Updatable = IsUpdatable i.global sound.sysmods i.choice type name

  start : Option Element
  start = element_of (cleared i) type name

  start_fits : IfSome start Updatable
  unfolding start
  start_fits = by (element_of (cleared i) type name) refl (key_found (cleared i) type name)
    where
      forms : HasZoneForms (cleared i)
      forms = zone_less_forms i.global i.choice (deletions i.choice i.kept) i.zone sound.forms

      by : (o : Option Element) → element_of (cleared i) type name ≡ o
          → IfSome o (λ e. element_key e ≡ (type, name)) → IfSome o Updatable
      by None at key = tt
      by (Some e) at key =
          let has = element_forms (cleared i) forms type name e at in
          record {
            key = key;
            umids = has.umids.rising;
            text = text_form type e.text (subst (λ t. IsTextOf t e.text) (ap (λ k. k.0) key) has.text);
          }

  rising_start : (o : Option Element) → IfSome o Updatable → IfSome o (λ e. IsRising e.umids)
  rising_start None fit = tt
  rising_start (Some e) fit = fit.umids

  -- These SYSMODs take effect and change the element, and x is one of them.
  pub element_answered : (xs : List Id)
      → ((y : Id) → Contains xs y ↔ (TakesEffect i y × IsTrue (has_change i.global y type name))) → (x : Id)
      → Contains xs x → (e : Element) × HasElementAfter i type name e × (element_key e ≡ (type, name))
  unfolding start
  element_answered xs members x is = by folded.0 folded.1 folded.2
      (folded_some i.global i.choice type name ys start folded.0 folded.1 based)
    where
      no_loop : (y : Id) → ¬ IsOver i.choice y y
      no_loop = names_no_loop i.global i.zone.srel i.choice sound.vers sound.global.no_loop

      ordered : (ys : List Id) × AreInOver i.choice xs ys
      ordered = in_over i.choice xs (λ y z in_y in_z other.
          let of_y = (members y).0 in_y in
          let of_z = (members z).0 in_z in
          sound.order y z of_y.0.kept of_z.0.kept other (type, name, of_y.1, of_z.1))

      ys : List Id
      ys = ordered.0

      in_ys : (y : Id) → Contains ys y ↔ (TakesEffect i y × IsTrue (has_change i.global y type name))
      in_ys y = (
        λ there. (members y).0 ((ordered.1.members y).0 there),
        λ both. (ordered.1.members y).1 ((members y).1 both),
      )

      folded : Folded i.global sound.sysmods i.choice type name no_loop start ys
      folded = folded_on i.global sound.sysmods i.choice type name no_loop start [] ordered.0 ordered.1.ascend
          (λ y there. ((in_ys y).0 there).1)
          (start, folded_none i.global i.choice type name start (rising_start start start_fits), start_fits)

      based : IsSome start ⊎ Any (λ y. IsTrue (has_replacement i.global y type name)) ys
      based = elim (sound.bases x type name ((members x).0 is).0 ((members x).0 is).1) [
        | inl there ↦ inl there
        | inr from ↦
            let at = (in_ys from.0).1 (from.1, replaces_changes i.global from.0 type name from.2) in
            inr (at.0, from.0, at.1, at.2, from.2)
      ]

      by : (o : Option Element) → IsFolded i.global i.choice type name ys start o → IfSome o Updatable → IsSome o
          → (e : Element) × HasElementAfter i type name e × (element_key e ≡ (type, name))
      by None made fit some = absurd (true≢false (sym some))
      by (Some e) made fit some = (
        e,
        folded_after i.global i.choice type name ys start e ordered.1.ascend no_loop made i
            (record { global = refl; choice = refl; base_is = refl; members = in_ys }),
        fit.key,
      )
