-- The elements of a zone after an installation have their forms.
use Rattle.std.proofs.Common.{◌≡◌, inl, inr, ℕ, Bool, true, false, List, Option, Some, None, All, Contains, IsTrue}
use Rattle.std.proofs.Common.{refl, sym, ◌∙◌, ap, subst, get_or}
use Rattle.std.specs.Prelude.{IsFalse, ◌==◌, not}
use Rattle.std.proofs.lemmas.List.Elements.{All-contains, All-contains_itself}
use Rattle.std.proofs.lemmas.Option.{same_Some}
use Rattle.terms.proofs.ListMembers.{filter_in}
use Rattle.terms.proofs.Searches.{All_find, find_gives}
use Rattle.terms.specs.declared.kinds.Kind.{Kind}
use Rattle.terms.specs.declared.kinds.ElemType.{ElemType}
use Rattle.terms.specs.declared.kinds.ElemType.TheVariants.{Mac, Src, Clist, Data, Exec, Parm, Proc}
use Rattle.terms.specs.Types.{Text, Id, Lines, Action, Replaces, Updates, Change, Element, Zone}
use Rattle.terms.specs.Lookups.{element_key, change_of, has_change, element_of}
use Rattle.terms.specs.Lookups.{element_eq}
use Rattle.terms.specs.Texts.{number_of, is_control, line_at, given, IsNumbered}
use Rattle.terms.specs.Install.{Installation, TakesEffect, cleared, HasBase, IsUpdater, Decides, HasElementAfter}
use Rattle.terms.specs.Install.{IsUpdated as IsElementUpdated, HasInstalled}
use Rattle.terms.specs.Forms.{IsId, IsName}
use Rattle.terms.proofs.ElementOrder.{element_cmp_total, element_ties}
use Rattle.store_schema.specs.Forms.{AreSorted, AreRecords, IsTextOf, TakesUpdates, HasActionForms}
use Rattle.store_schema.specs.Forms.{HasElementForms}
use Rattle.machine_laws.proofs.Lists.{find_itself, line_at_itself}
use Rattle.machine_laws.proofs.Stable.{by_either, part_of, IsRecord, stable_record, stable_text, stable_element}
use Rattle.machine_laws.proofs.Deciders.{UpdatesAt, decider}
use Rattle.machine_laws.proofs.LessForms.{none_listed, element_forms}
use Rattle.machine_laws.proofs.OperandForms.{change_forms, owner_form}
use Rattle.machine_laws.proofs.GivenForms.{HasInstallForms, cleared_forms, effect_form}

-- the record of a text at a number
line_in : (text : Lines) (n : ℕ) (line : List ℕ) → line_at text n ≡ Some line → AreRecords text → IsRecord line
line_in text n line at records = All_find IsRecord (λ line. number_of line == n) text line records at

-- what an update gives
given_in : (update : Lines) (n : ℕ) (line : List ℕ) → line_at (given update) n ≡ Some line → AreRecords update
    → IsRecord line
given_in update n line at records =
    let is_given = find_gives (λ line. number_of line == n) (given update) line at in
    let in_update = filter_in (λ line. not (is_control line)) update line is_given.1 in
    All-contains IsRecord update line records in_update.0

-- a text of what there are updates for
updated_text : (type : ElemType) (text : Lines) → TakesUpdates type → AreRecords text → IsNumbered text
    → IsTextOf type text
updated_text Mac text is records numbered = (records, numbered)
updated_text Src text is records numbered = (records, numbered)
updated_text Clist text is records numbered = absurd is
updated_text Data text is records numbered = absurd is
updated_text Exec text is records numbered = absurd is
updated_text Parm text is records numbered = absurd is
updated_text Proc text is records numbered = absurd is

records_of : (type : ElemType) (text : Lines) → IsTextOf type text → AreRecords text
records_of Mac text is = is.0
records_of Src text is = is.0
records_of Clist text is = is
records_of Data text is = is
records_of Exec text is = is
records_of Parm text is = is
records_of Proc text is = is

module _ (i : Installation) (has : HasInstallForms i) where
  -- one element, by type and name
  module _ (type : ElemType) (name : Text) where
    -- what an id does to it
    action_forms : (x : Id) (h : Change) (a : Action) → change_of i.global x type name ≡ Some h → h.action ≡ a
        → IsName name × ((kind : Kind) × HasActionForms kind type name a)
    action_forms x h a at does =
        let is = change_forms i.global has.sysmods x type name h at in (
          subst IsName is.1 is.2.1.name,
          (
            is.2.0,
            subst (λ b. HasActionForms is.2.0 type name b) does
                (subst (λ n. HasActionForms is.2.0 type n h.action) is.1
                (subst (λ t. HasActionForms is.2.0 t h.name h.action) is.0 is.2.1.action)),
          ),
        )

    base_forms : (replacer : Option Id) (base : Element) → HasBase i type name replacer base → HasElementForms base
    base_forms None base (none, found) = element_forms (cleared i) (cleared_forms i has) type name base found
    base_forms (Some r) base (replaces, (h, distlib, syslib, lines, at, does, is)) =
        let id = effect_form i has r replaces.installed in
        let forms = action_forms r h (Replaces distlib syslib lines) at does in
        subst HasElementForms (sym is) (record {
          name = forms.0;
          fmid = owner_form i.choice has.vers i.global r id;
          rmid = id;
          umids = none_listed;
          distlib = forms.1.1.0;
          syslib = forms.1.1.1;
          text = forms.1.1.2;
        })

    module _ (replacer : Option Id) where
      -- an update of it
      update_forms : (y : Id) (update : Lines) → IsUpdater i type name replacer y update
          → TakesUpdates type × AreRecords update
      update_forms y update updater =
          let forms = action_forms y updater.updates.0 (Updates update) updater.updates.1 updater.updates.2 in
          (forms.1.1.1, forms.1.1.2)

      module _ (base e : Element) (is_base : HasElementForms base)
          (updated : IsElementUpdated i type name replacer base e) where
        umids_after : AreSorted IsId e.umids
        umids_after = record {
          each = λ k d below. one (get_or e.umids k d) (All-contains_itself e.umids k d below);
          rising = updated.rising;
        }
          where
            one : (y : Id) → Contains e.umids y → IsId y
            one y there = elim ((updated.umids y).0 there) [
              | inl old ↦ All-contains IsId base.umids y is_base.umids.each old
              | inr new ↦ effect_form i has y new.1.installed
            ]

        -- a record of the text is its base's, or of the update that decides at its number
        record_after : AreRecords base.text → IsNumbered e.text → (line : List ℕ) → Contains e.text line
            → IsRecord line
        record_after records numbered line there = by_either {A = (y : Id) × UpdatesAt i type name replacer n y}
            (stable_record line)
            (λ some. part_of (λ d. of_update d.0 d.1 d.2) (stable_record line)
            (decider i type name replacer has.ordered n some.0 some.1))
            (λ none. line_in base.text n line
            (sym (updated.others n (λ y update updater touches. none (y, (update, updater, touches)))) ∙ at) records)
          where
            n : ℕ
            n = number_of line

            at : line_at e.text n ≡ Some line
            at = line_at_itself e.text line numbered there

            of_update : (y : Id) (update : Lines) → Decides i type name replacer n y update → IsRecord line
            of_update y update decides = given_in update n line (sym (updated.decided n y update decides) ∙ at)
                (update_forms y update decides.updater).1

        text_after : type ≡ base.elem_type → IsTextOf base.elem_type e.text
        text_after same = by_either {A = (y : Id) × (update : Lines) × IsUpdater i type name replacer y update}
            (stable_text base.elem_type e.text)
            (λ some.
            let numbered = updated.numbered some.0 some.1 some.2 in
            subst (λ t. IsTextOf t e.text) same
            (updated_text type e.text (update_forms some.0 some.1 some.2).0
            (λ k d below. record_after records numbered (get_or e.text k d) (All-contains_itself e.text k d below))
            numbered))
            (λ none. subst (IsTextOf base.elem_type)
            (sym (updated.same (λ y update updater. none (y, update, updater)))) is_base.text)
          where
            records : AreRecords base.text
            records = records_of base.elem_type base.text is_base.text

  element_after : (e : Element) → HasElementAfter i e.elem_type e.name e → HasElementForms e
  element_after e (replacer, base, has_base, updated) =
      let forms = base_forms e.elem_type e.name replacer base has_base in
      subst HasElementForms (sym updated.rest) (record {
        name = forms.name;
        fmid = forms.fmid;
        rmid = forms.rmid;
        umids = umids_after e.elem_type e.name replacer base e forms updated;
        distlib = forms.distlib;
        syslib = forms.syslib;
        text = text_after e.elem_type e.name replacer base e forms updated
            (ap (λ (o : Element). o.elem_type) updated.rest);
      })

  module _ (new : Zone) (installs : HasInstalled i new) where
    in_zone : (e : Element) → Contains new.elements e → HasElementForms e
    in_zone e there = by_either {A = (x : Id) × TakesEffect i x × IsTrue (has_change i.global x e.elem_type e.name)}
        (stable_element e)
        (λ some.
        let after = installs.changed e.elem_type e.name some.0 some.1 some.2 in
        element_after e (subst (HasElementAfter i e.elem_type e.name) (same_Some after.0 e (sym after.1 ∙ found))
        after.2))
        (λ none. element_forms (cleared i) (cleared_forms i has) e.elem_type e.name e
        (sym (installs.unchanged e.elem_type e.name (λ x effect. false_unless
        (has_change i.global x e.elem_type e.name) (λ changes. none (x, effect, changes)))) ∙ found))
      where
        found : element_of new e.elem_type e.name ≡ Some e
        found = find_itself element_cmp_total element_key element_eq element_ties new.elements e
            installs.is_zone.elements there

        false_unless : (b : Bool) → ¬ IsTrue b → IsFalse b
        false_unless true not_so = absurd (not_so refl)
        false_unless false not_so = refl

    pub elements_after : All HasElementForms new.elements
    elements_after = λ k d below. in_zone (get_or new.elements k d) (All-contains_itself new.elements k d below)
