-- What SYSMODs make of an element, one after the other in the order of over, is there.
use Rattle.std.proofs.Common.{◌≡◌, ◌∙◌, List, [], ◌∷◌, ◌++◌, Option, None, Some, All, Contains}
use Rattle.std.proofs.Common.{IsTrue, is_some, refl, sym, ap, subst, true≢false, append_assoc}
use Rattle.std.specs.Prelude.{IfSome}
use Rattle.std.specs.Ordering.{nat_cmp}
use Rattle.std.specs.Cmp.Lexicographic.{slice_cmp}
use Rattle.std.proofs.lemmas.Cmp.{nat_list_cmp_total}
use Rattle.std.proofs.lemmas.List.{append-nil}
use Rattle.std.proofs.lemmas.List.Elements.{All-contains}
use Rattle.terms.proofs.ListMembers.{here, there}
use Rattle.terms.proofs.Pairs.{AllPairs_parts}
use Rattle.terms.specs.declared.kinds.Kind.{Kind}
use Rattle.terms.specs.declared.kinds.ElemType.{ElemType}
use Rattle.terms.specs.declared.kinds.ElemType.TheVariants.{Mac, Src}
use Rattle.terms.specs.Types.{Text, Id, Lines, Action, Replaces, Updates, Change, Global, Element}
use Rattle.terms.specs.Lookups.{IsRising, element_key, change_of, has_change}
use Rattle.terms.specs.Rising.{with_item}
use Rattle.terms.specs.Choice.{Choice}
use Rattle.terms.specs.Over.{IsOver, owner}
use Rattle.terms.specs.Texts.{HasForm, IsNumbered}
use Rattle.terms.proofs.Placing.{Rises_with_item}
use Rattle.store_schema.specs.Forms.{HasSysmodForms, TakesUpdates, HasActionForms}
use Rattle.change.specs.Folding.{replacement, IsMadeBy, IsStep, IsFolded}
use Rattle.change.proofs.FoldSteps.{fold_more}
use Rattle.change.proofs.Gathered.{in_with_item}
use Rattle.machine_laws.proofs.LessForms.{none_listed}
use Rattle.machine_laws.proofs.OperandForms.{change_forms}
use Rattle.machine_laws.proofs.InOver.{Ascend}
use Rattle.machine_laws.proofs.Merged.{merged}
use Rattle.machine_laws.proofs.TextForms.{text_form}

-- ---- texts of MAC and SRC, which alone are updated

numbered_of : (type : ElemType) (text : Lines) → TakesUpdates type → HasForm type text → IsNumbered text
numbered_of Mac text updated form = form
numbered_of Src text updated form = form
numbered_of _ text updated form = absurd updated

form_from : (type : ElemType) (text : Lines) → TakesUpdates type → IsNumbered text → HasForm type text
form_from Mac text updated numbered = numbered
form_from Src text updated numbered = numbered
form_from _ text updated numbered = absurd updated

module _ (g : Global) (sysmods : All HasSysmodForms g.sysmods) (c : Choice) (type : ElemType) (name : Text) where
  -- an element of this type and name, with UMIDs and a text that more updates can be made of
  pub record IsUpdatable (e : Element) : Type 0 where
    pub key : element_key e ≡ (type, name)
    pub umids : IsRising e.umids
    pub text : HasForm type e.text

  -- ---- one statement

  made_by : (x : Id) (kind : Kind) (a : Action) → HasActionForms kind type name a → (old : Option Element)
      → IfSome old IsUpdatable
      → (new : Option Element) × IsMadeBy (owner g c x) x type name a old new × IfSome new IsUpdatable
  made_by x kind (Replaces distlib syslib lines) forms old fit = (
    Some (replacement (owner g c x) x type name distlib syslib lines),
    refl,
    record { key = refl; umids = none_listed.rising; text = text_form type lines forms.2 },
  )
  made_by x kind (Updates update) forms None fit = (None, refl, tt)
  made_by x kind (Updates update) forms (Some old) fit =
      let merge = merged name old.text update (numbered_of type old.text forms.1 fit.text) forms.3 in
      let rising = Rises_with_item nat_list_cmp_total (λ y. y) old.umids x fit.umids in
      let new : Element = record old {
        umids = with_item (slice_cmp nat_cmp) (λ y. y) old.umids x;
        text = merge.0;
      } in (
        Some new,
        (
          new,
          refl,
          record { rest = refl; rising = rising; umids = in_with_item old.umids x; merged = merge.1 },
        ),
        record { key = fit.key; umids = rising; text = form_from type merge.0 forms.1 merge.1.numbered },
      )

  action_forms : (x : Id) (h : Change) → change_of g x type name ≡ Some h
      → (kind : Kind) × HasActionForms kind type name h.action
  action_forms x h at =
      let is = change_forms g sysmods x type name h at in (
        is.2.0,
        subst (λ n. HasActionForms is.2.0 type n h.action) is.1
            (subst (λ t. HasActionForms is.2.0 t h.name h.action) is.0 is.2.1.action),
      )

  -- ---- one SYSMOD, and all of them

  stepped : (x : Id) → IsTrue (has_change g x type name) → (old : Option Element) → IfSome old IsUpdatable
      → (new : Option Element) × IsStep g c type name x old new × IfSome new IsUpdatable
  stepped x has old fit = by (change_of g x type name) refl
    where
      by : (o : Option Change) → change_of g x type name ≡ o
          → (new : Option Element) × IsStep g c type name x old new × IfSome new IsUpdatable
      by None at = absurd (true≢false (sym has ∙ ap is_some at))
      by (Some h) at =
          let forms = action_forms x h at in
          let made = made_by x forms.0 h.action forms.1 old fit in
          (made.0, (h, at, made.1), made.2)

  module _ (no_loop : (x : Id) → ¬ IsOver c x x) (start : Option Element) where
    abbrev pub Folded : List Id → Type 0
    Folded xs = (new : Option Element) × IsFolded g c type name xs start new × IfSome new IsUpdatable

    pub folded_on : (done rest : List Id) → Ascend c (done ++ rest)
        → ((x : Id) → Contains rest x → IsTrue (has_change g x type name)) → Folded done → Folded (done ++ rest)
    folded_on done [] ascend change so_far = subst Folded (sym (append-nil done)) so_far
    folded_on done (x ∷ rest) ascend change so_far =
        let sides = AllPairs_parts (λ y z. IsOver c z y) done rest x ascend in
        let made = stepped x (change x (here x rest)) so_far.0 so_far.2 in
        let more = fold_more g c type name done x start so_far.0 made.0
        (λ y is. All-contains (IsOver c x) done y sides.0 is) (no_loop x) so_far.1 made.1 in
        let same : (done ++ x ∷ []) ++ rest ≡ done ++ x ∷ rest = append_assoc done (x ∷ []) rest in
        subst Folded same (folded_on (done ++ x ∷ []) rest (subst (Ascend c) (sym same) ascend)
        (λ y is. change y (there x rest y is)) (made.0, more, made.2))
