-- APPLY and ACCEPT keep the ownership of elements: who owns, replaces and updates one is applied, and has one owner.
use Rattle.std.proofs.Common.{◌≡◌, ◌⊎◌, ◌∙◌, Bool, true, false, not, List, [], ◌∷◌, Option, Some, None, All, Contains}
use Rattle.std.proofs.Common.{IsTrue, get_or, inl, inr, refl, sym, ap, subst, true≢false}
use Rattle.std.specs.Prelude.{unwrap_or, if◌then◌else◌, ◌&&◌, ◌==◌}
use Rattle.std.specs.Option.{option_map_or}
use Rattle.std.specs.Str.{bytes_eq}
use Rattle.std.proofs.lemmas.Bool.{cases_Bool, false_from_ne_true, or_from, and_parts, eqb-true}
use Rattle.std.proofs.lemmas.List.Elements.{All-contains, All-contains_itself, All-cons, All-nil, All-head, All-tail}
use Rattle.std.proofs.lemmas.Option.{same_Some}
use Rattle.terms.proofs.ListMembers.{here, there, here_or, none_in, flat_in}
use Rattle.terms.proofs.Searches.{All_find}
use Rattle.terms.proofs.TextOrder.{same_or_not, same_from}
use Rattle.terms.specs.declared.kinds.ElemType.{ElemType}
use Rattle.terms.specs.declared.codes.Test.TheVariants.{OwnedByAnother}
use Rattle.terms.specs.Types.{Text, Id, Lines, Global, Element, Zone, Selection, Bypass}
use Rattle.terms.specs.Types.{type_number}
use Rattle.terms.specs.Lookups.{is_in, is_received, is_function, is_applied, has_change, element_of}
use Rattle.terms.specs.Lookups.{element_key, element_eq}
use Rattle.terms.specs.Choice.{Choice, counting, fmid_of, del_of}
use Rattle.terms.specs.Changes.{is_replacement, has_replacement, has_update}
use Rattle.terms.specs.Over.{owner}
use Rattle.terms.specs.Texts.{HasForm}
use Rattle.terms.specs.Deleted.{deletions, is_deleted}
use Rattle.terms.specs.Tests.{Setting}
use Rattle.terms.specs.Install.{Installation, TakesEffect, cleared, HasInstalled, HasBase, IsUpdater, IsUpdated}
use Rattle.terms.specs.Install.{HasElementAfter, replaced}
use Rattle.terms.specs.Closed.{IsOwned, IsClosedZone}
use Rattle.terms.proofs.ElementOrder.{element_cmp_total, element_ties, type_from_number}
use Rattle.terms.proofs.Ids.{Contains_from_is_in}
use Rattle.machine.specs.Installing.{Decision}
use Rattle.change.proofs.ChosenVers.{fmid_function, deleted_function}
use Rattle.change.proofs.KeptTogether.{kept_owner}
use Rattle.change.proofs.LessLookups.{element_was}
use Rattle.machine_laws.proofs.Lists.{find_itself}
use Rattle.machine_laws.proofs.Installs.{IsInstall}
use Rattle.machine_laws.proofs.Supplied.{left_applied, left_element}
use Rattle.machine_laws.proofs.Given.{Keeps, installing, eligible, keeps, installed}
use Rattle.machine_laws.proofs.AlikeSysmods.{applied_received}
use Rattle.machine_laws.proofs.Chains.{view_element, deleted_either}
use Rattle.machine_laws.proofs.Effect.{kept_received, effect_or_not, applied_either, effect_applied}
use Rattle.machine_laws.proofs.Undeleted.{undeleted_applied, fmid_applied}
use Rattle.terms.proofs.Each.{All_from_each}
use Rattle.terms.proofs.ChangedElements.{replaces_changes, update_changes}
use Rattle.terms.proofs.Applied.{in_applied_ids}

-- one that passes, or none
search : {X : Type 0} (P : X → Type 0) → ((x : X) → P x ⊎ (¬ P x)) → (xs : List X)
    → ((x : X) × Contains xs x × P x) ⊎ ((x : X) → Contains xs x → ¬ P x)
search P decide [] = inr (λ x is. absurd (none_in x is))
search {X} P decide (y ∷ ys) = by (decide y) (search P decide ys)
  where
    by : P y ⊎ (¬ P y) → ((x : X) × Contains ys x × P x) ⊎ ((x : X) → Contains ys x → ¬ P x)
        → ((x : X) × Contains (y ∷ ys) x × P x) ⊎ ((x : X) → Contains (y ∷ ys) x → ¬ P x)
    by (inl has) rest = inl (y, here y ys, has)
    by (inr out) (inl some) = inl (some.0, there y ys some.0 some.1, some.2)
    by (inr out) (inr none) = inr (λ x is has. elim (here_or y ys x is) [
      | inl same ↦ out (subst P (sym same) has)
      | inr later ↦ none x later has
    ])

-- an updater has an update
updater_updates : (i : Installation) (type : ElemType) (name : Text) (replacer : Option Id) (y : Id) (update : Lines)
    → IsUpdater i type name replacer y update → IsTrue (has_update i.global y type name)
updater_updates i type name replacer y update updater =
    ap (λ o. option_map_or (λ h. not (is_replacement h.action)) o false) updater.updates.1
    ∙ ap (λ a. not (is_replacement a)) updater.updates.2

-- owned, whatever the text of its form
abbrev IsOwnedWith : Global → Choice → Zone → Element → Type 0
IsOwnedWith g c zone e = (text : Lines) → HasForm e.elem_type text → IsOwned g c zone (record e { text = text })

module _ (s : Setting) (survivors kept : List Id) (k : Keeps s survivors kept) where
  -- what was applied is received
  was_received : (x : Id) → is_applied s.zone x ≡ true → is_received s.global x ≡ true
  was_received x on = applied_received s.global s.zone s.cands (subst (λ c. IsClosedZone s.global c s.zone) k.chosen
      k.closed) x (in_applied_ids s.zone x on)

  -- It is taken out with its owner alone, since DELETE names functions.
  undeleted_with_owner : (x : Id) → is_applied s.zone x ≡ true
      → is_deleted s.global s.choice (deletions s.choice kept) (owner s.global s.choice x) ≡ false
      → is_deleted s.global s.choice (deletions s.choice kept) x ≡ false
  undeleted_with_owner x was = by (is_function s.global x) refl
    where
      unnamed : is_function s.global x ≡ false → is_in (deletions s.choice kept) x ≡ false
      unnamed is = false_from_ne_true (is_in (deletions s.choice kept) x) (λ names.
          let from = flat_in (del_of s.choice) kept x (Contains_from_is_in (deletions s.choice kept) x names) in
          true≢false (sym (deleted_function s.global s.zone.srel s.choice k.vers k.global.roles from.0 x from.2
          (was_received x was)) ∙ is))

      through : is_function s.global x ≡ false → (o : Option Id) → fmid_of s.choice x ≡ o
          → is_deleted s.global s.choice (deletions s.choice kept) (unwrap_or o x) ≡ false
          → is_deleted s.global s.choice (deletions s.choice kept) x ≡ false
      through is None at stays = stays
      through is (Some f) at stays =
          deleted_either s survivors kept k (deletions s.choice kept) x f at
          ∙ or_from (is_in (deletions s.choice kept) x) (is_deleted s.global s.choice (deletions s.choice kept) f)
          (unnamed is) stays

      by : (b : Bool) → is_function s.global x ≡ b
          → is_deleted s.global s.choice (deletions s.choice kept) (if b then x else unwrap_or (fmid_of s.choice x) x)
          ≡ false
          → is_deleted s.global s.choice (deletions s.choice kept) x ≡ false
      by true is stays = stays
      by false is stays = through is (fmid_of s.choice x) refl stays

module _ (s : Setting) (survivors kept : List Id) (k : Keeps s survivors kept) (bypassed : List (Id × Id)) (date : Text)
    (new : Zone) (installed : HasInstalled (installing s kept bypassed date) new) where
  abbrev i : Installation
  i = installing s kept bypassed date

  abbrev owner_is : Id → Id
  owner_is x = owner s.global s.choice x

  -- what is applied is received
  new_received : (x : Id) → is_applied new x ≡ true → is_received s.global x ≡ true
  new_received x on = elim (applied_either s survivors kept k bypassed date new installed x on) [
    | inl effect ↦ kept_received s survivors kept k x effect.kept
    | inr left ↦ was_received s survivors kept k x
        (left_applied s.global s.choice s.zone k.is_zone (deletions s.choice kept) x left).0
  ]

  -- its owner is applied, and owns itself
  owner_applied : (x : Id) → is_applied new x ≡ true → is_applied new (owner_is x) ≡ true
  owner_applied x on = by (is_function s.global x)
    where
      through : (o : Option Id) → fmid_of s.choice x ≡ o → is_applied new (unwrap_or o x) ≡ true
      through None at = on
      through (Some f) at = fmid_applied s survivors kept k bypassed date new installed x f on at

      by : (b : Bool) → is_applied new (if b then x else unwrap_or (fmid_of s.choice x) x) ≡ true
      by true = on
      by false = through (fmid_of s.choice x) refl

  owner_itself : (x : Id) → is_applied new x ≡ true → owner_is (owner_is x) ≡ owner_is x
  owner_itself x on = by (is_function s.global x) refl
    where
      function : (f : Id) → is_function s.global f ≡ true → owner_is f ≡ f
      function f is = ap (λ b. if b then f else unwrap_or (fmid_of s.choice f) f) is

      none : is_function s.global x ≡ false → fmid_of s.choice x ≡ None → owner_is x ≡ x
      none is at = ap (λ b. if b then x else unwrap_or (fmid_of s.choice x) x) is ∙ ap (λ o. unwrap_or o x) at

      through : is_function s.global x ≡ false → (o : Option Id) → fmid_of s.choice x ≡ o
          → owner_is (unwrap_or o x) ≡ unwrap_or o x
      through is None at = none is at
      through is (Some f) at = function f (fmid_function s.global s.zone.srel s.choice k.vers k.global.roles x f at
          (new_received f (fmid_applied s survivors kept k bypassed date new installed x f on at)))

      by : (b : Bool) → is_function s.global x ≡ b
          → owner_is (if b then x else unwrap_or (fmid_of s.choice x) x)
          ≡ (if b then x else unwrap_or (fmid_of s.choice x) x)
      by true is = function x is
      by false is = through is (fmid_of s.choice x) refl

  -- ---- an element that is as it was

  -- What was applied stays where its owner is not deleted.
  stays_with_owner : (x : Id) → is_applied s.zone x ≡ true
      → is_deleted s.global s.choice (deletions s.choice kept) (owner_is x) ≡ false → is_applied new x ≡ true
  stays_with_owner x was stays = undeleted_applied s survivors kept k bypassed date new installed x was
      (undeleted_with_owner s survivors kept k x was stays)

  left_owned : (type : ElemType) (name : Text) (e : Element) → element_of (cleared i) type name ≡ Some e
      → IsOwned s.global s.choice new e
  left_owned type name e found =
      let left = left_element s.global s.choice s.zone k.is_zone (deletions s.choice kept) type name e found in
      let was : IsOwned s.global s.choice s.zone e =
      All_find (IsOwned s.global s.choice s.zone)
      (λ e. (type_number e.elem_type == type_number type) && bytes_eq e.name name) s.zone.elements e k.closed.elements
      left.0 in
      record {
        applied = All_from_each (λ x. is_applied new x ≡ true) (e.fmid ∷ e.rmid ∷ e.umids) (λ x is. stays_with_owner x
            (All-contains (λ x. is_applied s.zone x ≡ true) (e.fmid ∷ e.rmid ∷ e.umids) x was.applied is)
            (ap (is_deleted s.global s.choice (deletions s.choice kept))
            (All-contains (λ x. owner_is x ≡ e.fmid) (e.fmid ∷ e.rmid ∷ e.umids) x was.owner is) ∙ left.1));
        rmid = was.rmid;
        umids = was.umids;
        owner = was.owner;
        text = was.text;
      }

  -- ---- an element that changes

  module _ (type : ElemType) (name : Text) where
    abbrev Updater : Option Id → Id → Type 0
    Updater replacer y = (update : Lines) × IsUpdater i type name replacer y update

    -- InClash: what takes effect and changes it has one owner
    one_owner : (x y : Id) → TakesEffect i x → TakesEffect i y → has_change s.global x type name ≡ true
        → has_change s.global y type name ≡ true → owner_is x ≡ owner_is y
    one_owner x y of_x of_y changes too = kept_owner s survivors kept k.members x y of_x.kept of_y.kept
        (type, name, changes, too)

    -- OwnedByAnother: so has what changes an element that stays, and this element
    base_owner : (y : Id) (base : Element) → TakesEffect i y → has_change s.global y type name ≡ true
        → element_of (cleared i) type name ≡ Some base → owner_is y ≡ base.fmid
    base_owner y base effect changes found = elim (same_or_not base.fmid (owner_is y)) [
      | inl same ↦ sym same
      | inr other ↦ absurd ((eligible s survivors kept k y effect.kept).0.0.1 OwnedByAnother (
        base,
        (type, name, changes, view_element s survivors kept k y type name base effect.kept found),
        other,
      ))
    ]

    replaced_owned : (r : Id) (distlib syslib : Text) (lines : Lines) → TakesEffect i r
        → has_replacement s.global r type name ≡ true
        → IsOwnedWith s.global s.choice new (replaced i r type name distlib syslib lines)
    replaced_owned r distlib syslib lines effect replaces text form =
        let on = effect_applied s survivors kept k bypassed date new installed r effect in
        record {
          applied = All-cons (λ x. is_applied new x ≡ true) (owner_is r) (r ∷ []) (owner_applied r on)
              (All-cons (λ x. is_applied new x ≡ true) r [] on (All-nil (λ x. is_applied new x ≡ true)));
          rmid = replaces;
          umids = All-nil (λ x. IsTrue (has_update s.global x type name));
          owner = All-cons (λ x. owner_is x ≡ owner_is r) (owner_is r) (r ∷ []) (owner_itself r on)
              (All-cons (λ x. owner_is x ≡ owner_is r) r [] refl (All-nil (λ x. owner_is x ≡ owner_is r)));
          text = form;
        }

    updated_owned : (replacer : Option Id) (base e : Element) → type ≡ base.elem_type → name ≡ base.name
        → IsOwnedWith s.global s.choice new base → ((y : Id) → Updater replacer y → owner_is y ≡ base.fmid)
        → IsUpdated i type name replacer base e → HasForm e.elem_type e.text → IsOwned s.global s.choice new e
    updated_owned replacer base e same_type same_name owned owners updated form =
        subst (IsOwned s.global s.choice new) (sym updated.rest) (record {
          applied = three (λ x. is_applied new x ≡ true) is.applied (λ y update.
              effect_applied s survivors kept k bypassed date new installed y update.1.installed);
          rmid = is.rmid;
          umids = All_from_each (λ x. IsTrue (has_update s.global x base.elem_type base.name)) e.umids (λ y within.
              elim ((updated.umids y).0 within) [
                | inl old ↦ All-contains (λ x. IsTrue (has_update s.global x base.elem_type base.name)) base.umids y
                    is.umids old
                | inr new ↦ subst (λ n. IsTrue (has_update s.global y base.elem_type n)) same_name
                    (subst (λ t. IsTrue (has_update s.global y t name)) same_type
                    (updater_updates i type name replacer y new.0 new.1))
              ]);
          owner = three (λ x. owner_is x ≡ base.fmid) is.owner owners;
          text = based;
        })
      where
        based : HasForm base.elem_type e.text
        based = subst (λ t. HasForm t e.text) (ap (λ (o : Element). o.elem_type) updated.rest) form

        is : IsOwned s.global s.choice new (record base { text = e.text })
        is = owned e.text based

        three : (P : Id → Type 0) → All P (base.fmid ∷ base.rmid ∷ base.umids) → ((y : Id) → Updater replacer y → P y)
            → All P (base.fmid ∷ base.rmid ∷ e.umids)
        three P all each =
            All-cons P base.fmid (base.rmid ∷ e.umids) (All-head P base.fmid (base.rmid ∷ base.umids) all)
            (All-cons P base.rmid e.umids
            (All-head P base.rmid base.umids (All-tail P base.fmid (base.rmid ∷ base.umids) all))
            (All_from_each P e.umids (λ y within. elim ((updated.umids y).0 within) [
              | inl old ↦ All-contains P (base.fmid ∷ base.rmid ∷ base.umids) y all
                  (there base.fmid (base.rmid ∷ base.umids) y (there base.rmid base.umids y old))
              | inr new ↦ each y new
            ])))

    changed_owned : (e : Element) (replacer : Option Id) (base : Element) → HasBase i type name replacer base
        → IsUpdated i type name replacer base e → HasForm e.elem_type e.text → IsOwned s.global s.choice new e
    changed_owned e None base has updated form =
        let key = same_key base has.1 in
        let left = left_owned type name base has.1 in
        updated_owned None base e key.0 key.1
        (λ text form. record {
          applied = left.applied;
          rmid = left.rmid;
          umids = left.umids;
          owner = left.owner;
          text = form;
        })
        (λ y update. base_owner y base update.1.installed
        (update_changes s.global y type name (updater_updates i type name None y update.0 update.1)) has.1)
        updated form
      where
        same_key : (base : Element) → element_of (cleared i) type name ≡ Some base
            → (type ≡ base.elem_type) × (name ≡ base.name)
        same_key base found =
            let both = and_parts (type_number base.elem_type == type_number type) (bytes_eq base.name name)
            (element_was s.global s.choice (deletions s.choice kept) s.zone type name base found).1 in (
              sym (type_from_number base.elem_type type (eqb-true _ _ both.0)),
              sym (same_from base.name name both.1),
            )
    changed_owned e (Some r) base (replaces, (h, distlib, syslib, lines, at, does, is)) updated form =
        updated_owned (Some r) base e (sym (ap (λ (o : Element). o.elem_type) is))
        (sym (ap (λ (o : Element). o.name) is))
        (subst (IsOwnedWith s.global s.choice new) (sym is)
        (replaced_owned r distlib syslib lines replaces.installed replaces.replaces))
        (λ y update. one_owner y r update.1.installed replaces.installed
        (update_changes s.global y type name (updater_updates i type name (Some r) y update.0 update.1))
        (replaces_changes s.global r type name replaces.replaces)
        ∙ sym (ap (λ (o : Element). o.fmid) is))
        updated form

    -- Something that takes effect changes it, or nothing does.
    abbrev Changes : Id → Type 0
    Changes x = TakesEffect i x × (has_change s.global x type name ≡ true)

    changes_or_not : (x : Id) → Changes x ⊎ (¬ Changes x)
    changes_or_not x = elim (effect_or_not s survivors kept k bypassed date x) [
      | inl effect ↦ elim (cases_Bool (has_change s.global x type name)) [
        | inl changes ↦ inl (effect, changes)
        | inr none ↦ inr (λ both. true≢false (sym both.1 ∙ none))
      ]
      | inr out ↦ inr (λ both. out both.0)
    ]

  pub owned_after : (e : Element) → Contains new.elements e → HasForm e.elem_type e.text
      → IsOwned s.global s.choice new e
  owned_after e there form = elim (search (Changes e.elem_type e.name) (changes_or_not e.elem_type e.name) kept) [
    | inl some ↦
        let after = installed.changed e.elem_type e.name some.0 some.2.0 some.2.1 in
        let is : HasElementAfter i e.elem_type e.name e = subst (HasElementAfter i e.elem_type e.name)
        (same_Some after.0 e (sym after.1 ∙ found)) after.2 in
        changed_owned e.elem_type e.name e is.0 is.1 is.2 is.3 form
    | inr none ↦ left_owned e.elem_type e.name e
        (sym (installed.unchanged e.elem_type e.name (λ x effect. false_from_ne_true
        (has_change s.global x e.elem_type e.name) (λ changes. none x effect.kept (effect, changes)))) ∙ found)
  ]
    where
      found : element_of new e.elem_type e.name ≡ Some e
      found = find_itself element_cmp_total element_key element_eq element_ties new.elements e
          installed.is_zone.elements there

module _ (g : Global) (zone : Zone) (related : Option Zone) (sel : Selection) (bypass : Bypass) (date : Text)
    (d : Decision) (new : Zone) (is : IsInstall g zone related sel bypass date d new) where
  pub install_keeps_owned : All (λ e. HasForm e.elem_type e.text) new.elements
      → All (IsOwned g (counting g zone is.decides.cands) new) new.elements
  install_keeps_owned forms = λ j e below.
      owned_after _ _ d.kept (keeps g zone related sel bypass date d new is) is.decides.bypassed date new
      (installed g zone related sel bypass date d new is) (get_or new.elements j e)
      (All-contains_itself new.elements j e below) (forms j e below)
