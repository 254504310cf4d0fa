-- What the fold makes of an element is the element after the installed SYSMODs that change it.
use Rattle.std.proofs.Common.{◌≡◌, ◌⊎◌, inl, inr, Bool, true, false, List, [], ◌∷◌, ◌++◌, Option, Some, None, refl, sym}
use Rattle.std.proofs.Common.{ap, ◌∙◌, subst, true≢false, IsTrue, AllPairs, All, Contains, ℕ, drop, take, append_assoc}
use Rattle.std.specs.Prelude.{◌↔◌, is_some, IsFalse, IfSome, Any}
use Rattle.std.specs.Option.{IsSome, option_map_or}
use Rattle.std.proofs.lemmas.List.{take-append-drop}
use Rattle.std.proofs.lemmas.List.Elements.{Contains-append_right, Contains-append_cases}
use Rattle.terms.proofs.ListMembers.{there, here_or, none_in, in_middle}
use Rattle.terms.proofs.Pairs.{AllPairs_parts}
use Rattle.terms.specs.declared.kinds.ElemType.{ElemType}
use Rattle.terms.specs.Types.{Text, Id, Lines, Global, Element}
use Rattle.terms.specs.Lookups.{IsRising, has_change, element_of}
use Rattle.terms.specs.Choice.{Choice}
use Rattle.terms.specs.Changes.{is_replacement, has_replacement}
use Rattle.terms.specs.Over.{IsOver, names}
use Rattle.terms.specs.Install.{Installation, TakesEffect, cleared, IsReplacer, IsUpdater, IsUpdated}
use Rattle.terms.specs.Install.{HasElementAfter}
use Rattle.terms.proofs.ChangedElements.{replaces_changes}
use Rattle.terms.proofs.Leads.{reaches_through}
use Rattle.change.specs.Folding.{UpdatesBy, AreUpdates, IsUpdatedBy, HasReplaced, HasUpdated, IsFolded, AreChangers}
use Rattle.std.proofs.lemmas.List.Elements.{All-contains}
use Rattle.change.proofs.FoldSteps.{none_updated}

-- ---- what is known of a SYSMOD that changes the element

pub update_replaces_not : (g : Global) (c : Choice) (x : Id) (type : ElemType) (name : Text) (update : Lines)
    → UpdatesBy g c type name x update → IsTrue (has_replacement g x type name) → ⊥
update_replaces_not g c x type name update u h =
    true≢false (sym h ∙ ap (λ o. option_map_or (λ k. is_replacement k.action) o false) u.1 ∙ ap is_replacement u.2)

-- ---- the end

module _ (i : Installation) (type : ElemType) (name : Text) where
  -- the updaters of the definition are these
  updated_is : (replacer : Option Id) (ys : List Id) (base e : Element) → AreUpdates i.global i.choice type name ys
      → ((y : Id) (u : Lines) → IsUpdater i type name replacer y u → Contains ys y)
      → ((y : Id) (u : Lines) → Contains ys y → UpdatesBy i.global i.choice type name y u
      → IsUpdater i type name replacer y u)
      → IsUpdatedBy i.global i.choice type name ys base e → IsUpdated i type name replacer base e
  updated_is replacer ys base e all back of up = record {
    rest = up.rest;
    rising = up.rising;
    umids = λ y. (
      λ h. elim ((up.umids y).0 h) [
        | inl based ↦ inl based
        | inr m ↦ let u = all y m in inr (u.0, of y u.0 m u.1)
      ],
      λ h. elim h [
        | inl based ↦ (up.umids y).1 (inl based)
        | inr u ↦ (up.umids y).1 (inr (back y u.0 u.1))
      ],
    );
    decided = λ n y update d. up.decided n y update (record {
      member = back y update d.updater;
      updates = d.updater.updates;
      touches = d.touches;
      over = λ z other m updates. d.over z other (of z other m updates);
    });
    others = λ n none. up.others n (λ y u m updates. none y u (of y u m updates));
    numbered = λ y u is. up.numbered y (back y u is);
    same = λ none. up.same (λ y m. let u = all y m in none y u.0 (of y u.0 m u.1));
  }

  module _ (xs : List Id) (order : AllPairs (λ x y. IsOver i.choice y x) xs)
      (itself : (x : Id) → ¬ IsOver i.choice x x)
      (members : (x : Id) → Contains xs x ↔ (TakesEffect i x × IsTrue (has_change i.global x type name))) where
    -- behind a replacement
    after_replacer : (e : Element) → HasReplaced i.global i.choice type name xs (Some e) → HasElementAfter i type name e
    after_replacer e f =
        let same : e ≡ f.e = cc f.new_is in (
          Some f.replacer,
          f.base,
          (replacer, f.replaces),
          subst (IsUpdated i type name (Some f.replacer) f.base) (sym same)
              (updated_is (Some f.replacer) f.back f.base f.e f.updates updater_back updater_of f.updated),
        )
      where
        r : Id
        r = f.replacer

        sides : All (λ y. IsOver i.choice f.replacer y) f.front × All (λ y. IsOver i.choice y f.replacer) f.back
        sides = AllPairs_parts (λ x y. IsOver i.choice y x) f.front f.back f.replacer
            (subst (AllPairs (λ x y. IsOver i.choice y x)) f.parts order)

        within : (y : Id) → Contains (f.front ++ f.replacer ∷ f.back) y → Contains xs y
        within y h = subst (λ l. Contains l y) (sym f.parts) h

        in_back : (y : Id) → Contains f.back y → Contains xs y
        in_back y m = within y (Contains-append_right f.front (f.replacer ∷ f.back) y (there f.replacer f.back y m))

        where_in : (y : Id) → Contains xs y → Contains f.front y ⊎ ((f.replacer ≡ y) ⊎ Contains f.back y)
        where_in y h =
            elim (Contains-append_cases f.front (f.replacer ∷ f.back) y (subst (λ l. Contains l y) f.parts h)) [
              | inl before ↦ inl before
              | inr rest ↦ inr (here_or f.replacer f.back y rest)
            ]

        replacer : IsReplacer i type name f.replacer
        replacer = record {
          installed = ((members f.replacer).0 (within f.replacer (in_middle f.front f.replacer f.back))).0;
          replaces = ap (λ o. option_map_or (λ k. is_replacement k.action) o false) f.replaces.4
              ∙ ap is_replacement f.replaces.5;
          over = λ y ins replaces other.
              elim (where_in y ((members y).1 (ins, replaces_changes i.global y type name replaces))) [
                | inl before ↦ All-contains (λ z. IsOver i.choice f.replacer z) f.front y sides.0 before
                | inr rest ↦ elim rest [
                  | inl same ↦ absurd (other (sym same))
                  | inr m ↦ let u = f.updates y m in
                      absurd (update_replaces_not i.global i.choice y type name u.0 u.1 replaces)
                ]
              ];
        }

        updater_back : (y : Id) (u : Lines) → IsUpdater i type name (Some f.replacer) y u → Contains f.back y
        updater_back y u is =
            elim (where_in y ((members y).1 (is.installed, ap is_some is.updates.1))) [
              | inl before ↦ absurd (itself f.replacer (reaches_through (names i.choice) f.replacer y f.replacer
                  (All-contains (λ z. IsOver i.choice f.replacer z) f.front y sides.0 before) is.over))
              | inr rest ↦ elim rest [
                | inl same ↦ absurd (itself f.replacer (subst (λ z. IsOver i.choice z f.replacer) (sym same) is.over))
                | inr m ↦ m
              ]
            ]

        updater_of : (y : Id) (u : Lines) → Contains f.back y → UpdatesBy i.global i.choice type name y u
            → IsUpdater i type name (Some f.replacer) y u
        updater_of y u m updates = record {
          installed = ((members y).0 (in_back y m)).0;
          updates = updates;
          over = All-contains (λ z. IsOver i.choice z f.replacer) f.back y sides.1 m;
        }

    -- updates of what the zone has
    after_zone : (base e : Element) → Some base ≡ element_of (cleared i) type name
        → HasUpdated i.global i.choice type name xs (Some base) (Some e) → HasElementAfter i type name e
    after_zone base e at f =
        let same : e ≡ f.updated.0 = cc f.updated.1 in (
          None,
          base,
          (none_replaces, sym at),
          subst (IsUpdated i type name None base) (sym same)
              (updated_is None xs base f.updated.0 f.updates updater_back updater_of f.updated.2),
        )
      where
        none_replaces : (y : Id) → TakesEffect i y → IsFalse (has_replacement i.global y type name)
        none_replaces y ins = by (has_replacement i.global y type name) refl
          where
            by : (b : Bool) → has_replacement i.global y type name ≡ b → has_replacement i.global y type name ≡ false
            by false is = is
            by true is =
                let u = f.updates y ((members y).1 (ins, replaces_changes i.global y type name is)) in
                absurd (update_replaces_not i.global i.choice y type name u.0 u.1 is)

        updater_back : (y : Id) (u : Lines) → IsUpdater i type name None y u → Contains xs y
        updater_back y u is = (members y).1 (is.installed, ap is_some is.updates.1)

        updater_of : (y : Id) (u : Lines) → Contains xs y → UpdatesBy i.global i.choice type name y u
            → IsUpdater i type name None y u
        updater_of y u m updates = record { installed = ((members y).0 m).0; updates = updates; over = tt }

    after_fold : (start : Option Element) (e : Element) → start ≡ element_of (cleared i) type name
        → IsFolded i.global i.choice type name xs start (Some e) → HasElementAfter i type name e
    after_fold start e at (inl f) = after_replacer e f
    after_fold None e at (inr f) = let none : Some e ≡ None = f.updated in absurd (cc none)
    after_fold (Some base) e at (inr f) = after_zone base e at f

-- what the fold makes of the zone's element, for any such installation
pub folded_after : (g : Global) (c : Choice) (type : ElemType) (name : Text) (xs : List Id) (start : Option Element)
    (e : Element) → AllPairs (λ x y. IsOver c y x) xs → ((x : Id) → ¬ IsOver c x x)
    → IsFolded g c type name xs start (Some e) → (i : Installation) → AreChangers i g c type name start xs
    → HasElementAfter i type name e
folded_after g c type name xs start e order itself folded i are =
    after_fold i type name xs (subst (λ d. AllPairs (λ x y. IsOver d y x) xs) (sym are.choice) order)
    (subst (λ d. (x : Id) → ¬ IsOver d x x) (sym are.choice) itself)
    (subst (λ h. (x : Id) → Contains xs x ↔ (TakesEffect i x × IsTrue (has_change h x type name))) (sym are.global)
    are.members)
    start e are.base_is
    (subst (λ h. IsFolded h i.choice type name xs start (Some e)) (sym are.global)
    (subst (λ d. IsFolded g d type name xs start (Some e)) (sym are.choice) folded))

-- ---- the start, and that there is an element at the end

pub folded_none : (g : Global) (c : Choice) (type : ElemType) (name : Text) (start : Option Element)
    → IfSome start (λ e. IsRising e.umids) → IsFolded g c type name [] start start
folded_none g c type name start rising = inr (by start rising)
  where
    by : (o : Option Element) → IfSome o (λ e. IsRising e.umids) → HasUpdated g c type name [] o o
    by None rising = record { updates = λ y m. absurd (none_in y m); updated = refl }
    by (Some base) rising = record {
      updates = λ y m. absurd (none_in y m);
      updated = (base, refl, none_updated g c type name base rising);
    }

pub folded_some : (g : Global) (c : Choice) (type : ElemType) (name : Text) (xs : List Id) (start new : Option Element)
    → IsFolded g c type name xs start new
    → IsSome start ⊎ Any (λ x. IsTrue (has_replacement g x type name)) xs → IsSome new
folded_some g c type name xs start new (inl f) some = ap is_some f.new_is
folded_some g c type name xs (Some base) new (inr f) some = ap is_some f.updated.1
folded_some g c type name xs None new (inr f) (inl some) = absurd (true≢false (sym some))
folded_some g c type name xs None new (inr f) (inr any) =
    let u = f.updates any.1 (any.0, any.2, any.3) in
    absurd (update_replaces_not g c any.1 type name u.0 u.1 any.4)

-- what is folded behind a front of them, from no element
pub folded_behind : (g : Global) (c : Choice) (type : ElemType) (name : Text) (xs : List Id) (p : ℕ)
    (start : Option Element) (e : Element) → IsFolded g c type name (drop p xs) None (Some e)
    → IsFolded g c type name xs start (Some e)
folded_behind g c type name xs p start e (inl f) = inl (record {
  front = take p xs ++ f.front;
  replacer = f.replacer;
  back = f.back;
  base = f.base;
  e = f.e;
  parts = sym (take-append-drop p xs) ∙ ap (λ l. take p xs ++ l) f.parts
      ∙ sym (append_assoc (take p xs) f.front (f.replacer ∷ f.back));
  replaces = f.replaces;
  updates = f.updates;
  updated = f.updated;
  new_is = f.new_is;
})
folded_behind g c type name xs p start e (inr f) = let none : Some e ≡ None = f.updated in absurd (cc none)
