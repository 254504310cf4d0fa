-- One SYSMOD more is folded in, and what all of them make of an element is what the definitions ask for.
use Rattle.std.proofs.Common.{◌≡◌, ◌≢◌, ◌⊎◌, inl, inr, List, [], ◌∷◌, ◌++◌, Option, Some, None, refl, sym}
use Rattle.std.proofs.Common.{ap, ◌∙◌, subst, subst₂, arith, append_assoc, Contains}
use Rattle.std.specs.Prelude.{ℕ}
use Rattle.std.proofs.lemmas.List.Elements.{Contains-append_left, Contains-append_right}
use Rattle.terms.proofs.ListMembers.{there, none_in, in_middle}
use Rattle.terms.specs.declared.kinds.ElemType.{ElemType}
use Rattle.terms.specs.Types.{Text, Id, Lines, Action, Replaces, Updates, Change, Global, Element}
use Rattle.terms.specs.Lookups.{IsRising, change_of}
use Rattle.terms.specs.Choice.{Choice}
use Rattle.terms.specs.Over.{IsOver, names, owner}
use Rattle.terms.specs.Texts.{line_at, given, Touches}
use Rattle.terms.proofs.Leads.{reaches_through}
use Rattle.change.specs.Folding.{replacement, IsUpdateOf, IsMadeBy, IsStep, UpdatesBy, AreUpdates, DecidesAmong}
use Rattle.change.specs.Folding.{IsUpdatedBy, HasReplaced, HasUpdated, IsFolded}
use Rattle.change.proofs.Gathered.{in_push}

none_rise : IsRising []
none_rise = λ i j d less below. absurd (omega (arith, below))

module _ (g : Global) (c : Choice) (type : ElemType) (name : Text) where
  abbrev Update : Id → Lines → Type 0
  Update = UpdatesBy g c type name

  -- a SYSMOD has one update of the element
  same_update : (x y : Id) (update other : Lines) → x ≡ y → Update x update → Update y other → other ≡ update
  same_update x y update other same a b =
      let both : Some b.0 ≡ Some a.0 = sym b.1 ∙ ap (λ z. change_of g z type name) (sym same) ∙ a.1 in
      let one : b.0 ≡ a.0 = cc both in
      let actions : Updates other ≡ Updates update = sym b.2 ∙ ap (λ h. h.action) one ∙ a.2 in
      cc actions

  -- no updates
  pub none_updated : (base : Element) → IsRising base.umids → IsUpdatedBy g c type name [] base base
  none_updated base rising = record {
    rest = refl;
    rising = rising;
    umids = λ x. (λ h. inl h, λ h. elim h [ inl old ↦ old | inr new ↦ absurd (none_in x new) ]);
    decided = λ n y update d. absurd (none_in y d.member);
    others = λ n none. refl;
    numbered = λ y h. absurd (none_in y h);
    same = λ none. refl;
  }

  -- an update by what is over the others
  more_updated : (ys : List Id) (x : Id) (update : Lines) (base old e : Element)
      → ((y : Id) → Contains ys y → IsOver c x y) → (¬ IsOver c x x) → Update x update
      → IsUpdatedBy g c type name ys base old → IsUpdateOf x update old e
      → IsUpdatedBy g c type name (ys ++ x ∷ []) base e
  more_updated ys x update base old e over itself updates before step = record {
    rest = step.rest ∙ ap {A = Element} (λ o. record o { umids = e.umids; text = e.text }) before.rest;
    rising = step.rising;
    umids = λ z. (in_umids z, from_umids z);
    decided = decided;
    others = λ n none. step.merged.others n (none x update (in_middle ys x []) updates)
        ∙ before.others n (λ y u m. none y u (Contains-append_left ys (x ∷ []) y m));
    numbered = λ y h. step.merged.numbered;
    same = λ none. absurd (none x (in_middle ys x []));
  }
    where
      in_umids : (z : Id) → Contains e.umids z → Contains base.umids z ⊎ Contains (ys ++ x ∷ []) z
      in_umids z h =
          elim ((step.umids z).0 h) [
            | inl was ↦ elim ((before.umids z).0 was) [
              | inl based ↦ inl based
              | inr m ↦ inr (Contains-append_left ys (x ∷ []) z m)
            ]
            | inr same ↦ inr (subst (Contains (ys ++ x ∷ [])) same (in_middle ys x []))
          ]

      from_umids : (z : Id) → Contains base.umids z ⊎ Contains (ys ++ x ∷ []) z → Contains e.umids z
      from_umids z (inl based) = (step.umids z).1 (inl ((before.umids z).1 (inl based)))
      from_umids z (inr h) =
          elim ((in_push ys x z).0 h) [
            | inl m ↦ (step.umids z).1 (inl ((before.umids z).1 (inr m)))
            | inr same ↦ (step.umids z).1 (inr same)
          ]

      decided : (n : ℕ) (y : Id) (u : Lines) → DecidesAmong g c type name (ys ++ x ∷ []) n y u
          → line_at e.text n ≡ line_at (given u) n
      decided n y u d = by ((in_push ys x y).0 d.member)
        where
          by : Contains ys y ⊎ (x ≡ y) → line_at e.text n ≡ line_at (given u) n
          by (inr same) =
              let one = same_update x y update u same updates d.updates in
              step.merged.touched n (subst (λ l. Touches l n) one d.touches) ∙ ap (λ l. line_at (given l) n) (sym one)
          by (inl m) =
              let below = over y m in
              let other : x ≢ y = λ same. itself (subst (IsOver c x) (sym same) below) in
              step.merged.others n (λ touches. itself (reaches_through (names c) x y x below
              (d.over x update (in_middle ys x []) updates touches other)))
              ∙ before.decided n y u (record {
                member = m;
                updates = d.updates;
                touches = d.touches;
                over = λ z o there. d.over z o (Contains-append_left ys (x ∷ []) z there);
              })

  more_updates : (ys : List Id) (x : Id) (update : Lines) → Update x update → AreUpdates g c type name ys
      → AreUpdates g c type name (ys ++ x ∷ [])
  more_updates ys x update updates all y h =
      elim ((in_push ys x y).0 h) [
        | inl m ↦ all y m
        | inr same ↦ (update, subst (λ z. Update z update) same updates)
      ]

  -- what a statement of x for the element makes of it is the step by x
  pub step_by : (x by : Id) (h : Change) (old new : Option Element) → change_of g x type name ≡ Some h
      → h.elem_type ≡ type → h.name ≡ name → by ≡ owner g c x → IsMadeBy by x h.elem_type h.name h.action old new
      → IsStep g c type name x old new
  step_by x by h old new at typed named owned made = (
    h,
    at,
    subst₂ (λ t n. IsMadeBy (owner g c x) x t n h.action old new) typed named
        (subst (λ o. IsMadeBy o x h.elem_type h.name h.action old new) owned made),
  )

  -- one SYSMOD more, which is over the others
  pub fold_more : (xs : List Id) (x : Id) (start old new : Option Element)
      → ((y : Id) → Contains xs y → IsOver c x y) → (¬ IsOver c x x)
      → IsFolded g c type name xs start old → IsStep g c type name x old new
      → IsFolded g c type name (xs ++ x ∷ []) start new
  fold_more xs x start old new over itself folded (h, at, made) = by_action h.action refl made
    where
      by_action : (a : Action) → h.action ≡ a → IsMadeBy (owner g c x) x type name a old new
          → IsFolded g c type name (xs ++ x ∷ []) start new
      by_action (Replaces distlib syslib lines) action is =
          let base = replacement (owner g c x) x type name distlib syslib lines in
          inl (record {
            front = xs;
            replacer = x;
            back = [];
            base = base;
            e = base;
            parts = refl;
            replaces = (h, distlib, syslib, lines, at, action, refl);
            updates = λ y m. absurd (none_in y m);
            updated = none_updated base none_rise;
            new_is = is;
          })
      by_action (Updates update) action is = by_fold folded
        where
          by_start : (start : Option Element) → HasUpdated g c type name xs start old
              → HasUpdated g c type name (xs ++ x ∷ []) start new
          by_start None f = record {
            updates = more_updates xs x update (h, at, action) f.updates;
            updated = subst (λ o. IsMadeBy (owner g c x) x type name (Updates update) o new) f.updated is;
          }
          by_start (Some base) f =
              let was = f.updated in
              let m = subst (λ o. IsMadeBy (owner g c x) x type name (Updates update) o new) was.1 is in
              record {
                updates = more_updates xs x update (h, at, action) f.updates;
                updated = (
                  m.0,
                  m.1,
                  more_updated xs x update base was.0 m.0 over itself (h, at, action) was.2 m.2,
                );
              }

          by_fold : IsFolded g c type name xs start old → IsFolded g c type name (xs ++ x ∷ []) start new
          by_fold (inl f) =
              let m = subst (λ o. IsMadeBy (owner g c x) x type name (Updates update) o new) f.new_is is in
              inl (record {
                front = f.front;
                replacer = f.replacer;
                back = f.back ++ x ∷ [];
                base = f.base;
                e = m.0;
                parts = ap (λ l. l ++ x ∷ []) f.parts ∙ append_assoc f.front (f.replacer ∷ f.back) (x ∷ []);
                replaces = f.replaces;
                updates = more_updates f.back x update (h, at, action) f.updates;
                updated = more_updated f.back x update f.base f.e m.0
                    (λ y there. over y (subst (λ l. Contains l y) (sym f.parts)
                    (Contains-append_right f.front (f.replacer ∷ f.back) y (behind f y there))))
                    itself (h, at, action) f.updated m.2;
                new_is = m.1;
              })
            where
              behind : (f : HasReplaced g c type name xs old) (y : Id) → Contains f.back y
                  → Contains (f.replacer ∷ f.back) y
              behind f y m = there f.replacer f.back y m
          by_fold (inr f) = inr (by_start start f)
