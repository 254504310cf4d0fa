-- What a SYSMOD changes, with one element statement more.
use Rattle.std.proofs.Common.{◌≡◌, ◌⊎◌, ◌==◌, ◌&&◌, Bool, true, false, not, IsTrue, true≢false, List, [], ◌++◌, ◌∷◌}
use Rattle.std.proofs.Common.{inl, inr, refl, sym, ap, subst, ◌∙◌, Contains}
use Rattle.std.specs.Prelude.{All}
use Rattle.std.specs.List.{Any, list_any}
use Rattle.std.specs.Str.{bytes_eq}
use Rattle.std.proofs.lemmas.Bool.{and_parts, eqb-true, eq-eqb}
use Rattle.std.proofs.lemmas.List.Folds.{Any-from_list_any, list_any-from_Any}
use Rattle.terms.proofs.TextOrder.{same_from, same_itself}
use Rattle.std.specs.declared.cmp.Ordering.{Ordering}
use Rattle.std.specs.declared.cmp.Ordering.TheVariants.{Less, Equal, Greater}
use Rattle.std.specs.Ordering.{is_lt, is_eq, ordering_reverse}
use Rattle.std.proofs.lemmas.List.Elements.{All-weaker, All-contains, Contains-append_left, Contains-append_right}
use Rattle.std.proofs.lemmas.List.Elements.{Contains-append_cases}
use Rattle.terms.proofs.Each.{any_in, in_any, any_weaker, All_from_each}
use Rattle.terms.proofs.ListMembers.{here, here_or, none_in, in_filter, filter_in}
use Rattle.terms.specs.declared.kinds.ElemType.{ElemType}
use Rattle.terms.specs.declared.kinds.Kind.{Kind}
use Rattle.terms.specs.Types.{Text, Change, Sysmod, type_number}
use Rattle.terms.specs.Changes.{is_replacement}
use Rattle.terms.specs.Global.{change_cmp}
use Rattle.terms.specs.Rising.{before, behind, with_item}
use Rattle.terms.proofs.ElementOrder.{change_cmp_total, element_ties, same_key, type_from_number}
use Rattle.intake_read.specs.declared.items.WideElement.{WideElement}
use Rattle.intake_read.specs.declared.items.WideSysmod.{WideSysmod}
use Rattle.intake_elements.specs.Elements.{IsChangeOf, IsMadeOf, modules_of, module_name, is_update}
use Rattle.terms.specs.declared.kinds.ElemType.TheVariants.{Mac}
use Rattle.intake_sysmod.specs.Changed.{IsDone, IsChanged, IsElementChanged, IsSaidBy, IsSaid, Keeps, Grows, Joins}
use Rattle.intake_sysmod.specs.NoLooser.{IsElementDone}

abbrev pub put : List Change → Change → List Change
put cs c = with_item change_cmp (λ x. x) cs c

in_front : (cs : List Change) (c x : Change) → Contains (before change_cmp (λ y. y) c cs) x → Contains (put cs c) x
in_front cs c x h =
    Contains-append_left (before change_cmp (λ y. y) c cs ++ c ∷ []) (behind change_cmp (λ y. y) c cs) x
    (Contains-append_left (before change_cmp (λ y. y) c cs) (c ∷ []) x h)

in_back : (cs : List Change) (c x : Change) → Contains (behind change_cmp (λ y. y) c cs) x → Contains (put cs c) x
in_back cs c x h =
    Contains-append_right (before change_cmp (λ y. y) c cs ++ c ∷ []) (behind change_cmp (λ y. y) c cs) x h

itself : (cs : List Change) (c : Change) → Contains (put cs c) c
itself cs c =
    Contains-append_left (before change_cmp (λ y. y) c cs ++ c ∷ []) (behind change_cmp (λ y. y) c cs) c
    (Contains-append_right (before change_cmp (λ y. y) c cs) (c ∷ []) c (here c []))

tied : (x c : Change) → change_cmp x c ≡ Equal → (x.elem_type ≡ c.elem_type) × (x.name ≡ c.name)
tied x c e =
    let k : (ElemType × Text) = (x.elem_type, x.name) in
    let l : (ElemType × Text) = (c.elem_type, c.name) in
    let s = same_key k l (element_ties k l ∙ ap is_eq e) in
    (ap (λ (p : ElemType × Text). p.0) s, ap (λ (p : ElemType × Text). p.1) s)

only_after : (cs : List Change) (c x : Change) → Contains (put cs c) x → Contains cs x ⊎ (x ≡ c)
only_after cs c x h =
    elim (Contains-append_cases (before change_cmp (λ y. y) c cs ++ c ∷ []) (behind change_cmp (λ y. y) c cs) x h) [
      | inl front ↦ elim (Contains-append_cases (before change_cmp (λ y. y) c cs) (c ∷ []) x front) [
        | inl kept ↦ inl ((filter_in (λ y. is_lt (change_cmp y c)) cs x kept).0)
        | inr last ↦ elim (here_or c [] x last) [ inl same ↦ inr (sym same) | inr none ↦ absurd (none_in x none) ]
      ]
      | inr back ↦ inl ((filter_in (λ y. is_lt (change_cmp c y)) cs x back).0)
    ]

-- ---- a change that is put in

-- for the same element
abbrev pub IsFor : Change → Change → Type 0
IsFor c x = (x.elem_type ≡ c.elem_type) × (x.name ≡ c.name)

-- There is none for its element, or it is a replacement that may take its place.
abbrev pub MayComeIn : Bool → List Change → Change → Type 0
MayComeIn decide cs c = (Any (IsFor c) cs → ⊥) ⊎ (IsTrue decide × (is_replacement c.action ≡ true))

there_after : (decide : Bool) (cs : List Change) (c : Change) (updated : Bool) → is_replacement c.action ≡ not updated
    → IsChanged decide (put cs c) c.elem_type c.name updated
there_after decide cs c updated e =
    any_in (IsDone decide c.elem_type c.name updated) (put cs c) c (itself cs c) (inl (refl, refl, e))

its_key : (decide : Bool) (type : ElemType) (name : Text) (updated : Bool) (x : Change)
    → IsDone decide type name updated x
    → (x.elem_type ≡ type) × (x.name ≡ name)
its_key decide type name updated x (inl is) = (is.0, is.1)
its_key decide type name updated x (inr is) = (is.1.0, is.1.1)

kept_after : (decide : Bool) (cs : List Change) (c : Change) → MayComeIn decide cs c → Keeps decide cs (put cs c)
kept_after decide cs c may type name updated any =
    let m = in_any (IsDone decide type name updated) cs any in
    by m.0 m.1 m.2 (change_cmp m.0 c) refl
  where
    over : (x : Change) → Contains cs x → IsDone decide type name updated x → IsFor c x
        → MayComeIn decide cs c → IsChanged decide (put cs c) type name updated
    over x at is t (inl none) = absurd (none (any_in (IsFor c) cs x at t))
    over x at is t (inr e) =
        let k = its_key decide type name updated x is in
        any_in (IsDone decide type name updated) (put cs c) c (itself cs c)
        (inr (e.0, (sym t.0 ∙ k.0, sym t.1 ∙ k.1, e.1)))

    by : (x : Change) → Contains cs x → IsDone decide type name updated x → (o : Ordering)
        → change_cmp x c ≡ o → IsChanged decide (put cs c) type name updated
    by x at is Less e = any_in (IsDone decide type name updated) (put cs c) x
        (in_front cs c x (in_filter (λ y. is_lt (change_cmp y c)) cs x at (ap is_lt e))) is
    by x at is Equal e = over x at is (tied x c e) may
    by x at is Greater e = any_in (IsDone decide type name updated) (put cs c) x
        (in_back cs c x (in_filter (λ y. is_lt (change_cmp c y)) cs x at
        (ap is_lt (change_cmp_total.antisymm c x ∙ ap ordering_reverse e)))) is

abbrev pub is_for : ElemType → Text → Change → Bool
is_for type name c = (type_number c.elem_type == type_number type) && bytes_eq c.name name

-- a statement for the element is there
for_it : (cs : List Change) (c : Change) → list_any (is_for c.elem_type c.name) cs ≡ true → Any (IsFor c) cs
for_it cs c e =
    any_weaker (λ x. is_for c.elem_type c.name x ≡ true) (IsFor c)
    (λ x h. let b = and_parts (type_number x.elem_type == type_number c.elem_type) (bytes_eq x.name c.name) h in
    (type_from_number x.elem_type c.elem_type (eqb-true _ _ b.0), same_from x.name c.name b.1)) cs
    (Any-from_list_any (is_for c.elem_type c.name) cs e)

-- none is
none_for_it : (cs : List Change) (c : Change) → list_any (is_for c.elem_type c.name) cs ≡ false → Any (IsFor c) cs → ⊥
none_for_it cs c e any =
    true≢false (sym (list_any-from_Any (is_for c.elem_type c.name) cs
    (any_weaker (IsFor c) (λ x. is_for c.elem_type c.name x ≡ true) (λ x t. tests x t) cs any)) ∙ e)
  where
    tests : (x : Change) → IsFor c x → is_for c.elem_type c.name x ≡ true
    tests x t =
        ap (λ b. b && bytes_eq x.name c.name) (eq-eqb (type_number x.elem_type) (type_number c.elem_type)
        (ap type_number t.0)) ∙ ap (λ n. bytes_eq n c.name) t.1 ∙ same_itself c.name

abbrev pub with_change : Sysmod → Change → Sysmod
with_change old c = record old { changes = put old.changes c }

joins_in : (decide : Bool) (c : Change) (old new : Sysmod) → new ≡ with_change old c → MayComeIn decide old.changes c
    → Joins decide c old new true
joins_in decide c old new e may = subst (λ s. Joins decide c old s true) (sym e) (record {
  rest = refl;
  kept = kept_after decide old.changes c may;
  there = λ t updated r. there_after decide old.changes c updated r;
  only = only_after old.changes c;
})

pub joins_first : (decide : Bool) (c : Change) (old new : Sysmod) → new ≡ with_change old c
    → list_any (is_for c.elem_type c.name) old.changes ≡ false → Joins decide c old new true
joins_first decide c old new e none = joins_in decide c old new e (inl (none_for_it old.changes c none))

pub joins_over : (decide : Bool) (c : Change) (old new : Sysmod) → new ≡ with_change old c → IsTrue decide
    → is_replacement c.action ≡ true → Joins decide c old new true
joins_over decide c old new e asked r = joins_in decide c old new e (inr (asked, r))

pub joins_not : (decide : Bool) (c : Change) (s : Sysmod) → Joins decide c s s false
joins_not decide c s = record {
  rest = refl;
  kept = λ type name updated any. any;
  there = λ t. absurd (true≢false (sym t));
  only = λ x h. inl h;
}

-- an update beside what is there
pub joins_under : (decide : Bool) (c : Change) (s : Sysmod) → IsTrue decide
    → list_any (is_for c.elem_type c.name) s.changes ≡ true → is_replacement c.action ≡ false → Joins decide c s s true
joins_under decide c s asked there none = record {
  rest = refl;
  kept = λ type name updated any. any;
  there = λ t updated r. any_weaker (IsFor c) (IsDone decide c.elem_type c.name updated)
      (λ x k. by x k updated (sym none ∙ r) (is_replacement x.action) refl) s.changes (for_it s.changes c there);
  only = λ x h. inl h;
}
  where
    by : (x : Change) → IsFor c x → (updated : Bool) → false ≡ not updated → (b : Bool) → is_replacement x.action ≡ b
        → IsDone decide c.elem_type c.name updated x
    by x k false e b f = absurd (true≢false (sym e))
    by x k true e true f = inr (asked, (k.0, k.1, f))
    by x k true e false f = inl (k.0, k.1, f)

-- ---- a SYSMOD that grows

pub grows_same : (decide : Bool) (kind : Kind) (e : WideElement) (s : Sysmod) → Grows decide kind e s s
grows_same decide kind e s = record {
  rest = refl;
  kept = λ type name updated any. any;
  said = λ stated at all. all;
}

pub grows_then : (decide : Bool) (kind : Kind) (e : WideElement) (a b c : Sysmod) → Grows decide kind e a b
    → Grows decide kind e b c → Grows decide kind e a c
grows_then decide kind e a b c one other = record {
  rest = other.rest ∙ ap (λ (s : Sysmod). record s { changes = c.changes }) one.rest;
  kept = λ type name updated any. other.kept type name updated (one.kept type name updated any);
  said = λ stated at all. other.said stated at (one.said stated at all);
}

pub grows_join : (decide : Bool) (kind : Kind) (e : WideElement) (c : Change) (old new : Sysmod) (joined : Bool)
    → Joins decide c old new joined → IsSaidBy decide kind e c → Grows decide kind e old new
grows_join decide kind e c old new joined j is = record {
  rest = j.rest;
  kept = j.kept;
  said = λ stated at all. All_from_each (IsSaid decide kind stated) new.changes (λ x h. elim (j.only x h) [
    | inl was ↦ All-contains (IsSaid decide kind stated) old.changes x all was
    | inr same ↦ subst (IsSaid decide kind stated) (sym same) (any_in (λ f. IsSaidBy decide kind f c) stated e at is)
  ]);
}

-- the module of the change
pub assembled : (decide : Bool) (kind : Kind) (e : WideElement) (c : Change) (m : Text) → IsTrue decide
    → Contains (modules_of e) m → IsChangeOf Mac (module_name m) false c → IsSaidBy decide kind e c
assembled decide kind e c m asked at is =
    inr (asked, any_in (λ t. IsChangeOf Mac (module_name t) false c) (modules_of e) m at is)

pub changed_as : (decide : Bool) (cs : List Change) (c : Change) (type : ElemType) (name : Text) (updated : Bool)
    → IsChangeOf type name updated c
    → ((u : Bool) → is_replacement c.action ≡ not u → IsChanged decide cs c.elem_type c.name u)
    → IsChanged decide cs type name updated
changed_as decide cs c type name updated is there =
    subst (λ t. IsChanged decide cs t name updated) is.0
    (subst (λ n. IsChanged decide cs c.elem_type n updated) is.1 (there updated is.2))

-- ---- the element of a statement

pub element_changed : (decide : Bool) (kind : Kind) (e : WideElement) (c : Change) (old mid new : Sysmod)
    (joined : Bool)
    → IsMadeOf decide kind e c → Joins decide c old mid joined → IsTrue joined → Keeps decide mid.changes new.changes
    → (IsTrue decide → All (λ m. IsChanged decide new.changes Mac (module_name m) false) (modules_of e))
    → IsElementChanged decide kind new.changes e
element_changed decide kind e c old mid new joined made j t kept modules = record {
  type = c.elem_type;
  name = c.name;
  target_is = made.target_is;
  changed = kept c.elem_type c.name (is_update kind e.word.items)
      (j.there t (is_update kind e.word.items) made.action_is);
  lacks_nothing = made.lacks_nothing;
  modules_changed = modules;
}

changed_still : (decide : Bool) (kind : Kind) (old new : List Change) (e : WideElement) → Keeps decide old new
    → IsElementChanged decide kind old e → IsElementChanged decide kind new e
changed_still decide kind old new e kept h = record {
  type = h.type;
  name = h.name;
  target_is = h.target_is;
  changed = kept h.type h.name (is_update kind e.word.items) h.changed;
  lacks_nothing = h.lacks_nothing;
  modules_changed = λ asked. All-weaker (λ m. IsChanged decide old Mac (module_name m) false)
      (λ m. IsChanged decide new Mac (module_name m) false) (λ m c. kept Mac (module_name m) false c) (modules_of e)
      (h.modules_changed asked);
}

done_still : (decide : Bool) (run : List WideSysmod) (s : WideSysmod) (old new : List Change) (e : WideElement)
    → Keeps decide old new → IsElementDone decide run s old e → IsElementDone decide run s new e
done_still decide run s old new e kept (inl h) = inl (changed_still decide s.kind old new e kept h)
done_still decide run s old new e kept (inr h) = inr h

pub done_after : (decide : Bool) (run : List WideSysmod) (s : WideSysmod) (old new : List Change)
    (es : List WideElement)
    → Keeps decide old new → All (IsElementDone decide run s old) es → All (IsElementDone decide run s new) es
done_after decide run s old new es kept all =
    All-weaker (IsElementDone decide run s old) (IsElementDone decide run s new)
    (λ e h. done_still decide run s old new e kept h) es all
