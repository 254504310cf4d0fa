-- What lacks nothing of a SYSMOD lacks nothing of those of which this one lacks nothing.
use Rattle.std.proofs.Common.{◌≡◌, ◌∙◌, ◌⊎◌, inl, inr, Bool, true, false, not, ◌&&◌, List, [], ◌∷◌, ◌++◌, filter, cond}
use Rattle.std.proofs.Common.{None, Some, is_some, All, Contains, IsTrue, refl, sym, ap, subst, subst₂}
use Rattle.std.proofs.Common.{true≢false}
use Rattle.std.specs.Prelude.{◌↔◌}
use Rattle.std.specs.Option.{option_map_or, option_and_then}
use Rattle.std.specs.Ordering.{nat_cmp, is_eq}
use Rattle.std.specs.Cmp.Lexicographic.{slice_cmp}
use Rattle.std.specs.BTreeMap.{BTreeMap, get, Updates, IsEmpty, is_at}
use Rattle.std.specs.Map.{lookup}
use Rattle.std.proofs.lemmas.List.Elements.{All-contains, Contains-append_right, Contains-append_cases}
use Rattle.std.proofs.lemmas.List.Elements.{Contains-push_cases}
use Rattle.std.proofs.lemmas.Map.Lookups.{exact_bytes}
use Rattle.std.proofs.lemmas.Option.{same_Some}
use Rattle.terms.proofs.ChangedElements.{change_found}
use Rattle.terms.proofs.Ids.{is_in_from_Contains, Contains_from_is_in}
use Rattle.terms.proofs.ListMembers.{none_in, in_filter, filter_in}
use Rattle.terms.proofs.Loops.{sup_named}
use Rattle.terms.proofs.Orderings.{Equal_from_is_eq}
use Rattle.terms.specs.declared.kinds.ElemType.{ElemType}
use Rattle.terms.specs.Types.{Text, Id, Ver, Change, Global}
use Rattle.terms.specs.Choice.{Choice, pre_of, sup_of}
use Rattle.terms.specs.Lookups.{is_in, changes_of, has_change}
use Rattle.terms.specs.Stream.{IsInStream, HasRequisitesOf}
use Rattle.sysmods.specs.declared.ver_choice.VerChoice.{VerChoice}
use Rattle.sysmods.specs.Choices.{choice}
use Rattle.sysmods.specs.Seen.{AddsAll}
use Rattle.stream.specs.declared.breaches.Lack.{Lack}
use Rattle.stream.specs.declared.breaches.Lack.TheVariants.{Fmid, Pre, Sup}
use Rattle.stream.specs.declared.breaches.LostRequisite.{LostRequisite}
use Rattle.stream.specs.declared.breaches.LostElement.{LostElement}
use Rattle.stream.specs.Breaches.{Lacks}
use Rattle.stream.specs.Gaining.{OneOf}
use Rattle.stream.specs.Kept.{Keeps, VerHas, AreSuspects, AreKept, AreKeptOf, AreKnownIn}
use Rattle.stream.specs.Lost.{IsLackOf, IsLossOf}
use Rattle.stream.specs.Ordering.{is_open}
use Rattle.stream.proofs.FirstVers.{names_in_stream}

-- ---- what is tested

-- x has the requisites of y if its ++VER has those of the other one
module _ (c : Choice) (x y : Id) (v w : Ver) (at : c x ≡ Some v) (also : c y ≡ Some w) where
  pub has_from : VerHas v w → HasRequisitesOf c x y
  has_from h = record {
    fmid = ap (option_and_then (λ (a : Ver). a.fmid)) at ∙ h.fmid ∙ sym (ap (option_and_then (λ (a : Ver). a.fmid)) also);
    pre = λ z named.
        subst (λ o. Contains (option_map_or (λ (a : Ver). a.pre) o [] ++ option_map_or (λ (a : Ver). a.sup) o []) z)
        (sym at) (Contains_from_is_in (v.pre ++ v.sup) z (All-contains (λ u. is_in (v.pre ++ v.sup) u ≡ true) w.pre z
        h.pre (subst (λ p. Contains (option_map_or (λ (a : Ver). a.pre) p []) z) also named)));
    sup = λ z named.
        subst (λ o. Contains (option_map_or (λ (a : Ver). a.sup) o []) z)
        (sym at) (Contains_from_is_in v.sup z (All-contains (λ u. is_in v.sup u ≡ true) w.sup z
        h.sup (subst (λ p. Contains (option_map_or (λ (a : Ver). a.sup) p []) z) also named)));
  }

-- x changes each element that y changes if it changes that of each statement of y
pub elements_from : (g : Global) (x y : Id)
    → All (λ (h : Change). has_change g x h.elem_type h.name ≡ true) (changes_of g y) → (type : ElemType) (name : Text)
    → IsTrue (has_change g y type name) → IsTrue (has_change g x type name)
elements_from g x y all type name changes =
    let of = change_found g y type name changes in
    subst₂ (λ (t : ElemType) (m : Text). has_change g x t m ≡ true) of.2 of.3
    (All-contains (λ (h : Change). has_change g x h.elem_type h.name ≡ true) (changes_of g y) of.0 all of.1)

pub keeps_absent : (g : Global) (c : Choice) (x y : Id) → c y ≡ None → Keeps g c x y
keeps_absent g c x y at there = absurd (true≢false (sym there ∙ ap is_some at))

-- ---- what is kept

module _ (g : Global) (c : Choice) where
  keeps_on : (x y z : Id) → IsInStream c y → Keeps g c x y → Keeps g c y z → Keeps g c x z
  keeps_on x y z there first second also =
      let a = first there in
      let b = second also in record {
        requisites = record {
          fmid = a.requisites.fmid ∙ b.requisites.fmid;
          pre = λ w named. elim (Contains-append_cases (pre_of c y) (sup_of c y) w (b.requisites.pre w named)) [
            | inl is ↦ a.requisites.pre w is
            | inr is ↦ Contains-append_right (pre_of c x) (sup_of c x) w (a.requisites.sup w is)
          ];
          sup = λ w named. a.requisites.sup w (b.requisites.sup w named);
        };
        elements = λ type name changes. a.elements type name (b.elements type name changes);
      }

  pub kept_none : (x : Id) (keys : List Id) → keys ≡ [] → AreKept g c x keys
  kept_none x keys none y is = absurd (none_in y (subst (λ l. Contains l y) none is))

  pub kept_added : (x : Id) (old more new : List Id) → AddsAll old more new → AreKept g c x old → AreKept g c x more
      → AreKept g c x new
  kept_added x old more new adds kept all z is =
      elim (Contains-append_cases old adds.added z (subst (λ l. Contains l z) adds.kept is)) [
        | inl was ↦ kept z was
        | inr also ↦ all z (adds.were_named z also)
      ]

  pub kept_one : (x y : Id) → Keeps g c x y → AreKept g c x (y ∷ [])
  kept_one x y keeps z is = elim (Contains-push_cases [] y z is) [
    | inl none ↦ absurd (none_in z none)
    | inr same ↦ subst (Keeps g c x) same keeps
  ]

  -- ---- suspects

  pub suspects_all : (x : Id) (ys : List Id) → ys ≡ sup_of c x → AreSuspects g c x ys
  suspects_all x ys all = record {
    among = λ y h. subst (λ l. Contains l y) all h;
    others = λ y h. inl (subst (λ l. Contains l y) (sym all) h);
  }

  pub suspects_alike : (x : Id) (ys zs : List Id) → ((y : Id) → Contains zs y ↔ Contains ys y) → AreSuspects g c x ys
      → AreSuspects g c x zs
  suspects_alike x ys zs same are = record {
    among = λ y h. are.among y ((same y).0 h);
    others = λ y h. elim (are.others y h) [ inl is ↦ inl ((same y).1 is) | inr keeps ↦ inr keeps ];
  }

  -- what is not kept of SUP
  pub suspects_left : (x : Id) (sup kept left : List Id) → sup ≡ sup_of c x → AreKept g c x kept
      → left ≡ filter (is_open c kept) sup → AreSuspects g c x left
  suspects_left x sup kept left named all made = record {
    among = λ y h.
        subst (λ l. Contains l y) named (filter_in (is_open c kept) sup y (subst (λ l. Contains l y) made h)).0;
    others = λ y h. others y (subst (λ l. Contains l y) (sym named) h);
  }
    where
      others : (y : Id) → Contains sup y → Contains left y ⊎ Keeps g c x y
      others y h = by (is_in kept y) (is_some (c y)) refl refl
        where
          by : (a b : Bool) → is_in kept y ≡ a → is_some (c y) ≡ b → Contains left y ⊎ Keeps g c x y
          by true b in_kept there = inr (all y (Contains_from_is_in kept y in_kept))
          by false true in_kept there = inl (subst (λ l. Contains l y) (sym made)
              (in_filter (is_open c kept) sup y h (ap (λ a. not a && is_some (c y)) in_kept ∙ there)))
          by false false in_kept there = inr (λ is. absurd (true≢false (sym is ∙ there)))

  -- what is outside the suspects of SUP
  pub kept_outside : (y : Id) (sup ys zs : List Id) → sup ≡ sup_of c y → AreSuspects g c y ys
      → zs ≡ filter (λ z. not (is_in ys z)) sup → AreKeptOf g c y zs
  kept_outside y sup ys zs named are made z is =
      let kept = filter_in (λ u. not (is_in ys u)) sup z (subst (λ l. Contains l z) made is) in
      let there = subst (λ l. Contains l z) named kept.0 in (
        there,
        elim (are.others z there) [
          | inl among ↦ absurd (true≢false (sym kept.1 ∙ ap not (is_in_from_Contains ys z among)))
          | inr keeps ↦ keeps
        ],
      )

  no_lack : (x y : Id) → HasRequisitesOf c x y → (lack : Lack) → ¬ Lacks c x y lack
  no_lack x y has Fmid two = two has.fmid
  no_lack x y has (Pre z) out = out.1 (has.pre z out.0)
  no_lack x y has (Sup z) out = out.1 (has.sup z out.0)

  -- no other one that is superseded lacks a requisite
  pub suspects_lack : (x : Id) (ys : List Id) → AreSuspects g c x ys → (b : LostRequisite)
      → OneOf ys (IsLackOf c x) b ↔ OneOf (sup_of c x) (IsLackOf c x) b
  suspects_lack x ys are b = (
    λ h. (h.0, are.among h.0 h.1, h.2),
    λ h. elim (are.others h.0 h.1) [
      | inl is ↦ (h.0, is, h.2)
      | inr keeps ↦ absurd (no_lack x h.0 (keeps h.2.1).requisites b.lack h.2.4)
    ],
  )

  -- nor an element
  pub suspects_lose : (x : Id) (ys : List Id) → AreSuspects g c x ys → (b : LostElement)
      → OneOf ys (IsLossOf g c x) b ↔ OneOf (sup_of c x) (IsLossOf g c x) b
  suspects_lose x ys are b = (
    λ h. (h.0, are.among h.0 h.1, h.2),
    λ h. elim (are.others h.0 h.1) [
      | inl is ↦ (h.0, is, h.2)
      | inr keeps ↦ absurd (true≢false (sym ((keeps h.2.0).elements b.elem_type b.name h.2.3) ∙ h.2.4))
    ],
  )

  -- ---- what is known

  pub known_none : (lists : BTreeMap Id (List Id)) → IsEmpty lists → AreKnownIn g c lists
  known_none lists empty x ys at =
      let none : None ≡ Some ys = sym (ap (λ es. lookup (is_at (slice_cmp nat_cmp x)) es) empty) ∙ at in absurd (cc none)

  pub known_next : (old new : BTreeMap Id (List Id)) (x : Id) (ys : List Id)
      → Updates (slice_cmp nat_cmp) old new x (Some ys) → AreKnownIn g c old → AreSuspects g c x ys → AreKnownIn g c new
  known_next old new x ys updates known are z zs at = by (is_eq (slice_cmp nat_cmp x z)) refl
    where
      by : (b : Bool) → is_eq (slice_cmp nat_cmp x z) ≡ b → AreSuspects g c z zs
      by true e =
          subst₂ (AreSuspects g c) (exact_bytes x z (Equal_from_is_eq (slice_cmp nat_cmp x z) e))
          (sym (same_Some zs ys
          (sym at ∙ updates.0 z ∙ ap (λ b. cond b (Some ys) (get (slice_cmp nat_cmp) old z)) e))) are
      by false e = known z zs
          (sym (ap (λ b. cond b (Some ys) (get (slice_cmp nat_cmp) old z)) e) ∙ sym (updates.0 z) ∙ at)

-- what x lacks nothing of because it lacks nothing of y
pub kept_through : (vers : VerChoice) (x y : Id) (more : List Id) → Keeps vers.global.now (choice vers) x y
    → AreKeptOf vers.global.now (choice vers) y more → AreKept vers.global.now (choice vers) x more
kept_through vers x y more keeps of z is =
    let h = of z is in
    keeps_on vers.global.now (choice vers) x y z
    (names_in_stream vers y z (sup_named (choice vers) y z h.0)) keeps h.1
