-- What SYSMODs lack of those that they supersede.
use Rattle.std.proofs.Common.{◌≡◌, ◌≢◌, ◌∙◌, inl, inr, Bool, true, false, not, List, [], ◌++◌, map, filter}
use Rattle.std.proofs.Common.{None, Some, is_some, Contains, refl, sym, ap, ap₂, subst, subst₂}
use Rattle.std.proofs.Common.{true≢false}
use Rattle.std.specs.Prelude.{◌↔◌}
use Rattle.std.specs.Option.{option_map_or, option_and_then}
use Rattle.std.proofs.lemmas.List.Elements.{Contains-append_left, Contains-append_right, Contains-append_cases}
use Rattle.terms.proofs.ChangedElements.{change_has, change_found}
use Rattle.terms.proofs.Ids.{is_in_from_Contains, Contains_from_is_in}
use Rattle.terms.proofs.ListMembers.{in_map, map_in, in_filter, filter_in}
use Rattle.terms.proofs.Loops.{sup_named}
use Rattle.terms.specs.declared.kinds.ElemType.{ElemType}
use Rattle.terms.specs.Types.{Text, Id, Ver, Global}
use Rattle.terms.specs.Choice.{Choice, sup_of}
use Rattle.terms.specs.Lookups.{is_in, changes_of, has_change}
use Rattle.terms.specs.Stream.{IsInStream}
use Rattle.sysmods.specs.declared.ver_choice.VerChoice.{VerChoice}
use Rattle.sysmods.specs.Choices.{choice}
use Rattle.stream.specs.declared.breaches.Lack.{Lack}
use Rattle.stream.specs.declared.breaches.Lack.TheVariants.{Fmid, Pre, Sup}
use Rattle.stream.specs.declared.breaches.LostRequisite.{LostRequisite}
use Rattle.stream.specs.declared.breaches.LostElement.{LostElement}
use Rattle.stream.specs.Breaches.{Lacks, IsLostRequisite, IsLostElement}
use Rattle.stream.specs.Gaining.{Gains, OneOf}
use Rattle.stream.specs.Lost.{VerLacks, a_lost_requisite, IsLackOf, IsLostStatement, IsLossOf}
use Rattle.stream.proofs.FirstVers.{names_in_stream}
use Rattle.stream.proofs.Gaining.{gains_alike, gains_nothing, gains_list}

not_in : (xs : List Id) (z : Id) → ¬ Contains xs z → not (is_in xs z) ≡ true
not_in xs z out = by (is_in xs z) refl
  where
    by : (b : Bool) → is_in xs z ≡ b → not (is_in xs z) ≡ true
    by true e = absurd (out (Contains_from_is_in xs z e))
    by false e = ap not e

out_of : (xs : List Id) (z : Id) → not (is_in xs z) ≡ true → ¬ Contains xs z
out_of xs z is there = true≢false (sym is ∙ ap not (is_in_from_Contains xs z there))

-- ---- requisites

module _ (v w : Ver) where
  abbrev lost_pre : Id → Bool
  lost_pre z = not (is_in (v.pre ++ v.sup) z)

  abbrev lost_sup : Id → Bool
  lost_sup z = not (is_in v.sup z)

  pub lacks_are : (first lacks : List Lack)
      → ((lack : Lack) → Contains first lack ↔ ((lack ≡ Fmid) × (v.fmid ≢ w.fmid)))
      → lacks ≡ (first ++ map (λ z. Pre z) (filter lost_pre w.pre)) ++ map (λ z. Sup z) (filter lost_sup w.sup)
      → (lack : Lack) → Contains lacks lack ↔ VerLacks v w lack
  lacks_are first lacks fmid made lack = (
    λ h. elim (Contains-append_cases (first ++ pres) sups lack (subst (λ l. Contains l lack) made h)) [
      | inl front ↦ elim (Contains-append_cases first pres lack front) [
        | inl is ↦ let f = (fmid lack).0 is in subst (VerLacks v w) (sym f.0) f.1
        | inr is ↦
            let z = map_in (λ z. Pre z) (filter lost_pre w.pre) lack is in
            let kept = filter_in lost_pre w.pre z.0 z.1 in
            subst (VerLacks v w) z.2 (kept.0, out_of (v.pre ++ v.sup) z.0 kept.1)
      ]
      | inr is ↦
          let z = map_in (λ z. Sup z) (filter lost_sup w.sup) lack is in
          let kept = filter_in lost_sup w.sup z.0 z.1 in
          subst (VerLacks v w) z.2 (kept.0, out_of v.sup z.0 kept.1)
    ],
    λ h. subst (λ l. Contains l lack) (sym made) (back lack h),
  )
    where
      pres : List Lack
      pres = map (λ z. Pre z) (filter lost_pre w.pre)

      sups : List Lack
      sups = map (λ z. Sup z) (filter lost_sup w.sup)

      back : (lack : Lack) → VerLacks v w lack → Contains ((first ++ pres) ++ sups) lack
      back Fmid two = Contains-append_left (first ++ pres) sups Fmid (Contains-append_left first pres Fmid
          ((fmid Fmid).1 (refl, two)))
      back (Pre z) lost = Contains-append_left (first ++ pres) sups (Pre z) (Contains-append_right first pres (Pre z)
          (in_map (λ z. Pre z) (filter lost_pre w.pre) z
          (in_filter lost_pre w.pre z lost.0 (not_in (v.pre ++ v.sup) z lost.1))))
      back (Sup z) lost = Contains-append_right (first ++ pres) sups (Sup z)
          (in_map (λ z. Sup z) (filter lost_sup w.sup) z
          (in_filter lost_sup w.sup z lost.0 (not_in v.sup z lost.1)))

  module _ (c : Choice) (x y : Id) (at : c x ≡ Some v) (also : c y ≡ Some w) where
    lacks_from : (lack : Lack) → VerLacks v w lack → Lacks c x y lack
    lacks_from Fmid h =
        subst₂ (λ o p. option_and_then (λ (a : Ver). a.fmid) o ≢ option_and_then (λ (a : Ver). a.fmid) p)
        (sym at) (sym also) h
    lacks_from (Pre z) h =
        subst₂ (λ o p. Contains (option_map_or (λ (a : Ver). a.pre) p []) z
        × ¬ Contains (option_map_or (λ (a : Ver). a.pre) o [] ++ option_map_or (λ (a : Ver). a.sup) o []) z)
        (sym at) (sym also) h
    lacks_from (Sup z) h =
        subst₂ (λ o p. Contains (option_map_or (λ (a : Ver). a.sup) p []) z
        × ¬ Contains (option_map_or (λ (a : Ver). a.sup) o []) z) (sym at) (sym also) h

    lacks_to : (lack : Lack) → Lacks c x y lack → VerLacks v w lack
    lacks_to Fmid h =
        subst₂ (λ o p. option_and_then (λ (a : Ver). a.fmid) o ≢ option_and_then (λ (a : Ver). a.fmid) p) at also h
    lacks_to (Pre z) h =
        subst₂ (λ o p. Contains (option_map_or (λ (a : Ver). a.pre) p []) z
        × ¬ Contains (option_map_or (λ (a : Ver). a.pre) o [] ++ option_map_or (λ (a : Ver). a.sup) o []) z) at also h
    lacks_to (Sup z) h =
        subst₂ (λ o p. Contains (option_map_or (λ (a : Ver). a.sup) p []) z
        × ¬ Contains (option_map_or (λ (a : Ver). a.sup) o []) z) at also h

    pub lacks_gained : (lacks : List Lack) (old new : List LostRequisite)
        → ((lack : Lack) → Contains lacks lack ↔ VerLacks v w lack)
        → new ≡ old ++ map (λ lack. a_lost_requisite x y lack) lacks → Gains (IsLackOf c x y) old new
    lacks_gained lacks old new are made =
        gains_alike (Contains (map (λ lack. a_lost_requisite x y lack) lacks)) (IsLackOf c x y) old new (λ b. (
          λ h.
              let l = map_in (λ lack. a_lost_requisite x y lack) lacks b h in
              subst (IsLackOf c x y) l.2 (
                ap is_some at,
                ap is_some also,
                refl,
                refl,
                lacks_from l.0 ((are l.0).0 l.1),
              ),
          λ h. subst (Contains (map (λ lack. a_lost_requisite x y lack) lacks))
              (ap₂ (λ u z. a_lost_requisite u z b.lack) (sym h.2) (sym h.3))
              (in_map (λ lack. a_lost_requisite x y lack) lacks b.lack ((are b.lack).1 (lacks_to b.lack h.4))),
        )) (gains_list old new (map (λ lack. a_lost_requisite x y lack) lacks) made)

module _ (c : Choice) (x y : Id) (old : List LostRequisite) where
  pub no_lack_without : c x ≡ None → Gains (IsLackOf c x y) old old
  no_lack_without at = gains_nothing (IsLackOf c x y) old (λ b h. true≢false (sym h.0 ∙ ap is_some at))

  pub no_lack_of : c y ≡ None → Gains (IsLackOf c x y) old old
  no_lack_of at = gains_nothing (IsLackOf c x y) old (λ b h. true≢false (sym h.1 ∙ ap is_some at))

-- ---- elements

module _ (g : Global) (c : Choice) (x y : Id) where
  pub no_loss_of : (old : List LostElement) → is_some (c y) ≡ false → Gains (IsLossOf g c x y) old old
  no_loss_of old at = gains_nothing (IsLossOf g c x y) old (λ b h. true≢false (sym h.0 ∙ at))

  pub losses_gained : (old new : List LostElement) → IsInStream c y
      → Gains (OneOf (changes_of g y) (IsLostStatement g x y)) old new → Gains (IsLossOf g c x y) old new
  losses_gained old new there =
      gains_alike (OneOf (changes_of g y) (IsLostStatement g x y)) (IsLossOf g c x y) old new (λ b. (
        λ h. subst (IsLossOf g c x y) (sym h.2.1) (there, refl, refl, change_has g y h.0 h.1, h.2.0),
        λ h. back b h,
      ))
    where
      back : (b : LostElement) → IsLossOf g c x y b → OneOf (changes_of g y) (IsLostStatement g x y) b
      back b h =
          let of = change_found g y b.elem_type b.name h.3 in (
            of.0,
            of.1,
            (
              subst₂ (λ (t : ElemType) (m : Text). has_change g x t m ≡ false) (sym of.2) (sym of.3) h.4,
              ap₂ (λ u z. a_lost u z b.elem_type b.name) h.1 h.2 ∙ ap₂ (λ t m. a_lost x y t m) (sym of.2) (sym of.3),
            ),
          )
        where
          a_lost : Id → Id → ElemType → Text → LostElement
          a_lost u z t m = record { superseding = u; superseded = z; elem_type = t; name = m }

-- ---- of the whole stream

module _ (vers : VerChoice) (ids : List Id)
    (all : (x : Id) → Contains ids x ↔ IsInStream (choice vers) x) where
  supersedes_in_stream : (x y : Id) → Contains (sup_of (choice vers) x) y → IsInStream (choice vers) x
  supersedes_in_stream x y is = names_in_stream vers x y (sup_named (choice vers) x y is)

  pub all_lacks : (b : LostRequisite)
      → OneOf ids (λ x. OneOf (sup_of (choice vers) x) (IsLackOf (choice vers) x)) b ↔ IsLostRequisite (choice vers) b
  all_lacks b = (
    λ h. turned h.0 h.2.0 h.2.1 h.2.2,
    λ h.
        let x = b.superseding in
        let there = supersedes_in_stream x b.superseded h.0.1 in
        (x, (all x).1 there, (b.superseded, h.0.1, (there, h.0.0, refl, refl, h.1))),
  )
    where
      turned : (x y : Id) → Contains (sup_of (choice vers) x) y → IsLackOf (choice vers) x y b
          → IsLostRequisite (choice vers) b
      turned x y is h = (
        (
          subst (IsInStream (choice vers)) (sym h.3) h.1,
          subst₂ (λ u z. Contains (sup_of (choice vers) u) z) (sym h.2) (sym h.3) is,
        ),
        subst₂ (λ u z. Lacks (choice vers) u z b.lack) (sym h.2) (sym h.3) h.4,
      )

  pub all_losses : (b : LostElement)
      → OneOf ids (λ x. OneOf (sup_of (choice vers) x) (IsLossOf vers.global.now (choice vers) x)) b
      ↔ IsLostElement vers.global.now (choice vers) b
  all_losses b = (
    λ h. turned h.0 h.2.0 h.2.1 h.2.2,
    λ h.
        let x = b.superseding in
        let there = supersedes_in_stream x b.superseded h.0.1 in
        (x, (all x).1 there, (b.superseded, h.0.1, (h.0.0, refl, refl, h.1, h.2))),
  )
    where
      turned : (x y : Id) → Contains (sup_of (choice vers) x) y → IsLossOf vers.global.now (choice vers) x y b
          → IsLostElement vers.global.now (choice vers) b
      turned x y is h = (
        (
          subst (IsInStream (choice vers)) (sym h.2) h.0,
          subst₂ (λ u z. Contains (sup_of (choice vers) u) z) (sym h.1) (sym h.2) is,
        ),
        subst (λ z. has_change vers.global.now z b.elem_type b.name ≡ true) (sym h.2) h.3,
        subst (λ u. has_change vers.global.now u b.elem_type b.name ≡ false) (sym h.1) h.4,
      )
