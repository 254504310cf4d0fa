-- What candidates fail before clashes: the tests that their faults say.
use Rattle.std.proofs.Common.{◌≡◌, ◌≢◌, Bool, true, false, not, List, [], ◌∷◌, Option, None, Some, IsTrue}
use Rattle.std.proofs.Common.{refl, sym, ap, ◌∙◌, subst, true≢false, filter, find, Contains}
use Rattle.std.specs.Prelude.{◌↔◌, ◌&&◌, is_some}
use Rattle.std.specs.List.{list_any}
use Rattle.std.specs.Option.{option_map_or}
use Rattle.std.specs.Str.{bytes_eq}
use Rattle.std.proofs.lemmas.Bool.{and_parts, false_from_ne_true, not_from_false, not-true}
use Rattle.std.proofs.lemmas.Cmp.{tied_itself}
use Rattle.std.proofs.lemmas.List.Folds.{Any-from_list_any, list_any-from_Any}
use Rattle.terms.specs.declared.kinds.ElemType.{ElemType}
use Rattle.terms.specs.declared.kinds.HoldKind.TheVariants.{System, User}
use Rattle.terms.specs.declared.kinds.ZoneKind.{ZoneKind}
use Rattle.terms.specs.declared.kinds.ZoneKind.TheVariants.{Target, Distribution}
use Rattle.terms.specs.declared.codes.Test.{Test}
use Rattle.terms.specs.declared.codes.Test.TheVariants.{HeldBySystem, HeldByUser, ForbiddenByNpre, OwnedByAnother}
use Rattle.terms.specs.declared.codes.Test.TheVariants.{Regression, NothingToUpdate, NotInTarget, ChainDeleted}
use Rattle.terms.specs.declared.codes.Test.TheVariants.{InClash, AlreadyAccepted, HasDelete, OtherLevel, SeveralFit}
use Rattle.terms.specs.Types.{Text, Id, Change, Element, Global, Zone, is_distribution}
use Rattle.terms.specs.Lookups.{change_key, changes_of, change_of, element_cmp, element_of, holds_of}
use Rattle.terms.specs.Lookups.{is_applied}
use Rattle.terms.specs.Rising.{Rises}
use Rattle.terms.specs.Choice.{fmid_of}
use Rattle.terms.specs.Changes.{is_replacement, has_update}
use Rattle.terms.specs.Lookups.{element_eq}
use Rattle.terms.specs.Global.{IsGlobal}
use Rattle.terms.specs.Tests.{Setting, view_of, owner_of, is_bypassed_hold, ChangesInView}
use Rattle.terms.specs.Tests.{IsHeldBySystem, IsHeldByUser, ChangesOwnedByAnother, Regresses}
use Rattle.terms.specs.Tests.{HasNothingToUpdate, IsNotInTarget, IsChainDeleted, IsInClash}
use Rattle.terms.specs.Tests.{FailsAlone, PassesAlone, Fails, Survives, has_candidate_base}
use Rattle.terms.proofs.ElementOrder.{element_cmp_total, element_ties}
use Rattle.terms.proofs.RisingLists.{find_there, Splits_around}
use Rattle.terms.proofs.ListMembers.{here, none_in, filter_in, in_filter, parts}
use Rattle.terms.proofs.TextOrder.{same_from, same_itself}
use Rattle.terms.proofs.ChangedElements.{change_there, change_found, change_has, changes_rise}
use Rattle.terms.proofs.Booleans.{false_from_not}
use Rattle.terms.proofs.Options.{None_from_is_some}
use Rattle.judge_faults.specs.declared.own.OwnFaults.{OwnFaults}
use Rattle.judge_faults.specs.Own.{is_owned_by_another, has_nothing_to_update, HasFaults, passes_alone, passes}
use Rattle.judge_faults.specs.Rows.{fails_test}

off : (b : Bool) → ¬ IsTrue b → not b ≡ true
off b lacks = not_from_false b (false_from_ne_true b lacks)

bytes_apart : (x y : Id) → not (bytes_eq x y) ≡ true → x ≢ y
bytes_apart x y e same = true≢false (sym (subst (λ z. bytes_eq x z ≡ true) same (same_itself x))
    ∙ not-true (bytes_eq x y) e)

pub bytes_differ : (x y : Id) → x ≢ y → not (bytes_eq x y) ≡ true
bytes_differ x y other = off (bytes_eq x y) (λ same. other (same_from x y same))

-- some item passes where the filter leaves one
any_left : {X : Type 0} (p : X → Bool) (xs : List X) → IsTrue (list_any p xs) ↔ (filter p xs ≢ [])
any_left {X} p xs = (
  λ any none.
      let a = Any-from_list_any p xs any in
      none_in a.1 (subst (λ l. Contains l a.1) none (in_filter p xs a.1 (a.0, a.2, a.3) a.4)),
  λ some. by (filter p xs) refl some,
)
  where
    by : (l : List X) → filter p xs ≡ l → filter p xs ≢ [] → list_any p xs ≡ true
    by [] e some = absurd (some e)
    by (y ∷ ys) e some =
        let f = filter_in p xs y (subst (λ l. Contains l y) (sym e) (here y ys)) in
        list_any-from_Any p xs (f.0.0, y, f.0.1, f.0.2, f.1)

-- the statement about an element is the one that is found
pub change_own : (g : Global) → IsGlobal g → (x : Id) (h : Change) → Contains (changes_of g x) h
    → change_of g x h.elem_type h.name ≡ Some h
change_own g is_global x h of =
    let p = parts (changes_of g x) h of in
    let tie = tied_itself element_cmp_total (change_key h) in
    ap (find (λ k. element_eq (change_key k) (change_key h))) p.2
    ∙ find_there element_cmp_total change_key element_eq element_ties (change_key h) p.0 p.1 h
    (Splits_around element_cmp_total change_key (change_key h) p.0 p.1 h
    (subst (Rises element_cmp change_key) p.2 (changes_rise g x is_global)) tie) tie

distribution_from : (k : ZoneKind) → is_distribution k ≡ true → k ≡ Distribution
distribution_from Target e = absurd (true≢false (sym e))
distribution_from Distribution e = refl

-- whether the related target zone has it applied
abbrev has_applied : Option Zone → Id → Bool
has_applied related x = option_map_or (λ target. is_applied target x) related false

-- an update is one of its statements
update_found : (g : Global) (x : Id) (type : ElemType) (name : Text) → IsTrue (has_update g x type name)
    → (h : Change) × Contains (changes_of g x) h × (h.elem_type ≡ type) × (h.name ≡ name)
    × (not (is_replacement h.action) ≡ true)
update_found g x type name updates = by (change_of g x type name) refl
  where
    by : (o : Option Change) → change_of g x type name ≡ o → (h : Change) × Contains (changes_of g x) h
        × (h.elem_type ≡ type) × (h.name ≡ name) × (not (is_replacement h.action) ≡ true)
    by None e = absurd (true≢false (sym updates ∙ ap (λ o. option_map_or (λ h. not (is_replacement h.action)) o
        false) e))
    by (Some h) e =
        let t = change_there g x type name h e in
        (h, t.0, t.1, t.2, sym (ap (λ o. option_map_or (λ h. not (is_replacement h.action)) o false) e) ∙ updates)

module _ (s : Setting) (is_global : IsGlobal s.global) where
  abbrev g : Global
  g = s.global

  module _ (x : Id) (in_ids : Contains s.cands x) where
    abbrev seen : Zone
    seen = view_of s x

    -- it changes an element of its view
    from_view : (e : Element) → ChangesInView s x e
        → (h : Change) × Contains (changes_of g x) h × (element_of seen h.elem_type h.name ≡ Some e)
    from_view e (type, name, has, at) =
        let found = change_found g x type name has in (
          found.0,
          found.1,
          ap (λ t. element_of seen t found.0.name) found.2 ∙ ap (λ n. element_of seen type n) found.3 ∙ at,
        )

    in_view : (h : Change) (e : Element) → Contains (changes_of g x) h → element_of seen h.elem_type h.name ≡ Some e
        → ChangesInView s x e
    in_view h e of at = (h.elem_type, h.name, change_has g x h of, at)

    module _ (a : OwnFaults) (own : HasFaults s x a) where
      one : IsTrue a.held_by_system ↔ IsHeldBySystem s x
      one = rw own.held_by_system (any_left (λ h. not (is_bypassed_hold s.bypass h)) (holds_of g System x))

      two : IsTrue a.held_by_user ↔ IsHeldByUser s x
      two = rw own.held_by_user (any_left (λ h. not (is_bypassed_hold s.bypass h)) (holds_of g User x))

      foreign_at : (h : Change) → is_owned_by_another seen (owner_of s x) h ≡ true
          → (e : Element) × (element_of seen h.elem_type h.name ≡ Some e) × (e.fmid ≢ owner_of s x)
      foreign_at h foreign = by (element_of seen h.elem_type h.name) refl
        where
          by : (o : Option Element) → element_of seen h.elem_type h.name ≡ o
              → (e : Element) × (element_of seen h.elem_type h.name ≡ Some e) × (e.fmid ≢ owner_of s x)
          by None e = absurd (true≢false (sym foreign ∙ ap (λ o. option_map_or (λ e. not (bytes_eq e.fmid
              (owner_of s x))) o false) e))
          by (Some v) e = (
            v,
            e,
            bytes_apart v.fmid (owner_of s x) (sym (ap (λ o. option_map_or (λ e. not (bytes_eq e.fmid
                (owner_of s x))) o false) e) ∙ foreign),
          )

      four : IsTrue a.owned_by_another ↔ ChangesOwnedByAnother s x
      four = (
        λ foreign.
            let any = Any-from_list_any (is_owned_by_another seen (owner_of s x)) (changes_of g x)
            (sym own.owned_by_another ∙ foreign) in
            let found = foreign_at any.1 any.4 in
            (found.0, in_view any.1 found.0 (any.0, any.2, any.3) found.1, found.2),
        λ fails.
            let t = from_view fails.0 fails.1 in
            own.owned_by_another ∙ list_any-from_Any (is_owned_by_another seen (owner_of s x)) (changes_of g x) (
              t.1.0,
              t.0,
              t.1.1,
              t.1.2,
              ap (λ o. option_map_or (λ e. not (bytes_eq e.fmid (owner_of s x))) o false) t.2
                  ∙ bytes_differ fails.0.fmid (owner_of s x) fails.2,
            ),
      )

      five : IsTrue a.regression ↔ Regresses s x
      five = (
        λ lower.
            let both = own.regression.0 lower in
            let any = both.1 in
            let e = any.4.0 in
            let z = any.4.2 in
            (both.0, (e, z.1, in_view any.1 e (any.0, any.2, any.3) any.4.1, (z.0, z.2, z.3), z.4)),
        λ fails.
            let e = fails.1.0 in
            let t = from_view e fails.1.2 in
            let z = fails.1.3 in
            own.regression.1
            (fails.0, (t.1.0, t.0, t.1.1, t.1.2, (e, t.2, (z.0, fails.1.1, z.1, z.2, fails.1.4)))),
      )

      six : IsTrue a.nothing_to_update ↔ HasNothingToUpdate s x
      six = (
        λ bare.
            let any = Any-from_list_any (has_nothing_to_update g seen s.cands (fmid_of s.choice x)) (changes_of g x)
            (sym own.nothing_to_update ∙ bare) in
            let h = any.1 in
            let p = and_parts (not (is_replacement h.action) && not (is_some (element_of seen h.elem_type h.name)))
            (not (has_candidate_base s x h.elem_type h.name)) any.4 in
            let q = and_parts (not (is_replacement h.action)) (not (is_some (element_of seen h.elem_type h.name))) p.0
            in (
              h.elem_type,
              h.name,
              ap (λ o. option_map_or (λ h. not (is_replacement h.action)) o false)
                  (change_own g is_global x h (any.0, any.2, any.3)) ∙ q.0,
              None_from_is_some (element_of seen h.elem_type h.name)
                  (false_from_not (is_some (element_of seen h.elem_type h.name)) q.1),
              not-true (has_candidate_base s x h.elem_type h.name) p.1,
            ),
        λ (type, name, updates, lacks, base).
            let u = update_found g x type name updates in
            let h = u.0 in
            let missing : element_of seen h.elem_type h.name ≡ None =
            ap (λ t. element_of seen t h.name) u.2 ∙ ap (λ n. element_of seen type n) u.3
            ∙ lacks in
            let no_base : has_candidate_base s x h.elem_type h.name ≡ false =
            ap (λ t. has_candidate_base s x t h.name) u.2 ∙ ap (λ n. has_candidate_base s x type n) u.3 ∙ base in
            own.nothing_to_update
            ∙ list_any-from_Any (has_nothing_to_update g seen s.cands (fmid_of s.choice x)) (changes_of g x) (
              u.1.0,
              h,
              u.1.1,
              u.1.2,
              ap (λ b. b && not (is_some (element_of seen h.elem_type h.name)) && not
                  (has_candidate_base s x h.elem_type h.name)) u.4
                  ∙ ap (λ o. not (is_some o) && not (has_candidate_base s x h.elem_type h.name)) missing
                  ∙ ap not no_base,
            ),
      )

      seven : IsTrue a.not_in_target ↔ IsNotInTarget s x
      seven = (
        λ unapplied.
            let p = and_parts (is_distribution s.zone.kind && not s.bypass.applycheck)
            (not (has_applied s.related x)) (sym own.not_in_target ∙ unapplied) in
            let q = and_parts (is_distribution s.zone.kind) (not s.bypass.applycheck) p.0 in (
              distribution_from s.zone.kind q.0,
              not-true s.bypass.applycheck q.1,
              not-true (has_applied s.related x) p.1,
            ),
        λ fails.
            own.not_in_target
            ∙ ap (λ k. is_distribution k && not s.bypass.applycheck && not (has_applied s.related x)) fails.0
            ∙ ap (λ b. not b && not (has_applied s.related x)) fails.1
            ∙ ap not fails.2,
      )

      -- it passes the tests that look at it by itself
      pub alone_if : IsTrue (passes_alone a) ↔ PassesAlone s x
      alone_if = (
        λ on.
            let w = and_parts (not a.held_by_system && not a.held_by_user && not a.forbidden_by_npre
            && not a.owned_by_another && not a.regression && not a.nothing_to_update && not a.not_in_target)
            (not a.several_fit) on in
            let p = and_parts (not a.held_by_system && not a.held_by_user && not a.forbidden_by_npre
            && not a.owned_by_another && not a.regression && not a.nothing_to_update) (not a.not_in_target) w.0 in
            let q = and_parts (not a.held_by_system && not a.held_by_user && not a.forbidden_by_npre
            && not a.owned_by_another && not a.regression) (not a.nothing_to_update) p.0 in
            let r = and_parts (not a.held_by_system && not a.held_by_user && not a.forbidden_by_npre
            && not a.owned_by_another) (not a.regression) q.0 in
            let t = and_parts (not a.held_by_system && not a.held_by_user && not a.forbidden_by_npre)
            (not a.owned_by_another) r.0 in
            let v = and_parts (not a.held_by_system && not a.held_by_user) (not a.forbidden_by_npre) t.0 in
            let u = and_parts (not a.held_by_system) (not a.held_by_user) v.0 in (
              in_ids,
              λ test. by test (not-true a.held_by_system u.0) (not-true a.held_by_user u.1)
                  (not-true a.forbidden_by_npre v.1) (not-true a.owned_by_another t.1) (not-true a.regression r.1)
                  (not-true a.nothing_to_update q.1) (not-true a.not_in_target p.1) (not-true a.several_fit w.1),
            ),
        λ alone.
            let no_one = off a.held_by_system (λ on. alone.1 HeldBySystem (one.0 on)) in
            let no_two = off a.held_by_user (λ on. alone.1 HeldByUser (two.0 on)) in
            let no_three = off a.forbidden_by_npre (λ on. alone.1 ForbiddenByNpre (own.forbidden_by_npre.0 on)) in
            let no_four = off a.owned_by_another (λ on. alone.1 OwnedByAnother (four.0 on)) in
            let no_five = off a.regression (λ on. alone.1 Regression (five.0 on)) in
            let no_six = off a.nothing_to_update (λ on. alone.1 NothingToUpdate (six.0 on)) in
            let no_seven = off a.not_in_target (λ on. alone.1 NotInTarget (seven.0 on)) in
            let no_thirteen = off a.several_fit (λ on. alone.1 SeveralFit (own.several_fit.0 on)) in
            rw (no_one, no_two, no_three, no_four, no_five, no_six, no_seven, no_thirteen) refl,
      )
        where
          by : (test : Test) → a.held_by_system ≡ false → a.held_by_user ≡ false → a.forbidden_by_npre ≡ false
              → a.owned_by_another ≡ false → a.regression ≡ false → a.nothing_to_update ≡ false
              → a.not_in_target ≡ false → a.several_fit ≡ false → ¬ FailsAlone s x test
          by HeldBySystem e1 e2 e3 e4 e5 e6 e7 e8 fails = true≢false (sym (one.1 fails) ∙ e1)
          by HeldByUser e1 e2 e3 e4 e5 e6 e7 e8 fails = true≢false (sym (two.1 fails) ∙ e2)
          by ForbiddenByNpre e1 e2 e3 e4 e5 e6 e7 e8 fails = true≢false (sym (own.forbidden_by_npre.1 fails) ∙ e3)
          by OwnedByAnother e1 e2 e3 e4 e5 e6 e7 e8 fails = true≢false (sym (four.1 fails) ∙ e4)
          by Regression e1 e2 e3 e4 e5 e6 e7 e8 fails = true≢false (sym (five.1 fails) ∙ e5)
          by NothingToUpdate e1 e2 e3 e4 e5 e6 e7 e8 fails = true≢false (sym (six.1 fails) ∙ e6)
          by NotInTarget e1 e2 e3 e4 e5 e6 e7 e8 fails = true≢false (sym (seven.1 fails) ∙ e7)
          by ChainDeleted e1 e2 e3 e4 e5 e6 e7 e8 fails = fails
          by InClash e1 e2 e3 e4 e5 e6 e7 e8 fails = fails
          by AlreadyAccepted e1 e2 e3 e4 e5 e6 e7 e8 fails = fails
          by HasDelete e1 e2 e3 e4 e5 e6 e7 e8 fails = fails
          by OtherLevel e1 e2 e3 e4 e5 e6 e7 e8 fails = fails
          by SeveralFit e1 e2 e3 e4 e5 e6 e7 e8 fails = true≢false (sym (own.several_fit.1 fails) ∙ e8)

      never : (T : Type 0) → ¬ T → IsTrue false ↔ T
      never T lacks = (λ e. absurd (true≢false (sym e)), λ t. absurd (lacks t))

      module _ (eight : IsTrue a.chain_deleted ↔ IsChainDeleted s x) where
        -- it has no faults where it survives
        pub survives_if : IsTrue (passes a) ↔ Survives s x
        survives_if = (
          λ on.
              let p = and_parts (passes_alone a) (not a.chain_deleted) on in
              (alone_if.0 p.0, λ fails. true≢false (sym (eight.1 fails) ∙ not-true a.chain_deleted p.1)),
          λ survives.
              let alone = alone_if.1 survives.0 in
              let no_eight = off a.chain_deleted (λ on. survives.1 (eight.0 on)) in
              ap (λ b. b && not a.chain_deleted) alone ∙ no_eight,
        )

        -- the tests that it fails, given whether it clashes
        pub test_fails : (clashes : Bool) → IsTrue clashes ↔ IsInClash s x → (t : Test)
            → IsTrue (fails_test a clashes t) ↔ Fails s x t
        test_fails clashes nine HeldBySystem = one
        test_fails clashes nine HeldByUser = two
        test_fails clashes nine ForbiddenByNpre = own.forbidden_by_npre
        test_fails clashes nine OwnedByAnother = four
        test_fails clashes nine Regression = five
        test_fails clashes nine NothingToUpdate = six
        test_fails clashes nine NotInTarget = seven
        test_fails clashes nine ChainDeleted = eight
        test_fails clashes nine InClash = nine
        test_fails clashes nine AlreadyAccepted = never (Fails s x AlreadyAccepted) (λ no. no)
        test_fails clashes nine HasDelete = never (Fails s x HasDelete) (λ no. no)
        test_fails clashes nine OtherLevel = never (Fails s x OtherLevel) (λ no. no)
        test_fails clashes nine SeveralFit = own.several_fit
