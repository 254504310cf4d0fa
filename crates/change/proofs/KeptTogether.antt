-- What APPLY and ACCEPT keep may be installed together.
use Rattle.std.proofs.Common.{◌≡◌, ◌≢◌, ◌⊎◌, inl, inr, ◌∙◌, Bool, true, false, not, List, [], Option, None, Some}
use Rattle.std.proofs.Common.{Contains, IsTrue, IsSome, is_some, find, map, refl, sym, ap, subst, true≢false}
use Rattle.std.specs.Prelude.{◌↔◌, ◌&&◌, ◌||◌, ◌==◌}
use Rattle.std.specs.Option.{option_map_or}
use Rattle.std.specs.Str.{bytes_eq}
use Rattle.std.proofs.lemmas.Bool.{and_parts}
use Rattle.terms.proofs.ListMembers.{here}
use Rattle.terms.proofs.TextOrder.{same_or_not}
use Rattle.terms.specs.declared.kinds.ElemType.{ElemType}
use Rattle.terms.specs.declared.codes.NeedKind.TheVariants.{Fmid}
use Rattle.terms.specs.declared.codes.Test.TheVariants.{OwnedByAnother, NothingToUpdate}
use Rattle.terms.specs.Types.{Text, Id, type_number, Change, Sysmod, Global, Element, Zone}
use Rattle.terms.specs.Lookups.{at_most_one, is_in, IsZone, change_of, has_change, element_of, sysmod_of, is_received}
use Rattle.terms.specs.Lookups.{is_applied, is_supplied, is_nil, supby_of}
use Rattle.terms.specs.Choice.{counting, fmid_of, del_of}
use Rattle.terms.specs.Changes.{is_replacement, has_replacement, has_update}
use Rattle.terms.specs.Over.{IsOver, names, Reaches, Supersedes}
use Rattle.terms.specs.Global.{IsGlobal}
use Rattle.terms.specs.Deleted.{deletions, is_deleted, zone_less}
use Rattle.terms.specs.Tests.{Setting, view_of, owner_of, ShareElement, MayNotShare, has_candidate_base}
use Rattle.terms.specs.Tests.{PassesAlone, IsEligible}
use Rattle.terms.specs.Needs.{Needs}
use Rattle.terms.specs.Judged.{Stays}
use Rattle.terms.specs.Install.{Installation, TakesEffect, cleared}
use Rattle.terms.proofs.ChangedElements.{update_changes}
use Rattle.terms.proofs.Ids.{Contains_from_is_in}
use Rattle.terms.proofs.Walks.{reaches_or_not}
use Rattle.change.specs.Elements.{HasBases}
use Rattle.change.proofs.ChosenVers.{AreFor, counting_for, names_received, names_no_loop, fmid_function}
use Rattle.change.proofs.ChosenVers.{function_first}
use Rattle.change.proofs.FmidChains.{deleted_by_owner}
use Rattle.change.proofs.LessLookups.{deleted_by_one, element_stays, element_was, applied_was}

-- a change replaces or updates
pub replaces_or_updates : (g : Global) (x : Id) (type : ElemType) (name : Text) → IsTrue (has_change g x type name)
    → IsTrue (has_replacement g x type name) ⊎ IsTrue (has_update g x type name)
replaces_or_updates g x type name = by (change_of g x type name)
  where
    either : (b : Bool) → (b ≡ true) ⊎ (not b ≡ true)
    either true = inl refl
    either false = inr refl

    by : (o : Option Change) → is_some o ≡ true
        → (option_map_or (λ h. is_replacement h.action) o false ≡ true)
        ⊎ (option_map_or (λ h. not (is_replacement h.action)) o false ≡ true)
    by None has = absurd (true≢false (sym has))
    by (Some h) has = either (is_replacement h.action)

-- what replaces anything is received
pub replacement_received : (g : Global) (x : Id) (type : ElemType) (name : Text)
    → IsTrue (has_replacement g x type name) → IsTrue (is_received g x)
replacement_received g x type name has = by (sysmod_of g x) refl
  where
    by : (o : Option Sysmod) → sysmod_of g x ≡ o → is_some o ≡ true
    by None at = absurd (true≢false (sym has ∙ ap (λ o. option_map_or (λ h. is_replacement h.action)
        (find (λ h. (type_number h.elem_type == type_number type) && bytes_eq h.name name)
        (option_map_or (λ s. s.changes) o [])) false) at))
    by (Some s) at = refl

-- what is not supplied is not applied
pub unsupplied : (zone : Zone) (x : Id) → is_supplied zone x ≡ false → is_applied zone x ≡ false
unsupplied zone x = by (is_applied zone x)
  where
    by : (b : Bool) → (b || not (is_nil (supby_of zone x))) ≡ false → b ≡ false
    by true none = none
    by false none = refl

-- an install of what is kept in a setting
pub record InstallsKept (s : Setting) (ids : List Id) (i : Installation) : Type 0 where
  pub global : i.global ≡ s.global
  pub choice : i.choice ≡ s.choice
  pub zone : i.zone ≡ s.zone
  pub kept : i.kept ≡ ids

module _ (s : Setting) (survivors kept : List Id) (members : (x : Id) → Contains kept x ↔ Stays s survivors x) where
  pub kept_eligible : (x : Id) → Contains kept x → IsEligible s x
  kept_eligible x is = let stays = (members x).0 is in stays.1.eligible x stays.2

  -- InClash: what is kept and shares an element has one owner, and over orders it.
  pub kept_share : (x y : Id) → Contains kept x → Contains kept y → x ≢ y → ShareElement s.global x y
      → ¬ MayNotShare s x y
  kept_share x y of_x of_y other share apart =
      let first = kept_eligible x of_x in
      first.1 (first.0, (y, (kept_eligible y of_y).0, other, inr (inr (share, apart))))

  pub kept_owner : (x y : Id) → Contains kept x → Contains kept y → ShareElement s.global x y
      → owner_of s x ≡ owner_of s y
  kept_owner x y of_x of_y share = elim (same_or_not x y) [
    | inl same ↦ ap (owner_of s) same
    | inr other ↦ elim (same_or_not (owner_of s x) (owner_of s y)) [
      | inl one ↦ one
      | inr two ↦ absurd (kept_share x y of_x of_y other share (inl two))
    ]
  ]

  pub kept_ordered : (x y : Id) → Contains kept x → Contains kept y → x ≢ y → ShareElement s.global x y
      → ¬ ((¬ IsOver s.choice x y) × (¬ IsOver s.choice y x))
  kept_ordered x y of_x of_y other share neither = kept_share x y of_x of_y other share (inr neither)

  -- An FMID that is not applied is kept with what names it, since no zone less deletions has it applied.
  pub kept_fmid : IsZone s.zone → (x f : Id) → Contains kept x → fmid_of s.choice x ≡ Some f
      → is_applied s.zone f ≡ false → Contains kept f
  kept_fmid is_zone x f is at not_applied =
      let stays = (members x).0 is in
      let needs : Needs s survivors x Fmid f = record {
        of = (stays.1.eligible x stays.2).0.0.0;
        asks = subst (λ o. Contains (at_most_one o) f) (sym at) (here f []);
        not_bypassed = refl;
        not_met = applied_was s.global s.choice (deletions s.choice survivors) s.zone is_zone f not_applied;
      } in
      let server = stays.1.served x f Fmid stays.2 needs in
      (members f).1 (
        stays.0,
        stays.1,
        elim server.2 [
          | inl same ↦ subst (λ y. IsTrue (stays.0 y)) same server.1
          | inr over ↦ absurd (true≢false (sym over.0))
        ],
      )

  module _ (is_zone : IsZone s.zone) (is_global : IsGlobal s.global)
      (chosen : s.choice ≡ counting s.global s.zone s.cands)
      (not_applied : (x : Id) → Contains s.cands x → is_applied s.zone x ≡ false) where
    are : AreFor s.global s.zone.srel s.choice
    are = subst (AreFor s.global s.zone.srel) (sym chosen) (counting_for s.global s.zone s.cands)

    named : (x z : Id) → Contains (names s.choice x) z → Contains (map (λ s. s.id) s.global.sysmods) x
    named = names_received s.global s.zone.srel s.choice are

    no_loop : (x : Id) → ¬ Reaches (names s.choice) x x
    no_loop = names_no_loop s.global s.zone.srel s.choice are is_global.no_loop

    -- So over does order what is kept and shares an element.
    pub kept_over : (x y : Id) → Contains kept x → Contains kept y → x ≢ y → ShareElement s.global x y
        → IsOver s.choice x y ⊎ IsOver s.choice y x
    kept_over x y of_x of_y other share =
        let ids = map (λ s. s.id) s.global.sysmods in
        elim (reaches_or_not (names s.choice) ids named no_loop x y) [
          | inl over ↦ inl over
          | inr not_over ↦ elim (reaches_or_not (names s.choice) ids named no_loop y x) [
            | inl over ↦ inr over
            | inr apart ↦ absurd (kept_ordered x y of_x of_y other share (not_over, apart))
          ]
        ]

    -- ChainDeleted: no deletion of what is kept meets the owner of what is kept.
    pub kept_undeleted : (x : Id) → Contains kept x
        → is_deleted s.global s.choice (deletions s.choice kept) (owner_of s x) ≡ false
    kept_undeleted x is = by (is_deleted s.global s.choice (deletions s.choice kept) (owner_of s x)) refl
      where
        by : (b : Bool) → is_deleted s.global s.choice (deletions s.choice kept) (owner_of s x) ≡ b → b ≡ false
        by false at = refl
        by true at =
            let one = deleted_by_one s.global s.choice kept (owner_of s x) at in
            let deleted = deleted_by_owner s.global s.choice named no_loop (del_of s.choice one.0) x one.2 in
            let survives = (kept_eligible x is).0 in
            absurd (survives.1 (survives.0, (one.0, (kept_eligible one.0 one.1).0.0, deleted)))

    -- OwnedByAnother and NothingToUpdate: what a kept SYSMOD updates is there after the deletions, or comes with its
    -- FMID, which is kept.
    pub kept_base : (x : Id) (type : ElemType) (name : Text) → Contains kept x
        → IsTrue (has_update s.global x type name)
        → IsSome (element_of (zone_less s.global s.choice (deletions s.choice kept) s.zone) type name)
        ⊎ ((f : Id) × (fmid_of s.choice x ≡ Some f) × Contains kept f
        × IsTrue (has_replacement s.global f type name))
    kept_base x type name is updates = by (has_candidate_base s x type name) refl
      where
        passes : PassesAlone s x
        passes = (kept_eligible x is).0.0

        comes : (o : Option Id) → fmid_of s.choice x ≡ o
            → option_map_or (λ f. is_in s.cands f && has_replacement s.global f type name) o false ≡ true
            → (f : Id) × (fmid_of s.choice x ≡ Some f) × Contains kept f × IsTrue (has_replacement s.global f type name)
        comes None at has = absurd (true≢false (sym has))
        comes (Some f) at has =
            let both = and_parts (is_in s.cands f) (has_replacement s.global f type name) has in
            let base = kept_fmid is_zone x f is at (not_applied f (Contains_from_is_in s.cands f both.0)) in
            (f, at, base, both.1)

        own : (e : Element) → element_of (view_of s x) type name ≡ Some e → e.fmid ≡ owner_of s x
        own e found = elim (same_or_not e.fmid (owner_of s x)) [
          | inl same ↦ same
          | inr other ↦ absurd (passes.1 OwnedByAnother
              (e, (type, name, update_changes s.global x type name updates, found), other))
        ]

        there : (o : Option Element) → element_of (view_of s x) type name ≡ o
            → has_candidate_base s x type name ≡ false
            → IsSome (element_of (zone_less s.global s.choice (deletions s.choice kept) s.zone) type name)
        there None found none = absurd (passes.1 NothingToUpdate (type, name, updates, found, none))
        there (Some e) found none =
            let was = element_was s.global s.choice _ s.zone type name e found in
            element_stays s.global s.choice (deletions s.choice kept) s.zone type name e was.0 was.1
            (ap (is_deleted s.global s.choice (deletions s.choice kept)) (own e found) ∙ kept_undeleted x is)

        by : (b : Bool) → has_candidate_base s x type name ≡ b
            → IsSome (element_of (zone_less s.global s.choice (deletions s.choice kept) s.zone) type name)
            ⊎ ((f : Id) × (fmid_of s.choice x ≡ Some f) × Contains kept f
            × IsTrue (has_replacement s.global f type name))
        by true has = inr (comes (fmid_of s.choice x) refl has)
        by false none = inl (there (element_of (view_of s x) type name) refl none)

    -- An FMID that is received takes effect where it is kept, since nothing supersedes a function.
    pub fmid_first : (x f : Id) → fmid_of s.choice x ≡ Some f → IsTrue (is_received s.global f) → (y : Id)
        → ¬ Supersedes s.choice y f
    fmid_first x f at received =
        function_first s.global s.zone.srel s.choice are is_global.roles f
        (fmid_function s.global s.zone.srel s.choice are is_global.roles x f at received)

    -- The same of an install of what is kept.
    module _ (i : Installation) (of : InstallsKept s kept i) where
      in_kept : (x : Id) → Contains i.kept x → Contains kept x
      in_kept x is = subst (λ ids. Contains ids x) of.kept is

      cleared_is : cleared i ≡ zone_less s.global s.choice (deletions s.choice kept) s.zone
      cleared_is =
          ap (λ g. zone_less g i.choice (deletions i.choice i.kept) i.zone) of.global
          ∙ ap (λ c. zone_less s.global c (deletions c i.kept) i.zone) of.choice
          ∙ ap (λ ids. zone_less s.global s.choice (deletions s.choice ids) i.zone) of.kept
          ∙ ap (zone_less s.global s.choice (deletions s.choice kept)) of.zone

      pub install_over : (x y : Id) → Contains i.kept x → Contains i.kept y → x ≢ y → ShareElement i.global x y
          → IsOver i.choice x y ⊎ IsOver i.choice y x
      install_over x y of_x of_y other share =
          subst (λ c. IsOver c x y ⊎ IsOver c y x) (sym of.choice)
          (kept_over x y (in_kept x of_x) (in_kept y of_y) other (subst (λ g. ShareElement g x y) of.global share))

      pub install_base : (x : Id) (type : ElemType) (name : Text) → Contains i.kept x
          → IsTrue (has_update i.global x type name)
          → IsSome (element_of (cleared i) type name)
          ⊎ ((f : Id) × (fmid_of i.choice x ≡ Some f) × TakesEffect i f × IsTrue (has_replacement i.global f type name))
      install_base x type name is updates =
          elim (kept_base x type name (in_kept x is)
          (subst (λ g. IsTrue (has_update g x type name)) of.global updates)) [
            | inl there ↦ inl (subst (λ zone. IsSome (element_of zone type name)) (sym cleared_is) there)
            | inr base ↦ inr (
              base.0,
              subst (λ c. fmid_of c x ≡ Some base.0) (sym of.choice) base.1,
              record {
                kept = subst (λ ids. Contains ids base.0) (sym of.kept) base.2;
                first = λ y of_y other over. fmid_first x base.0 base.1
                    (replacement_received s.global base.0 type name base.3) y
                    (subst (λ c. Supersedes c y base.0) of.choice over);
              },
              subst (λ g. IsTrue (has_replacement g base.0 type name)) (sym of.global) base.3,
            )
          ]

      -- So each element that changes is there after the deletions, or is replaced.
      pub changed_base : HasBases i
      changed_base x type name effect changes =
          elim (replaces_or_updates i.global x type name changes) [
            | inl replaces ↦ inr (x, effect, replaces)
            | inr updates ↦ elim (install_base x type name effect.kept updates) [
              | inl there ↦ inl there
              | inr base ↦ inr (base.0, base.2, base.3)
            ]
          ]
