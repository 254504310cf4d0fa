-- APPLY and ACCEPT keep the peace: no applied function names an applied SYSMOD in NPRE, and nothing in the chain of
-- what is applied was deleted. What SUPBY names is applied.
use Rattle.std.proofs.Common.{◌≡◌, ◌∙◌, Bool, true, false, List, [], Option, Some, None, All, Contains, IsTrue, is_some}
use Rattle.std.proofs.Common.{get_or, inl, inr, refl, sym, ap, subst, true≢false, filter}
use Rattle.std.specs.Prelude.{slice_get, if◌then◌else◌, ◌&&◌, IsNone}
use Rattle.std.specs.Option.{option_map_or}
use Rattle.std.specs.Cmp.Lexicographic.{texts_ties}
use Rattle.std.specs.Str.{bytes_eq}
use Rattle.std.proofs.lemmas.Bool.{false_from_ne_true, and_from}
use Rattle.std.proofs.lemmas.Cmp.{nat_list_cmp_total}
use Rattle.std.proofs.lemmas.List.Elements.{All-contains, All-contains_itself}
use Rattle.terms.proofs.ListMembers.{none_in}
use Rattle.terms.proofs.Searches.{filter_none}
use Rattle.terms.proofs.TextOrder.{same_or_not}
use Rattle.terms.specs.declared.codes.Test.TheVariants.{ForbiddenByNpre}
use Rattle.terms.specs.Types.{Text, Id, Ver, Entry, Global, Zone, Selection, Bypass}
use Rattle.terms.specs.Lookups.{is_in, is_function, is_applied, entry_of, supby_of, delby_of, applied_ids}
use Rattle.terms.specs.Choice.{Choice, counting, npre_of, del_of}
use Rattle.terms.specs.Over.{chain}
use Rattle.terms.specs.Deleted.{deletions, is_deleted, is_taken_out}
use Rattle.terms.specs.Tests.{Setting}
use Rattle.terms.specs.Install.{Installation, cleared, HasInstalled, deleters, delby_after}
use Rattle.terms.specs.Closed.{IsAtPeace}
use Rattle.store_schema.specs.Forms.{HasSysmodForms}
use Rattle.machine.specs.Installing.{Decision}
use Rattle.machine_laws.proofs.Lists.{find_itself}
use Rattle.machine_laws.proofs.OperandForms.{HasVers, ver_forms}
use Rattle.machine_laws.proofs.AppliedIds.{applied_in_ids}
use Rattle.machine_laws.proofs.Installs.{IsInstall}
use Rattle.machine_laws.proofs.Supplied.{left_applied, left_supby}
use Rattle.machine_laws.proofs.Given.{Keeps, installing, eligible, kept_candidate, keeps, installed}
use Rattle.machine_laws.proofs.Chains.{was_supby, view_applied}
use Rattle.machine_laws.proofs.Effect.{applied_either, effect_applied}
use Rattle.machine_laws.proofs.Undeleted.{in_chain, undeleted_by, applied_undeleted, undeleted_applied, chain_applied}
use Rattle.machine_laws.proofs.Installable.{not_deleted}
use Rattle.terms.proofs.Applied.{in_applied_ids}
use Rattle.terms.proofs.Searches.{passes_some}

-- no SYSMOD names itself in NPRE
npre_others : (c : Choice) → HasVers c → (x : Id) → ¬ Contains (npre_of c x) x
npre_others c vers x = by (c x) refl
  where
    by : (o : Option Ver) → c x ≡ o → ¬ Contains (option_map_or (λ v. v.npre) o []) x
    by None at there = none_in x there
    by (Some v) at there = (vers x v at).1.npre.others there

module _ (s : Setting) (survivors kept : List Id) (k : Keeps s survivors kept) (bypassed : List (Id × Id)) (date : Text)
    (new : Zone) (installed : HasInstalled (installing s kept bypassed date) new) where
  abbrev i : Installation
  i = installing s kept bypassed date

  -- what was applied has no NPRE that was applied
  was_npre : (x y : Id) → is_function s.global x ≡ true → is_applied s.zone x ≡ true
      → Contains (npre_of s.choice x) y → is_applied s.zone y ≡ false
  was_npre x y function on names =
      let peace : IsAtPeace s.global s.choice s.zone x =
      All-contains (IsAtPeace s.global s.choice s.zone) (applied_ids s.zone) x k.closed.at_peace
      (in_applied_ids s.zone x on) in
      All-contains (λ y. is_applied s.zone y ≡ false) (npre_of s.choice x) y (peace.npre function) names

  abbrev left_was : (x : Id) → is_applied (cleared i) x ≡ true → is_applied s.zone x ≡ true
  left_was x left = (left_applied s.global s.choice s.zone k.is_zone (deletions s.choice kept) x left).0

  -- ForbiddenByNpre and InClash
  npre_unapplied : HasVers s.choice → (x y : Id) → is_function s.global x ≡ true → is_applied new x ≡ true
      → Contains (npre_of s.choice x) y → is_applied new y ≡ true → ⊥
  npre_unapplied vers x y function of_x names of_y =
      elim (applied_either s survivors kept k bypassed date new installed x of_x) [
        | inl effect ↦ elim (applied_either s survivors kept k bypassed date new installed y of_y) [
          | inl other ↦ both effect.kept other.kept
          | inr left ↦ (eligible s survivors kept k x effect.kept).0.0.1 ForbiddenByNpre
              (y, view_applied s survivors kept k x y effect.kept left, inl names)
        ]
        | inr left ↦ elim (applied_either s survivors kept k bypassed date new installed y of_y) [
          | inl other ↦ (eligible s survivors kept k y other.kept).0.0.1 ForbiddenByNpre
              (x, view_applied s survivors kept k y x other.kept left, inr (function, names))
          | inr too ↦ true≢false (sym (left_was y too) ∙ was_npre x y function (left_was x left) names)
        ]
      ]
    where
      both : Contains kept x → Contains kept y → ⊥
      both is other = elim (same_or_not x y) [
        | inl same ↦ npre_others s.choice vers x (subst (Contains (npre_of s.choice x)) (sym same) names)
        | inr apart ↦
            let first = eligible s survivors kept k x is in
            first.1 (first.0, (y, (eligible s survivors kept k y other).0, apart, inl names))
      ]

  -- what is applied was not deleted before
  was_undeleted : (x : Id) → is_applied new x ≡ true → is_some (delby_of s.zone x) ≡ false
  was_undeleted x on = elim (applied_either s survivors kept k bypassed date new installed x on) [
    | inl effect ↦ not_deleted s.global s.zone x
        (k.installable x (kept_candidate s survivors kept k x effect.kept))
    | inr left ↦
        let peace : IsAtPeace s.global s.choice s.zone x =
        All-contains (IsAtPeace s.global s.choice s.zone) (applied_ids s.zone) x k.closed.at_peace
        (in_applied_ids s.zone x (left_was x left)) in
        All-contains (λ y. IsNone (delby_of s.zone y)) (chain s.global s.choice x) x peace.chain
        (in_chain s survivors kept k x)
  ]

  -- nor does what is kept delete it
  undeleted_after : (x : Id) → is_applied new x ≡ true → deleters i x ≡ []
  undeleted_after x on =
      by (is_function s.global x && is_taken_out s.global s.choice (deletions s.choice kept) s.zone x)
    where
      no_cut : (y : Id) → Contains kept y → is_deleted s.global s.choice (del_of s.choice y) x ≡ false
      no_cut y is = undeleted_by s survivors kept k x y
          (applied_undeleted s survivors kept k bypassed date new installed x on) is

      unnamed : (y : Id) → Contains kept y → is_in (del_of s.choice y) x ≡ false
      unnamed y is = false_from_ne_true (is_in (del_of s.choice y) x) (λ names.
          true≢false (sym (passes_some (λ z. is_in (del_of s.choice y) z) (chain s.global s.choice x) x
          (in_chain s survivors kept k x) names) ∙ no_cut y is))

      by : (b : Bool) → (if b then filter (λ y. is_deleted s.global s.choice (del_of s.choice y) x) kept
          else filter (λ y. is_in (del_of s.choice y) x) kept) ≡ []
      by true = filter_none (λ y. is_deleted s.global s.choice (del_of s.choice y) x) kept
          (λ j d below. no_cut (get_or kept j d) (All-contains_itself kept j d below))
      by false = filter_none (λ y. is_in (del_of s.choice y) x) kept
          (λ j d below. unnamed (get_or kept j d) (All-contains_itself kept j d below))

  no_delby : (x : Id) → is_applied new x ≡ true → delby_of new x ≡ None
  unfolding delby_after
  no_delby x on = installed.delby x ∙ ap (λ b. if b then delby_of s.zone x else slice_get (deleters i x) 0)
      (was_undeleted x on)
      ∙ ap (λ ids. slice_get ids 0) (undeleted_after x on)

  pub peace_after : HasVers s.choice → (x : Id) → is_applied new x ≡ true → IsAtPeace s.global s.choice new x
  peace_after vers x on = record {
    npre = λ function j d below.
        let y = get_or (npre_of s.choice x) j d in
        false_from_ne_true (is_applied new y) (λ too. npre_unapplied vers x y function on
        (All-contains_itself (npre_of s.choice x) j d below) too);
    chain = λ j d below.
        let y = get_or (chain s.global s.choice x) j d in
        ap is_some (no_delby y (chain_applied s survivors kept k bypassed date new installed x y on
        (All-contains_itself (chain s.global s.choice x) j d below)));
  }

  pub supby_after : (z y : Id) → Contains (supby_of new z) y → is_applied new y ≡ true
  supby_after z y there = elim ((installed.supby z y).0 there) [
    | inl old ↦ left (left_supby s.global s.choice s.zone k.is_zone (deletions s.choice kept) z y old)
    | inr by ↦ effect_applied s survivors kept k bypassed date new installed y by.0
  ]
    where
      left : Contains (supby_of s.zone z) y
          × (is_taken_out s.global s.choice (deletions s.choice kept) s.zone y ≡ false) → is_applied new y ≡ true
      left old =
          let was = was_supby s survivors kept k z y old.0 in
          undeleted_applied s survivors kept k bypassed date new installed y was
          (false_from_ne_true (is_deleted s.global s.choice (deletions s.choice kept) y) (λ deleted.
          true≢false (sym (and_from (is_applied s.zone y)
          (is_deleted s.global s.choice (deletions s.choice kept) y) was deleted) ∙ old.1)))

module _ (g : Global) (zone : Zone) (related : Option Zone) (sel : Selection) (bypass : Bypass) (date : Text)
    (d : Decision) (new : Zone) (is : IsInstall g zone related sel bypass date d new) where
  abbrev found : (e : Entry) → Contains new.entries e → entry_of new e.id ≡ Some e
  found e there = find_itself nat_list_cmp_total (λ (e : Entry). e.id) bytes_eq texts_ties new.entries e
      is.installs.is_zone.entries there

  pub install_keeps_peace : All HasSysmodForms g.sysmods
      → All (IsAtPeace g (counting g zone is.decides.cands) new) (applied_ids new)
  install_keeps_peace sysmods = λ j e below.
      peace_after _ _ d.kept (keeps g zone related sel bypass date d new is) is.decides.bypassed date new
      (installed g zone related sel bypass date d new is) (ver_forms g sysmods zone is.decides.cands)
      (get_or (applied_ids new) j e)
      (applied_in_ids new is.installs.is_zone (get_or (applied_ids new) j e)
      (All-contains_itself (applied_ids new) j e below))

  pub install_keeps_supby : All (λ e. All (λ y. IsTrue (is_applied new y)) e.supby) new.entries
  install_keeps_supby = λ j e below.
      let at : Entry = get_or new.entries j e in
      let there = All-contains_itself new.entries j e below in
      λ m y within. supby_after _ _ d.kept (keeps g zone related sel bypass date d new is) is.decides.bypassed date new
      (installed g zone related sel bypass date d new is) at.id (get_or at.supby m y)
      (subst (λ o. Contains (option_map_or (λ (e : Entry). e.supby) o []) (get_or at.supby m y)) (sym (found at there))
      (All-contains_itself at.supby m y within))
