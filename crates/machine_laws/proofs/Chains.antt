-- The chains of what an APPLY or ACCEPT keeps: their candidates are kept too. So a kept SYSMOD's view leaves out no
-- more than the deletions of all that is kept, and these leave out no more than those of all survivors.
use Rattle.std.proofs.Common.{◌≡◌, ◌⊎◌, ◌∙◌, ℕ, zero, suc, Bool, true, false, List, [], ◌∷◌, Option, Some, None}
use Rattle.std.proofs.Common.{Contains, inl, inr, refl, sym, ap, subst, true≢false, IfSome, All, filter}
use Rattle.std.specs.Prelude.{◌+◌, ◌||◌, length}
use Rattle.std.specs.Option.{option_map_or}
use Rattle.std.specs.Str.{bytes_eq}
use Rattle.std.proofs.lemmas.Bool.{or_parts}
use Rattle.std.proofs.lemmas.List.Elements.{All-contains}
use Rattle.terms.proofs.ListMembers.{here_or, none_in, filter_in, flat_in, in_flat}
use Rattle.terms.specs.declared.kinds.ElemType.{ElemType}
use Rattle.terms.proofs.Searches.{All_find}
use Rattle.terms.specs.Types.{Text, Id, Entry, Element}
use Rattle.terms.specs.Lookups.{is_in, meets, is_applied, is_supplied, entry_of, supby_of, element_of, applied_ids}
use Rattle.terms.specs.Choice.{Choice, fmid_of, del_of}
use Rattle.terms.specs.Over.{chain_from, chain}
use Rattle.terms.specs.Deleted.{deletions, is_deleted, zone_less}
use Rattle.terms.specs.Tests.{Setting, view_of}
use Rattle.terms.specs.Needs.{zone_left}
use Rattle.terms.specs.Closed.{IsSupported}
use Rattle.terms.proofs.Ids.{Contains_from_is_in}
use Rattle.change.proofs.ChosenVers.{names_received, names_no_loop}
use Rattle.change.proofs.FmidChains.{chain_of}
use Rattle.change.proofs.KeptTogether.{kept_fmid}
use Rattle.machine_laws.proofs.Supplied.{fewer_applied, fewer_supplied, fewer_element}
use Rattle.machine_laws.proofs.Given.{Keeps, kept_survives, unapplied}
use Rattle.terms.proofs.Applied.{in_applied_ids}

-- What an FMID has whenever what names it has it, the chain has.
pub chain_has : (c : Choice) (P : Id → Type 0) → ((x f : Id) → P x → fmid_of c x ≡ Some f → P f) → (n : ℕ) (x y : Id)
    → P x → Contains (chain_from n c (Some x)) y → P y
chain_has c P handed zero x y has there = absurd (none_in y there)
chain_has c P handed (suc n) x y has there =
    elim (here_or x (chain_from n c (fmid_of c x)) y there) [
      | inl same ↦ subst P same has
      | inr later ↦ by (λ f. chain_has c P handed n f y) (fmid_of c x) refl later
    ]
  where
    empty : (n : ℕ) → Contains (chain_from n c None) y → ⊥
    empty zero none = none_in y none
    empty (suc n) none = none_in y none

    by : ((f : Id) → P f → Contains (chain_from n c (Some f)) y → P y) → (o : Option Id) → fmid_of c x ≡ o
        → Contains (chain_from n c o) y → P y
    by again None at later = absurd (empty n later)
    by again (Some f) at later = again f (handed x f has at) later

module _ (s : Setting) (survivors kept : List Id) (k : Keeps s survivors kept) where
  -- what the zone has applied is supported there
  pub was_supported : (x : Id) → is_applied s.zone x ≡ true → IsSupported s.choice s.zone x
  was_supported x on = All-contains (IsSupported s.choice s.zone) (applied_ids s.zone) x k.closed.supported
      (in_applied_ids s.zone x on)

  pub was_fmid : (x f : Id) → is_applied s.zone x ≡ true → fmid_of s.choice x ≡ Some f → is_applied s.zone f ≡ true
  was_fmid x f on at = subst (λ o. IfSome o (λ f. is_applied s.zone f ≡ true)) at (was_supported x on).fmid

  -- and so is each id that supersedes one
  pub was_supby : (z y : Id) → Contains (supby_of s.zone z) y → is_applied s.zone y ≡ true
  was_supby z y = by (entry_of s.zone z) refl
    where
      by : (o : Option Entry) → entry_of s.zone z ≡ o → Contains (option_map_or (λ e. e.supby) o []) y
          → is_applied s.zone y ≡ true
      by None at there = absurd (none_in y there)
      by (Some e) at there = All-contains (λ y. is_applied s.zone y ≡ true) e.supby y
          (All_find (λ (e : Entry). All (λ y. is_applied s.zone y ≡ true) e.supby) (λ e. bytes_eq e.id z)
          s.zone.entries e k.closed.supby at) there

  -- The chain of an FMID is part of the chain, so that what deletes the FMID deletes it.
  pub deleted_either : (dels : List Id) (x f : Id) → fmid_of s.choice x ≡ Some f
      → is_deleted s.global s.choice dels x ≡ (is_in dels x || is_deleted s.global s.choice dels f)
  deleted_either dels x f at = ap (λ ys. meets ys dels) (chain_of s.global s.choice
      (names_received s.global s.zone.srel s.choice k.vers)
      (names_no_loop s.global s.zone.srel s.choice k.vers k.global.no_loop) x
      ∙ ap (λ o. x ∷ chain_from (length s.global.sysmods + 1) s.choice o) at)

  pub undeleted_fmid : (dels : List Id) (x f : Id) → fmid_of s.choice x ≡ Some f
      → is_deleted s.global s.choice dels x ≡ false → is_deleted s.global s.choice dels f ≡ false
  undeleted_fmid dels x f at stays = (or_parts (is_in dels x) (is_deleted s.global s.choice dels f)
      (sym (deleted_either dels x f at) ∙ stays)).1

  -- The candidates in the chain of what is kept are kept, since the others in it are applied.
  chain_kept : (n : ℕ) (x y : Id) → Contains kept x → Contains (chain_from n s.choice (Some x)) y
      → Contains s.cands y → Contains kept y
  chain_kept n x y is there cand = elim (chain_has s.choice Settled settled n x y (inr is) there) [
    | inl on ↦ absurd (true≢false (sym on ∙ unapplied s survivors kept k y cand))
    | inr kept ↦ kept
  ]
    where
      Settled : Id → Type 0
      Settled z = (is_applied s.zone z ≡ true) ⊎ Contains kept z

      fmid : (z f : Id) → Contains kept z → fmid_of s.choice z ≡ Some f → (b : Bool) → is_applied s.zone f ≡ b
          → (is_applied s.zone f ≡ true) ⊎ Contains kept f
      fmid z f is at true on = inl on
      fmid z f is at false off = inr (kept_fmid s survivors kept k.members k.is_zone z f is at off)

      settled : (z f : Id) → (is_applied s.zone z ≡ true) ⊎ Contains kept z → fmid_of s.choice z ≡ Some f
          → (is_applied s.zone f ≡ true) ⊎ Contains kept f
      settled z f (inl on) at = inl (was_fmid z f on at)
      settled z f (inr is) at = fmid z f is at (is_applied s.zone f) refl

  -- So what its view leaves out, the kept set's deletions leave out.
  view_deletions : (x : Id) → Contains kept x → (z : Id)
      → Contains (deletions s.choice (filter (is_in s.cands) (chain s.global s.choice x))) z
      → Contains (deletions s.choice kept) z
  view_deletions x is z there =
      let from = flat_in (del_of s.choice) (filter (is_in s.cands) (chain s.global s.choice x)) z there in
      let member = filter_in (is_in s.cands) (chain s.global s.choice x) from.0 from.1 in
      in_flat (del_of s.choice) kept from.0 z
      (chain_kept (length s.global.sysmods + 1) x from.0 is member.0 (Contains_from_is_in s.cands from.0 member.1))
      from.2

  pub view_applied : (x y : Id) → Contains kept x
      → is_applied (zone_less s.global s.choice (deletions s.choice kept) s.zone) y ≡ true
      → is_applied (view_of s x) y ≡ true
  view_applied x y is = fewer_applied s.global s.choice s.zone k.is_zone _ (deletions s.choice kept)
      (view_deletions x is) y

  pub view_element : (x : Id) (type : ElemType) (name : Text) (e : Element) → Contains kept x
      → element_of (zone_less s.global s.choice (deletions s.choice kept) s.zone) type name ≡ Some e
      → element_of (view_of s x) type name ≡ Some e
  view_element x type name e is = fewer_element s.global s.choice s.zone k.is_zone _ (deletions s.choice kept)
      (view_deletions x is) type name e

  -- What all survivors' deletions leave, the kept set's leave.
  survivors_deletions : (z : Id) → Contains (deletions s.choice kept) z → Contains (deletions s.choice survivors) z
  survivors_deletions z there =
      let from = flat_in (del_of s.choice) kept z there in
      in_flat (del_of s.choice) survivors from.0 z (kept_survives s survivors kept k from.0 from.1) from.2

  pub left_applied_after : (y : Id) → is_applied (zone_left s survivors) y ≡ true
      → is_applied (zone_less s.global s.choice (deletions s.choice kept) s.zone) y ≡ true
  left_applied_after = fewer_applied s.global s.choice s.zone k.is_zone (deletions s.choice kept)
      (deletions s.choice survivors) survivors_deletions

  pub left_supplied_after : (z : Id) → is_supplied (zone_left s survivors) z ≡ true
      → is_supplied (zone_less s.global s.choice (deletions s.choice kept) s.zone) z ≡ true
  left_supplied_after = fewer_supplied s.global s.choice s.zone k.is_zone (deletions s.choice kept)
      (deletions s.choice survivors) survivors_deletions
