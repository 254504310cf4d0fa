-- No deletion of what an APPLY or ACCEPT keeps meets the chain of what is applied after it, and this chain is applied.
use Rattle.std.proofs.Common.{◌≡◌, ◌∙◌, Bool, true, false, List, Some, Contains, inl, inr}
use Rattle.std.proofs.Common.{refl, sym, subst, true≢false}
use Rattle.std.specs.Prelude.{◌+◌, length}
use Rattle.std.proofs.lemmas.Bool.{false_from_ne_true}
use Rattle.terms.proofs.ListMembers.{here, in_flat}
use Rattle.terms.specs.Types.{Text, Id, Zone}
use Rattle.terms.specs.Lookups.{is_applied}
use Rattle.terms.specs.Choice.{fmid_of, del_of}
use Rattle.terms.specs.Over.{chain_from, chain}
use Rattle.terms.specs.Deleted.{deletions, is_deleted}
use Rattle.terms.specs.Tests.{Setting}
use Rattle.terms.specs.Install.{HasInstalled}
use Rattle.change.proofs.ChosenVers.{names_received, names_no_loop}
use Rattle.change.proofs.FmidChains.{chain_of}
use Rattle.change.proofs.KeptTogether.{kept_fmid}
use Rattle.change.proofs.LessLookups.{deleted_by_one}
use Rattle.machine_laws.proofs.Supplied.{left_applied, applied_left, deleted_more}
use Rattle.machine_laws.proofs.Given.{Keeps, installing, eligible}
use Rattle.machine_laws.proofs.Chains.{chain_has, was_fmid, undeleted_fmid}
use Rattle.machine_laws.proofs.Effect.{fmid_effect, effect_applied, applied_either, applied_stays}

module _ (s : Setting) (survivors kept : List Id) (k : Keeps s survivors kept) where
  -- a SYSMOD is in its own chain
  pub in_chain : (x : Id) → Contains (chain s.global s.choice x) x
  in_chain x = subst (λ ids. Contains ids x)
      (sym (chain_of s.global s.choice (names_received s.global s.zone.srel s.choice k.vers)
      (names_no_loop s.global s.zone.srel s.choice k.vers k.global.no_loop) x))
      (here x (chain_from (length s.global.sysmods + 1) s.choice (fmid_of s.choice x)))

  -- ChainDeleted: no deletion of what is kept meets the chain of what is kept
  pub kept_undeleted : (x : Id) → Contains kept x → is_deleted s.global s.choice (deletions s.choice kept) x ≡ false
  kept_undeleted x is = false_from_ne_true (is_deleted s.global s.choice (deletions s.choice kept) x) (λ deleted.
      let one = deleted_by_one s.global s.choice kept x deleted in
      let survives = (eligible s survivors kept k x is).0 in
      survives.1 (survives.0, (one.0, (eligible s survivors kept k one.0 one.1).0.0, one.2)))

  -- where all of it delete nothing, no one does
  pub undeleted_by : (x y : Id) → is_deleted s.global s.choice (deletions s.choice kept) x ≡ false → Contains kept y
      → is_deleted s.global s.choice (del_of s.choice y) x ≡ false
  undeleted_by x y stays is = false_from_ne_true (is_deleted s.global s.choice (del_of s.choice y) x) (λ deleted.
      true≢false (sym (deleted_more s.global s.choice (del_of s.choice y) (deletions s.choice kept)
      (λ z there. in_flat (del_of s.choice) kept y z is there) x deleted) ∙ stays))

  module _ (bypassed : List (Id × Id)) (date : Text) (new : Zone)
      (installed : HasInstalled (installing s kept bypassed date) new) where
    pub applied_undeleted : (x : Id) → is_applied new x ≡ true
        → is_deleted s.global s.choice (deletions s.choice kept) x ≡ false
    applied_undeleted x on = elim (applied_either s survivors kept k bypassed date new installed x on) [
      | inl effect ↦ kept_undeleted x effect.kept
      | inr left ↦ (left_applied s.global s.choice s.zone k.is_zone (deletions s.choice kept) x left).1
    ]

    -- what was applied and is not deleted is applied
    pub undeleted_applied : (x : Id) → is_applied s.zone x ≡ true
        → is_deleted s.global s.choice (deletions s.choice kept) x ≡ false → is_applied new x ≡ true
    undeleted_applied x was stays = applied_stays s survivors kept k bypassed date new installed x
        (applied_left s.global s.choice s.zone k.is_zone (deletions s.choice kept) x was stays)

    -- FMIDs are applied
    pub fmid_applied : (x f : Id) → is_applied new x ≡ true → fmid_of s.choice x ≡ Some f → is_applied new f ≡ true
    fmid_applied x f on at = elim (applied_either s survivors kept k bypassed date new installed x on) [
      | inl effect ↦ by effect.kept (is_applied s.zone f) refl
      | inr left ↦ stays (was_fmid s survivors kept k x f
          (left_applied s.global s.choice s.zone k.is_zone (deletions s.choice kept) x left).0 at)
    ]
      where
        stays : is_applied s.zone f ≡ true → is_applied new f ≡ true
        stays was = undeleted_applied f was
            (undeleted_fmid s survivors kept k (deletions s.choice kept) x f at (applied_undeleted x on))

        by : Contains kept x → (b : Bool) → is_applied s.zone f ≡ b → is_applied new f ≡ true
        by is true was = stays was
        by is false off = effect_applied s survivors kept k bypassed date new installed f
            (fmid_effect s survivors kept k bypassed date x f at
            (kept_fmid s survivors kept k.members k.is_zone x f is at off))

    -- and so is the whole chain
    pub chain_applied : (x y : Id) → is_applied new x ≡ true → Contains (chain s.global s.choice x) y
        → is_applied new y ≡ true
    chain_applied x y on there = chain_has s.choice (λ z. is_applied new z ≡ true)
        (λ z f applied at. fmid_applied z f applied at) (length s.global.sysmods + 1) x y on there
