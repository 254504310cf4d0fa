-- Candidates that need only each other are all kept.
use Rattle.std.proofs.Common.{◌≡◌, inl, List, [], not, Contains, refl, sym, ap, subst, subst₂, get_or, arith}
use Rattle.std.proofs.lemmas.List.Elements.{Contains-get_or}
use Rattle.terms.specs.Types.{Id}
use Rattle.terms.specs.Judging.{Judging}
use Rattle.terms.specs.Kept.{SupportsItself}
use Rattle.terms.specs.Lookups.{IsRising, is_in}
use Rattle.terms.specs.Restore.{Restoring, restore_candidates, restore_judging}
use Rattle.terms.proofs.Ids.{Contains_from_is_in, is_in_from_Contains}
use Rattle.terms.proofs.Searches.{filter_none}
use Rattle.judge_system.specs.declared.failure.Failure.{Failure}
use Rattle.undo.specs.Whole.{GoesWhole}
use Rattle.smpe_service.specs.RestoreDecided.{IsRestoreDecided}

module _ (r : Restoring) (list cands : List Id) (rising : IsRising cands) (are : cands ≡ restore_candidates r list)
    (whole : GoesWhole r list cands) where
  abbrev judging : Judging
  judging = record (restore_judging r list) { cands = cands }

  supports : SupportsItself judging (is_in cands)
  supports = record {
    eligible = λ x on. (whole x (Contains_from_is_in cands x on)).0;
    served = λ x z kind on need.
        (z, is_in_from_Contains cands z ((whole x (Contains_from_is_in cands x on)).1 kind z need), inl refl);
  }

  pub all_kept : (kept : List Id) (failed : List (Id × Failure)) → kept ≡ cands → failed ≡ []
      → IsRestoreDecided r list cands kept failed
  all_kept kept failed same none = subst₂ (IsRestoreDecided r list cands) (sym same) (sym none) (record {
    rising = rising;
    members = λ x. (
      λ there. (is_in cands, supports, is_in_from_Contains cands x there),
      λ stays. subst (λ l. Contains l x) (sym are) (stays.1.eligible x stays.2).cand,
    );
    ids = sym (filter_none (λ x. not (is_in cands x)) cands
        (λ i d below. ap not (is_in_from_Contains cands (get_or cands i d) (Contains-get_or cands i d below))));
    failures = λ i d below. absurd (omega (arith, below));
  })
