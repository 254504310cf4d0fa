-- The bypassed requisites of the kept candidates, from those of all.
use Rattle.std.proofs.Common.{◌≡◌, List, Contains, filter, sym, subst}
use Rattle.std.specs.Prelude.{◌↔◌}
use Rattle.terms.specs.Types.{Id}
use Rattle.terms.specs.Lookups.{is_in}
use Rattle.terms.specs.Tests.{Setting}
use Rattle.terms.specs.Needs.{bypassed_ids}
use Rattle.machine.specs.Outcome.{Failure}
use Rattle.change.proofs.TakingEffect.{of_these}
use Rattle.smpe_service.specs.Decided.{IsDecided}

module _ (s : Setting) (kept : List Id) (failed : List (Id × Failure)) (decided : IsDecided s kept failed) where
  -- what is kept is a candidate
  pub kept_cand : (x : Id) → Contains kept x → Contains s.cands x
  kept_cand x h = let stays = (decided.are_decided.members x).0 h in (stays.1.eligible x stays.2).0.0.0

  pub bypassed_kept : (pairs : List (Id × Id))
      → ((x z : Id) → Contains pairs (x, z) ↔ (Contains s.cands x × Contains (bypassed_ids s x) z))
      → (found : List (Id × Id)) → found ≡ filter (λ p. is_in kept p.0) pairs
      → (x z : Id) → Contains found (x, z) ↔ (Contains kept x × Contains (bypassed_ids s x) z)
  bypassed_kept pairs all found is x z =
      let of = of_these kept pairs x z in (
        λ h. let m = of.0 (subst (λ ps. Contains {X = Id × Id} ps (x, z)) is h) in (m.0, ((all x z).0 m.1).1),
        λ h. subst (λ ps. Contains {X = Id × Id} ps (x, z)) (sym is) (of.1 (h.0, (all x z).1 (kept_cand x h.0, h.1))),
      )
