-- Why some candidates are not kept: the needs that stay open, and the causers. (Causers are this project's; SMP/E's
-- CAUSER SYSMOD report is their model.)
use Rattle.std.specs.Prelude.{◌≡◌, ◌⊎◌, List, [], ◌∷◌, Contains}
use Rattle.terms.specs.declared.codes.Test.{Test}
use Rattle.terms.specs.declared.codes.Test.TheVariants as test
use Rattle.terms.specs.declared.codes.NeedKind.{NeedKind}
use Rattle.terms.specs.declared.codes.NeedKind.TheVariants as need
use Rattle.terms.specs.Types.{Id}
use Rattle.terms.specs.Judging.{Judging}

-- the tests by their numbers, and the kinds of needs, in the order of reports
abbrev pub all_tests : List Test
all_tests =
    test.HeldBySystem ∷ test.HeldByUser ∷ test.ForbiddenByNpre ∷ test.OwnedByAnother ∷ test.Regression
    ∷ test.NothingToUpdate ∷ test.NotInTarget ∷ test.ChainDeleted ∷ test.InClash ∷ test.AlreadyAccepted
    ∷ test.HasDelete ∷
    test.OtherLevel ∷ test.SeveralFit ∷ []

abbrev pub all_needs : List NeedKind
all_needs = need.Fmid ∷ need.Pre ∷ need.Req ∷ need.Ifreq ∷ need.HoldError ∷ need.Orphan ∷ need.Elem ∷ need.Dep ∷ []

module _ (judging : Judging) (kept : List Id) where
  -- x is a candidate and not kept
  pub record HasFailed (x : Id) : Type 0 where
    pub cand : Contains judging.cands x
    pub not_kept : ¬ Contains kept x

  -- x needs z, and no kept candidate serves that need
  pub record IsOpenNeed (x : Id) (kind : NeedKind) (z : Id) : Type 0 where
    pub needs : judging.needs x kind z
    pub unserved : (y : Id) → Contains kept y → ¬ judging.serves kind y z

  -- x has failed, and the candidate y serves an open need of it
  pub record LeadsTo (x y : Id) : Type 0 where
    pub failed : HasFailed x
    pub cand : Contains judging.cands y
    pub serves : (kind : NeedKind) × (z : Id) × IsOpenNeed x kind z × judging.serves kind y z

  -- the steps lead from x to y
  abbrev pub LeadsThrough : Id → List Id → Id → Type 0
  LeadsThrough x [] y = x ≡ y
  LeadsThrough x (w ∷ ws) y = LeadsTo x w × LeadsThrough w ws y

  -- x has a need that no candidate serves
  abbrev pub HasBareNeed : Id → Type 0
  HasBareNeed x = (kind : NeedKind) × (z : Id) × judging.needs x kind z
      × ((y : Id) → Contains judging.cands y → ¬ judging.serves kind y z)

  -- A root has failed for a reason of its own: it is not eligible, or no candidate serves one of its needs.
  pub record IsRoot (x : Id) : Type 0 where
    pub failed : HasFailed x
    pub why : (¬ judging.eligible x) ⊎ HasBareNeed x

  -- y is a root that steps from x reach, or is x itself
  pub record IsCauser (x y : Id) : Type 0 where
    pub root : IsRoot y
    pub steps : List Id
    pub reaches : LeadsThrough x steps y
