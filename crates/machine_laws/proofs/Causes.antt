-- Why a candidate failed can be said: there is such a failure, it names a causer, and each causer failed a test itself
-- or has a need that no candidate serves.
use Rattle.std.proofs.Common.{◌≢◌, ◌⊎◌, inl, inr, List, [], ◌∷◌, Contains, filter, refl, sym, subst, arith}
use Rattle.std.specs.Prelude.{◌↔◌}
use Rattle.std.specs.Ordering.{nat_cmp}
use Rattle.std.specs.Cmp.Lexicographic.{slice_cmp}
use Rattle.std.proofs.lemmas.Cmp.{nat_list_cmp_total}
use Rattle.terms.proofs.ListMembers.{here, there, here_or, none_in, none_in_nil, in_filter}
use Rattle.terms.specs.declared.codes.NeedKind.{NeedKind}
use Rattle.terms.specs.declared.codes.Test.{Test}
use Rattle.terms.specs.declared.codes.Test.TheVariants as test
use Rattle.terms.specs.Types.{Id}
use Rattle.terms.specs.Lookups.{IsRising}
use Rattle.terms.specs.Rising.{with_item}
use Rattle.terms.specs.Judging.{Judging}
use Rattle.terms.specs.Kept.{StaysKept}
use Rattle.terms.specs.Failures.{HasFailed, IsOpenNeed, IsRoot, IsCauser, all_tests, all_needs}
use Rattle.terms.proofs.Placing.{Rises_with_item}
use Rattle.change.proofs.Gathered.{in_with_item}
use Rattle.machine.specs.Outcome.{Failure}
use Rattle.machine.specs.Installing.{IsFailure}
use Rattle.machine_laws.specs.Causers.{IsCause}
use Rattle.machine_laws.proofs.FailureAnswers.{needs_of}
use Rattle.machine_laws.proofs.Finitely.{all_stably, either_stably, is_so, so_exactly}
use Rattle.machine_laws.proofs.SomeCauser.{each_kind, some_causer}

pub each_test : (t : Test) → Contains all_tests t
each_test test.HeldBySystem = (0, omega arith, refl)
each_test test.HeldByUser = (1, omega arith, refl)
each_test test.ForbiddenByNpre = (2, omega arith, refl)
each_test test.OwnedByAnother = (3, omega arith, refl)
each_test test.Regression = (4, omega arith, refl)
each_test test.NothingToUpdate = (5, omega arith, refl)
each_test test.NotInTarget = (6, omega arith, refl)
each_test test.ChainDeleted = (7, omega arith, refl)
each_test test.InClash = (8, omega arith, refl)
each_test test.AlreadyAccepted = (9, omega arith, refl)
each_test test.HasDelete = (10, omega arith, refl)
each_test test.OtherLevel = (11, omega arith, refl)
each_test test.SeveralFit = (12, omega arith, refl)

-- the ids of a list that have a property, rising
pub record AreThose (P : Id → Type 0) (xs ids : List Id) : Type 0 where
  pub rising : IsRising ids
  pub members : (x : Id) → Contains ids x ↔ (Contains xs x × P x)

pub those_stably : (P : Id → Type 0) (xs : List Id) → ¬ ¬ ((ids : List Id) × AreThose P xs ids)
those_stably P [] refuted = refuted (
  [],
  record {
    rising = λ i j d less below. absurd (omega (arith, below));
    members = λ x. (λ is. absurd (none_in x is), λ is. absurd (none_in x is.0));
  },
)
those_stably P (x ∷ xs) refuted = those_stably P xs (λ found. either_stably (P x) (λ either. elim either [
  | inl has ↦ refuted (
    with_item (slice_cmp nat_cmp) (λ z. z) found.0 x,
    record {
      rising = Rises_with_item nat_list_cmp_total (λ z. z) found.0 x found.1.rising;
      members = λ y. (
        λ is. elim ((in_with_item found.0 x y).0 is) [
          | inl old ↦ let of_old = (found.1.members y).0 old in (there x xs y of_old.0, of_old.1)
          | inr same ↦ subst (λ z. Contains (x ∷ xs) z × P z) same (here x xs, has)
        ],
        λ is. (in_with_item found.0 x y).1 (elim (here_or x xs y is.0) [
          | inl same ↦ inr same
          | inr later ↦ inl ((found.1.members y).1 (later, is.1))
        ]),
      );
    },
  )
  | inr lacks ↦ refuted (
    found.0,
    record {
      rising = found.1.rising;
      members = λ y. (
        λ is. let of_old = (found.1.members y).0 is in (there x xs y of_old.0, of_old.1),
        λ is. elim (here_or x xs y is.0) [
          | inl same ↦ absurd (lacks (subst P (sym same) is.1))
          | inr later ↦ (found.1.members y).1 (later, is.1)
        ],
      );
    },
  )
]))

module _ (judging : Judging) (kept : List Id) where
  -- A candidate that fails no test is eligible.
  pub cause_of : (x : Id) (f : Failure)
      → ((x : Id) → Contains judging.cands x → ((t : Test) → ¬ judging.fails x t) → judging.eligible x)
      → IsFailure judging kept x f → IsRoot judging kept x → IsCause judging kept x f
  cause_of x f passes is root = elim root.why [
    | inl out ↦ inl (λ nil. out (passes x root.failed.cand (λ t fails.
        none_in_nil f.tests t nil (subst (λ ts. Contains ts t) (sym is.tests)
        (in_filter is.fails all_tests t (each_test t) ((is.failed t).1 fails))))))
    | inr bare ↦ inr bare
  ]

  -- What each needs of a kind stands in a list.
  module _ (asked : Id → NeedKind → List Id)
      (asks : (x z : Id) (kind : NeedKind) → judging.needs x kind z → Contains (asked x kind) z) where
    pub failure_stably : (x : Id) → ¬ ¬ ((f : Failure) × IsFailure judging kept x f)
    failure_stably x refuted =
        all_stably (λ t. judging.fails x t ⊎ (¬ judging.fails x t)) all_tests
        (λ t is. either_stably (judging.fails x t)) (λ fails.
        all_stably (λ kind. (ids : List Id) × AreThose (IsOpenNeed judging kept x kind) (asked x kind) ids) all_needs
        (λ kind is. those_stably _ (asked x kind)) (λ needed.
        those_stably (IsCauser judging kept x) judging.cands (λ causers.
        refuted (
          record {
            tests = filter (λ t. is_so (fails t (each_test t))) all_tests;
            needs = needs_of (λ kind. (needed kind (each_kind kind)).0);
            causers = causers.0;
          },
          record {
            fails = λ t. is_so (fails t (each_test t));
            tests = refl;
            failed = λ t. so_exactly (fails t (each_test t));
            ids_of = λ kind. (needed kind (each_kind kind)).0;
            needs = refl;
            ids_rising = λ kind. (needed kind (each_kind kind)).1.rising;
            are_open = λ kind z. (
              λ is. (((needed kind (each_kind kind)).1.members z).0 is).1,
              λ is. ((needed kind (each_kind kind)).1.members z).1 (asks x z kind is.needs, is),
            );
            causers_rising = causers.1.rising;
            causers = λ y. (
              λ is. ((causers.1.members y).0 is).1,
              λ is. (causers.1.members y).1 (is.root.failed.cand, is),
            );
          },
        ))))

    -- What is kept is the union of all sets that support themselves.
    module _ (are_cands : (x : Id) → judging.eligible x → Contains judging.cands x)
        (members : (x : Id) → Contains kept x ↔ StaysKept judging x) where
      pub names_causer : (x : Id) (f : Failure) → HasFailed judging kept x → IsFailure judging kept x f
          → f.causers ≢ []
      names_causer x f failed is nil =
          some_causer judging kept are_cands asked asks members x failed
          (λ y causer. none_in_nil f.causers y nil ((is.causers y).1 causer))
