-- Why a candidate is not kept is determined.
use Rattle.std.proofs.Common.{◌≡◌, ◌∙◌, List, filter, map, sym, ap}
use Rattle.std.proofs.Math.Path.{fun_ext}
use Rattle.std.specs.List.{flat_map}
use Rattle.terms.specs.declared.codes.NeedKind.{NeedKind}
use Rattle.terms.specs.declared.codes.Test.{Test}
use Rattle.terms.specs.Types.{Id}
use Rattle.terms.specs.Judging.{Judging}
use Rattle.machine.specs.Outcome.{Failure, OpenNeed}
use Rattle.terms.specs.Failures.{all_tests, all_needs}
use Rattle.machine.specs.Installing.{IsFailure}
use Rattle.machine_laws.proofs.Decided.{members_only}
use Rattle.terms.proofs.Booleans.{same_truth}

-- the needs by kind
abbrev pub needs_of : (NeedKind → List Id) → List OpenNeed
needs_of ids = flat_map (λ kind. map (λ z. record { kind = kind; id = z }) (ids kind)) all_needs

a_failure : List Test → List OpenNeed → List Id → Failure
a_failure tests needs causers = record { tests = tests; needs = needs; causers = causers }

module _ (judging : Judging) (kept : List Id) where
  pub failure_only : (x : Id) (f h : Failure) → IsFailure judging kept x f → IsFailure judging kept x h → f ≡ h
  unfolding a_failure
  failure_only x f h is is' =
      let fails : is.fails ≡ is'.fails = fun_ext (λ t. same_truth (is.fails t) (is'.fails t)
      (λ so. (is'.failed t).1 ((is.failed t).0 so)) (λ so. (is.failed t).1 ((is'.failed t).0 so))) in
      let ids : is.ids_of ≡ is'.ids_of = fun_ext (λ kind. members_only _ (is.ids_of kind) (is'.ids_of kind)
      (is.ids_rising kind) (is'.ids_rising kind) (is.are_open kind) (is'.are_open kind)) in
      ap (λ tests. a_failure tests f.needs f.causers)
      (is.tests ∙ ap (λ fails. filter fails all_tests) fails ∙ sym is'.tests)
      ∙ ap (λ needs. a_failure h.tests needs f.causers) (is.needs ∙ ap needs_of ids ∙ sym is'.needs)
      ∙ ap (λ causers. a_failure h.tests h.needs causers)
      (members_only _ f.causers h.causers is.causers_rising is'.causers_rising is.causers is'.causers)
