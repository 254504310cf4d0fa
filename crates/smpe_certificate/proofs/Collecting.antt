-- Facts that are collected place by place.
use Rattle.std.proofs.Common.{◌≡◌, ◌+◌, ℕ, Bool, List, [], ◌∷◌, ◌++◌, map, Some, Contains}
use Rattle.std.proofs.Common.{sym, ap, ◌∙◌, subst, arith, inl, inr, slice_get}
use Rattle.std.proofs.lemmas.Bool.{cases_eq}
use Rattle.std.proofs.lemmas.List.{map-append}
use Rattle.std.proofs.lemmas.List.Elements.{All-nil, All-push, Contains-append_left, Contains-push}
use Rattle.terms.specs.Types.{Id}
use Rattle.solve.specs.System.{holds}
use Rattle.solve.proofs.Choosing.{same_at}
use Rattle.solve.proofs.PassingElements.{clash}
use Rattle.judge_system.specs.declared.judged.Judged.{Judged}
use Rattle.judge_system.specs.declared.test_set.TestSet.{TestSet}
use Rattle.judge_system.specs.TestSets.{tests_of}
use Rattle.smpe_certificate.specs.declared.facts.IneligibleFact.{IneligibleFact}
use Rattle.smpe_certificate.specs.declared.facts.ServedFact.{ServedFact}
use Rattle.smpe_certificate.specs.ByNumber.{AreIneligible, IsIneligibleAt, IsServedAt, HasNoServer, AreServedFacts}

pub ineligible_start : (ids : List Id) (rows : List TestSet) → AreIneligible ids rows 0 []
ineligible_start ids rows = record {
  each = All-nil (IsIneligibleAt ids rows);
  all = λ n x set below at tests some. absurd (omega (arith, below));
}

pub ineligible_skip : (ids : List Id) (rows : List TestSet) (i : ℕ) (set : TestSet) (facts : List IneligibleFact)
    → slice_get rows i ≡ Some set → tests_of set ≡ [] → AreIneligible ids rows i facts
    → AreIneligible ids rows (i + 1) facts
ineligible_skip ids rows i set facts at none so_far = record {
  each = so_far.each;
  all = λ n x other below at_x at_other some. elim (cases_eq n i) [
    | inl same ↦ absurd (some (ap tests_of (same_at rows n i other set same at_other at) ∙ none))
    | inr apart ↦ so_far.all n x other (omega (arith, below, apart)) at_x at_other some
  ];
}

pub ineligible_add : (ids : List Id) (rows : List TestSet) (i : ℕ) (set : TestSet) (f : IneligibleFact)
    (facts new : List IneligibleFact)
    → slice_get ids i ≡ Some f.id → slice_get rows i ≡ Some set → Contains (tests_of set) f.test
    → new ≡ facts ++ f ∷ [] → AreIneligible ids rows i facts → AreIneligible ids rows (i + 1) new
ineligible_add ids rows i set f facts new at at_set test made so_far =
    let names : map (λ (g : IneligibleFact). g.id) (facts ++ f ∷ [])
    ≡ map (λ (g : IneligibleFact). g.id) facts ++ f.id ∷ [] = map-append (λ (g : IneligibleFact). g.id) facts (f ∷ [])
    in
    subst (AreIneligible ids rows (i + 1)) (sym made) (record {
      each = All-push (IsIneligibleAt ids rows) facts f so_far.each
          (record { place = i; set = set; at = at; tests = at_set; test = test });
      all = λ n x other below at_x at_other some. subst (λ xs. Contains xs x) (sym names) (elim (cases_eq n i) [
        | inl same ↦ subst (Contains (map (λ (g : IneligibleFact). g.id) facts ++ f.id ∷ []))
            (sym (same_at ids n i x f.id same at_x at)) (Contains-push (map (λ (g : IneligibleFact). g.id) facts) f.id)
        | inr apart ↦ Contains-append_left (map (λ (g : IneligibleFact). g.id) facts) (f.id ∷ []) x
            (so_far.all n x other (omega (arith, below, apart)) at_x at_other some)
      ]);
    })

pub served_start : (j : Judged) (flags : List Bool) → AreServedFacts j flags 0 []
served_start j flags = record {
  each = All-nil (λ f. (place : ℕ) × IsServedAt j flags place f);
  all = λ place need below at on some. absurd (omega (arith, below));
}

pub served_skip : (j : Judged) (flags : List Bool) (i : ℕ) (facts : List ServedFact) → HasNoServer j flags i
    → AreServedFacts j flags i facts → AreServedFacts j flags (i + 1) facts
served_skip j flags i facts none so_far = record {
  each = so_far.each;
  all = λ place need below at on some. elim (cases_eq place i) [
    | inl same ↦ absurd (clash (holds flags) need.any some
        (none need (subst (λ k. slice_get j.system.needs k ≡ Some need) same at) on))
    | inr apart ↦ so_far.all place need (omega (arith, below, apart)) at on some
  ];
}

pub served_add : (j : Judged) (flags : List Bool) (i : ℕ) (f : ServedFact) (facts new : List ServedFact)
    → IsServedAt j flags i f → new ≡ facts ++ f ∷ [] → AreServedFacts j flags i facts
    → AreServedFacts j flags (i + 1) new
served_add j flags i f facts new is made so_far = subst (AreServedFacts j flags (i + 1)) (sym made) (record {
  each = All-push (λ g. (place : ℕ) × IsServedAt j flags place g) facts f so_far.each (i, is);
  all = λ place need below at on some. elim (cases_eq place i) [
    | inl same ↦ (f, Contains-push facts f, subst (λ k. IsServedAt j flags k f) (sym same) is)
    | inr apart ↦
        let found = so_far.all place need (omega (arith, below, apart)) at on some in
        (found.0, Contains-append_left facts (f ∷ []) found.0 found.1, found.2)
  ];
})
