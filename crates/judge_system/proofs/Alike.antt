-- The numbered form of what is said of candidates is that of the command's own tests, needs, and what serves a need.
use Rattle.std.proofs.Common.{List, sym, ◌∙◌, true≢false}
use Rattle.std.specs.Prelude.{◌↔◌}
use Rattle.std.proofs.lemmas.Bool.{false_from_ne_true}
use Rattle.terms.specs.declared.codes.NeedKind.{NeedKind}
use Rattle.terms.specs.declared.codes.Test.{Test}
use Rattle.terms.specs.Types.{Id}
use Rattle.terms.proofs.Places.{contains_at}
use Rattle.solve.specs.System.{Need, System}
use Rattle.judge_system.specs.Said.{Said, IsEligible, Needs, Serves, IsSaid}
use Rattle.judge_system.specs.NumberedForm.{IsNumberedForm, NeedFor}

module _ (F : Id → Test → Type 0) (E : Id → Type 0) (N : Id → NeedKind → Id → Type 0)
    (S : NeedKind → Id → Id → Type 0) (s : Said) (h : IsSaid F E N S s) where
  eligible : (x : Id) → IsEligible s x ↔ E x
  eligible x = (
    λ e. (h.eligible x).1 (e.0, λ t f. true≢false (sym ((h.fails x t e.0).1 f) ∙ e.1 t)),
    λ e.
        let both = (h.eligible x).0 e in
        (both.0, λ t. false_from_ne_true (s.fails x t) (λ on. both.1 t ((h.fails x t both.0).0 on))),
  )

  need_for : (d : Need) (kind : NeedKind) (z : Id)
      → NeedFor (IsEligible s) (Needs s) (Serves s.superseded) s.cands d kind z → NeedFor E N S s.cands d kind z
  need_for d kind z is =
      let x = is.of.0 in
      let own = contains_at s.cands d.of x is.of.1 in
      let need = (h.needs x z kind own).0 is.of.2 in
      record {
        of = (x, is.of.1, need);
        any = λ n y at.
            let said = is.any n y at in
            let same = h.serves x y z kind own need (contains_at s.cands n y at) in
            (λ there. same.0 (said.0 there), λ by. said.1 (same.1 by));
      }

  pub numbered_as : (p : System) (needed : List (NeedKind × Id))
      → IsNumberedForm (IsEligible s) (Needs s) (Serves s.superseded) s.cands p needed
      → IsNumberedForm E N S s.cands p needed
  numbered_as p needed is = record {
    numbers = is.numbers;
    size = is.size;
    eligible = λ n x at.
        let said = is.eligible n x at in
        (λ on. (eligible x).0 (said.0 on), λ e. said.1 ((eligible x).1 e));
    lengths = is.lengths;
    needs = λ i d need at_d at_need. need_for d need.0 need.1 (is.needs i d need at_d at_need);
    all = λ n x z kind at need. is.all n x z kind at ((h.needs x z kind (contains_at s.cands n x at)).1 need);
    once = is.once;
  }
