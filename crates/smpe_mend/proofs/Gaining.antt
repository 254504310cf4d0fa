-- Actions that gain new ones, one after the other.
use Rattle.std.proofs.Common.{◌≡◌, ◌<◌, ◌≤◌, ◌+◌, ◌++◌, ℕ, Bool, true, false, List, [], ◌∷◌, length, take, get_or, sym}
use Rattle.std.proofs.Common.{ap}
use Rattle.std.proofs.Common.{◌∙◌, refl, subst, cond, arith, All, IsTrue, length-append}
use Rattle.std.proofs.lemmas.List.{take_more}
use Rattle.std.proofs.lemmas.List.Elements.{All-nil, All-cons, All-append}
use Rattle.smpe_mend.specs.declared.action.Action.{Action}
use Rattle.smpe_mend.specs.Actions.{is_among, with_new}

-- either there are more than at first, or none of those that were seen was new
pub record HasGained (old now seen : List Action) : Type 0 where
  pub least : length old ≤ length now
  pub same : length now ≡ length old → now ≡ old
  pub none : length now ≡ length old → All (λ a. IsTrue (is_among old a)) seen

pub gained_none : (old : List Action) → HasGained old old []
gained_none old = record {
  least = omega arith;
  same = λ e. refl;
  none = λ e. All-nil (λ a. IsTrue (is_among old a));
}

gained : (old now next seen : List Action) (a : Action) → HasGained old now seen → (b : Bool) → is_among now a ≡ b
    → next ≡ cond b now (now ++ a ∷ []) → HasGained old next (seen ++ a ∷ [])
gained old now next seen a has true there is = record {
  least = omega (arith, has.least, ap length is);
  same = λ e. is ∙ has.same (sym (ap length is) ∙ e);
  none = λ e.
      let as_before : length now ≡ length old = sym (ap length is) ∙ e in
      All-append (λ x. IsTrue (is_among old x)) seen (a ∷ []) (has.none as_before)
      (All-cons (λ x. IsTrue (is_among old x)) a [] (ap (λ l. is_among l a) (sym (has.same as_before)) ∙ there)
      (All-nil (λ x. IsTrue (is_among old x))));
}
gained old now next seen a has false there is =
    let longer : length next ≡ length now + 1 = ap length is ∙ length-append now (a ∷ []) in
    record {
      least = omega (arith, has.least, longer);
      same = λ e. absurd (omega (arith, has.least, longer, e));
      none = λ e. absurd (omega (arith, has.least, longer, e));
    }

pub gained_more : (old now next more : List Action) (i : ℕ) (a : Action) → i < length more → a ≡ get_or more i a
    → next ≡ with_new now a → HasGained old now (take i more) → HasGained old next (take (i + 1) more)
gained_more old now next more i a below at is has =
    subst (HasGained old next) (ap (λ x. take i more ++ x ∷ []) at ∙ sym (take_more more i a below))
    (gained old now next (take i more) a has (is_among now a) refl is)
