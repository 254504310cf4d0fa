-- What is known of the actions up to a place.
use Rattle.std.proofs.Common.{◌≡◌, ◌<◌, ◌≤◌, ◌+◌, ◌-◌, ◌++◌, ℕ, List, length, take, drop, subst, sym, ap, ◌∙◌, inl, inr}
use Rattle.std.proofs.Common.{arith}
use Rattle.std.proofs.Common.{length-append, length-drop}
use Rattle.std.specs.Prelude.{min}
use Rattle.std.proofs.lemmas.List.{length-take-le}
use Rattle.std.proofs.lemmas.Bool.{cases_eq}
use Rattle.terms.specs.Types.{Global}
use Rattle.machine.specs.Outcome.{Line}
use Rattle.smpe_mend.specs.declared.leaving_out.Course.{Course}
use Rattle.smpe_mend.specs.declared.action.Action.{Action}
use Rattle.smpe_mend.specs.Runs.{Asked, DoesNot}
use Rattle.smpe_mend.specs.Growth.{Repairs}
use Rattle.smpe_mend.specs.Mends.{without}
use Rattle.smpe_mend.specs.Courses.{less, IsNext}

-- without any single one of the first n the command does not do it
abbrev pub AreNeeded : Global → Asked → ℕ → List Action → Type 0
AreNeeded g a n actions = (i : ℕ) → i < n → (lines : List Line) × DoesNot g a (without i actions) lines

-- after groups of this size: there are no more actions than at first, and if none was left out one by one, those up to
-- the place are needed
pub record IsGone (g : Global) (a : Asked) (size all : ℕ) (c : Course) : Type 0 where
  pub repairs : Repairs g a c.tried
  pub least : length c.tried.actions.items ≤ all
  pub needed : size ≡ 1 → length c.tried.actions.items ≡ all → AreNeeded g a c.place c.tried.actions.items

length_less : (actions : List Action) (i j : ℕ) → i ≤ j → j ≤ length actions
    → length (take i actions ++ drop j actions) + j ≡ length actions + i
length_less actions i j order within =
    let front : length (take i actions) ≡ i = length-take-le i actions (omega arith) in
    omega (arith, front, length-append (take i actions) (drop j actions), length-drop j actions)

module _ (g : Global) (a : Asked) (size all : ℕ) (c next : Course) (end : ℕ) (some : 0 < size)
    (below : c.place < length c.tried.actions.items)
    (end_is : end ≡ c.place + min size (length c.tried.actions.items - c.place)) where
  after : c.place < end
  after = omega (arith, end_is)

  within : end ≤ length c.tried.actions.items
  within = omega (arith, end_is)

  one : size ≡ 1 → end ≡ c.place + 1
  one is = omega (arith, end_is)

  pub gone_next : IsGone g a size all c → IsNext g a c end next → IsGone g a size all next
  gone_next gone (repairs, inl (place, left)) =
      let shorter = length_less c.tried.actions.items c.place end (omega (arith, after)) within in
      let same : length next.tried.actions.items ≡ length (less c end) = ap length left in
      record {
        repairs = repairs;
        least = omega (arith, gone.least, shorter, same, after);
        needed = λ is all_is i before. absurd (omega (arith, gone.least, shorter, same, after, all_is));
      }
  gone_next gone (repairs, inr (place, left, fails)) =
      let same : length next.tried.actions.items ≡ length c.tried.actions.items = ap length left in
      record {
        repairs = repairs;
        least = omega (arith, gone.least, same);
        needed = λ is all_is i before. subst (λ actions. (lines : List Line) × DoesNot g a (without i actions) lines)
            (sym left)
            (elim (cases_eq i c.place) [
              | inl here ↦ subst (λ n. (lines : List Line) × DoesNot g a n lines)
                  (ap (λ e. take c.place c.tried.actions.items ++ drop e c.tried.actions.items) (one is)
                  ∙ ap (λ k. without k c.tried.actions.items) (sym here)) fails
              | inr other ↦ gone.needed is (omega (arith, same, all_is)) i
                  (omega (arith, other, before, place, one is))
            ]);
      }

  pub goes_on : IsNext g a c end next
      → length next.tried.actions.items - next.place < length c.tried.actions.items - c.place
  goes_on (repairs, inl (place, left)) =
      let shorter = length_less c.tried.actions.items c.place end (omega (arith, after)) within in
      let same : length next.tried.actions.items ≡ length (less c end) = ap length left in
      omega (arith, shorter, same, after, place, below)
  goes_on (repairs, inr (place, left, fails)) =
      let same : length next.tried.actions.items ≡ length c.tried.actions.items = ap length left in
      omega (arith, same, after, place, below)
