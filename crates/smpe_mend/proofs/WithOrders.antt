-- The command after what is ordered was received, one id after the other.
use Rattle.std.proofs.Common.{◌≡◌, List, ◌∷◌, subst}
use Rattle.terms.specs.Types.{Id, Global, Bypass}
use Rattle.machine.specs.Outcome.{Line}
use Rattle.smpe_mend.specs.declared.action.Action.{Action}
use Rattle.smpe_mend.specs.Actions.{orders}
use Rattle.smpe_mend.specs.Runs.{Asked, IsOrdered, AreOrdered, IsBypassOf, Runs, RunsWith}

-- with one more id before the others
pub with_order : (g next : Global) (a : Asked) (x : Id) (xs : List Id) (bypass : Bypass) (lines : List Line)
    → IsOrdered a.zone.srel g x next → RunsWith next a xs bypass lines → RunsWith g a (x ∷ xs) bypass lines
with_order g next a x xs bypass lines ordered runs = record {
  global = runs.global;
  are_ordered = (next, ordered, runs.are_ordered);
  date = runs.date;
  new = runs.new;
  installs = runs.installs;
}

-- with the BYPASS and the orders of these actions
pub runs_of : (g : Global) (a : Asked) (actions : List Action) (bypass : Bypass) (lines : List Line) (xs : List Id)
    → xs ≡ orders actions → IsBypassOf actions bypass → RunsWith g a xs bypass lines → Runs g a actions lines
runs_of g a actions bypass lines xs are bypasses runs = record {
  global = runs.global;
  ordered = subst (λ l. AreOrdered a.zone.srel l g runs.global) are runs.are_ordered;
  bypass = bypass;
  bypasses = bypasses;
  date = runs.date;
  new = runs.new;
  installs = runs.installs;
}
