-- Statements that write rows, one item after the other.
use Rattle.std.proofs.Common.{◌≡◌, List, ◌++◌}
use Rattle.std.proofs.Common.{Result, Ok, Err, IsErr, IsErrAnd, refl, sym, subst}
use Rattle.sqlite.specs.Store.{Ghosts}
use Rattle.sqlite.specs.declared.error.Error.{Error}
use Rattle.sqlite.specs.Held.{Held}
use Rattle.store_rows.specs.Inside.{StaysInside}
use Rattle.store_rows.specs.Calls.{Call, RunsInside}
use Rattle.store_rows.proofs.CallLemmas.{follows_err, runs_then, runs_err}

fails : {X : Type 0} (q : Result X Error) (e : Error) → q ≡ Err e → IsErr q
fails q e is = subst IsErr (sym is) refl

module _ {S : Type 0} (g : Ghosts S) where
  -- the first statements ran, and one of these failed
  pub runs_stops : {X Y : Type 0} (xs ys : List Call) (a b : Held S) (q : Result X Error) (e : Error)
      (r : Result Y Error)
      → q ≡ Err e → IsErrAnd r (λ z. z ≡ e) → RunsInside g xs a b q → RunsInside g (xs ++ ys) a b r
  runs_stops xs ys a b q e r failed told first =
      runs_err g xs ys a b q r (fails q e failed) (follows_err q e r failed told) first

  -- some that ran, and more of them
  pub runs_rest : {Y : Type 0} (xs ys : List Call) (a b c : Held S) (r : Result Y Error) → StaysInside g a b
      → StaysInside g b c → RunsInside g xs a b {X = Unit} (Ok (tt {0})) → RunsInside g ys b c r
      → RunsInside g (xs ++ ys) a c r
  runs_rest xs ys a b c r one two first then =
      runs_then g xs ys a b c (Ok (tt {0})) (tt {0}) r one two refl first then
