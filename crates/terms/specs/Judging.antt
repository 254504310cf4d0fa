-- What a command judges its candidates by. APPLY and ACCEPT, and RESTORE, each have their own candidates, tests, eligible
-- ids, needs, and rule for what serves a need.
use Rattle.std.specs.Prelude.{List}
use Rattle.terms.specs.declared.codes.Test.{Test}
use Rattle.terms.specs.declared.codes.NeedKind.{NeedKind}
use Rattle.terms.specs.Types.{Id}

-- the candidates, which tests each fails, which of them are eligible, what each needs, and which ids serve a need
pub record Judging : Type 1 where
  pub cands : List Id
  pub fails : Id → Test → Type 0
  pub eligible : Id → Type 0
  pub needs : Id → NeedKind → Id → Type 0
  pub serves : NeedKind → Id → Id → Type 0
