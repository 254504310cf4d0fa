use Rattle.std.proofs.Common.{[], ◌∙◌, subst}
use Rattle.std.proofs.lemmas.List.{append-nil}
use Rattle.cntl.specs.Walks.{IsAt}
use Rattle.cntl.proofs.run_state.RunState.is_name.Goals as goal

pub returns-in-Other-clause-part : goal.returns-in-Other-clause-part
returns-in-Other-clause-part c = λ _ name run some is e.
    subst (λ at. IsAt name at run) c.in-Other.is is [] (append-nil run ∙ e)
