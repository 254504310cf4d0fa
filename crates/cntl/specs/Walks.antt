-- A walk over the runs of a list that looks for a name.
use Rattle.std.specs.Prelude.{◌≡◌, ℕ, Bool, true, false, [], ◌∷◌, ◌++◌}
use Rattle.terms.specs.Types.{Text}
use Rattle.terms.specs.Commands.{runs_from}
use Rattle.terms.proofs.OperandWords.{count}
use Rattle.cntl.specs.declared.run_state.RunState.{RunState}
use Rattle.cntl.specs.declared.run_state.RunState.TheVariants.{Inner, Part, Other}

-- how much of the name the run up to here contains; inside an inner list there is no run
abbrev pub IsAt : Text → RunState → Text → Type 0
IsAt name Inner run = run ≡ []
IsAt name (Part left) run = run ++ left.now ≡ name
IsAt name Other run = (left : Text) → run ++ left ≡ name → ⊥

abbrev pub is_inner : RunState → Bool
is_inner Inner = true
is_inner _ = false

-- After the byte, the runs from the run up to there on contain the name as often.
pub record WalksOn (name : Text) (at : RunState) (run : Text) (byte : ℕ) (next : RunState) : Type 0 where
  pub goes_on : Text
  pub is_at : IsAt name next goes_on
  pub same : (rest : Text) → count name (runs_from (is_inner at) run (byte ∷ rest)) ≡ count name
      (runs_from (is_inner next) goes_on rest)
