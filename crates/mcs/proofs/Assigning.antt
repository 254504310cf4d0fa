-- What an ++ASSIGN says, and why one says nothing.
use Rattle.std.proofs.Common.{◌≡◌, List, Option}
use Rattle.terms.specs.declared.statement_words.StatementWord.{StatementWord}
use Rattle.terms.specs.declared.statement_words.StatementWord.TheVariants as word
use Rattle.terms.specs.Types.{Text, Lines, Assign}
use Rattle.terms.specs.Statement.{Piece}
use Rattle.terms.specs.Words.{Word, HasWords, IsShort}
use Rattle.terms.specs.Statements.{SaysAssign, IsAssignOf}
use Rattle.terms.specs.Ptfin.{these_parts, Begun, sysmod_in, HasValue}
use Rattle.rec80.specs.declared.operand_errors.OperandError.{OperandError}
use Rattle.rec80.specs.declared.operand_errors.OperandError.TheVariants.{Memory, Bad}
use Rattle.rec80.specs.Failing.{Excludes}
use Rattle.mcs.specs.Faults.{value_error}
use Rattle.mcs.specs.Said.{IsStatementSaid, IsSaidError}
use Rattle.mcs.proofs.Saying.{assign_excludes}

abbrev pub AssignOf : Option Text → List Piece → Assign → Type 0
AssignOf own rest a = (ws : List Word) × HasWords rest ws × IsAssignOf own ws a

pub assign_value : (current : Option Begun) (w : StatementWord) (own : Option Text) (rest : List Piece) (inline : Lines)
    (a : Assign) → w ≡ word.Assign → AssignOf own rest a
    → HasValue (sysmod_in current) (these_parts w own rest inline) (SaysAssign a)
assign_value current w own rest inline a is h = (h.0, h.1, (is, h.2))

pub assign_error : (current : Option Begun) (w : StatementWord) (own : Option Text) (rest : List Piece) (inline : Lines)
    (error : OperandError) → w ≡ word.Assign → Excludes error ((a : Assign) × AssignOf own rest a)
    → IsSaidError current (these_parts w own rest inline) (value_error error)
assign_error current w own rest inline Memory is x = tt
assign_error current w own rest inline Bad is x = assign_excludes (sysmod_in current) w own rest inline is
    (λ ws a h k. x (a, (ws, h, k)))

pub assign_said : (current : Option Begun) (w : StatementWord) (own : Option Text) (rest : List Piece) (inline : Lines)
    (a : Assign) → w ≡ word.Assign → AssignOf own rest a → IsShort a.to
    → IsStatementSaid current (these_parts w own rest inline) (SaysAssign a)
assign_said current w own rest inline a is h within = record {
  value = assign_value current w own rest inline a is h;
  within = within;
  text = tt;
}
