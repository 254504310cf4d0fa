-- What a statement in its right place says, and what is wrong with it.
use Rattle.std.specs.Prelude.{List, Option, Result, IfOk, IfErr}
use Rattle.terms.specs.declared.codes.StatementCode.{StatementCode}
use Rattle.terms.specs.declared.codes.StatementCode.TheVariants.{BadStatementOperand, BadText, OverLimit}
use Rattle.terms.specs.Types.{Lines}
use Rattle.terms.specs.Statement.{Piece}
use Rattle.terms.specs.Statements.{Statement}
use Rattle.terms.specs.Ptfin.{Begun, Parts, sysmod_in, HasValue, IsWithin, HasGoodText, IsStatementFault}
use Rattle.rec80.specs.Read.{IsRead}
use Rattle.mcs.specs.declared.begin.KnownStatement.{KnownStatement}
use Rattle.mcs.specs.KnownWords.{parts_of}
use Rattle.mcs.specs.Holds.{ArePrintable}
use Rattle.mcs.specs.declared.file.Begun as file
use Rattle.mcs.specs.declared.said.Statement.{Statement as Said}
use Rattle.mcs.specs.Files.{begun_in}
use Rattle.mcs.specs.Statements.{statement_of}
use Rattle.mcs.specs.declared.fault.StatementError.{StatementError}
use Rattle.mcs.specs.declared.fault.StatementError.TheVariants.{Memory, Fault}

-- The statement of these parts says so, within its limits and with a good text.
pub record IsStatementSaid (current : Option Begun) (p : Parts) (s : Statement) : Type 0 where
  pub value : HasValue (sysmod_in current) p s
  pub within : IsWithin current s p.inline
  pub text : HasGoodText s

-- It says nothing, exceeds a limit, or its text is bad.
abbrev pub IsSaidFault : Option Begun → Parts → StatementCode → Type 0
IsSaidFault current p BadStatementOperand = (s : Statement) → ¬ HasValue (sysmod_in current) p s
IsSaidFault current p OverLimit = (s : Statement) × HasValue (sysmod_in current) p s × (¬ IsWithin current s p.inline)
IsSaidFault current p BadText =
    (s : Statement) × HasValue (sysmod_in current) p s × IsWithin current s p.inline × (¬ HasGoodText s)
IsSaidFault current p _ = ⊥

abbrev pub IsSaidError : Option Begun → Parts → StatementError → Type 0
IsSaidError current p Memory = Unit {0}
IsSaidError current p (Fault code) = IsSaidFault current p code

-- the first fault of a statement, or that memory ran out
abbrev pub IsStatementError : Option Begun → Lines → Lines → StatementError → Type 0
IsStatementError current later records Memory = Unit {0}
IsStatementError current later records (Fault code) = IsStatementFault current later records code

-- A statement of a known word says what the call returns.
abbrev pub Says : Option file.Begun → KnownStatement → Result Said StatementError → Type 0
Says current known result =
    (rest : List Piece) → IsRead rest known.operands
    → IfOk result (λ s. IsStatementSaid (begun_in current) (parts_of known rest) (statement_of s))

-- It says nothing, and the error is its first fault, or that memory ran out.
abbrev pub Fails : Option file.Begun → KnownStatement → Result Said StatementError → Type 0
Fails current known result =
    (rest : List Piece) → IsRead rest known.operands
    → IfErr result (IsSaidError (begun_in current) (parts_of known rest))

-- The same, if its lists have only bytes that a record may have.
abbrev pub FailsPrintable : Option file.Begun → KnownStatement → Result Said StatementError → Type 0
FailsPrintable current known result =
    (rest : List Piece) → IsRead rest known.operands → ArePrintable rest
    → IfErr result (IsSaidError (begun_in current) (parts_of known rest))
