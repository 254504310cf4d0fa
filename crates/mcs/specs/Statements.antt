-- The statements of this crate as the definitions see them.
use Rattle.terms.specs.Statements as terms
use Rattle.mcs.specs.declared.said.Statement.{Statement}
use Rattle.mcs.specs.declared.said.Statement.TheVariants.{Header, Ver, If, Hold, Assign, Change}

abbrev pub statement_of : Statement → terms.Statement
statement_of (Header kind id) = terms.SaysHeader kind id
statement_of (Ver ver) = terms.SaysVer ver
statement_of (If condition) = terms.SaysIf condition
statement_of (Hold hold) = terms.SaysHold hold
statement_of (Assign assign) = terms.SaysAssign assign
statement_of (Change change) = terms.SaysChange change
