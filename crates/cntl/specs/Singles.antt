-- Members of BYPASS that occur once.
use Rattle.std.specs.Prelude.{◌≡◌, false, List, codes}
use Rattle.std.specs.List.{list_any}
use Rattle.terms.specs.declared.codes.CommandWord.{CommandWord}
use Rattle.terms.specs.Words.{Word}
use Rattle.terms.specs.Operands.{operand}
use Rattle.terms.specs.CommandForms.{members_of}
use Rattle.terms.specs.Commands.{runs_in}
use Rattle.terms.specs.Operands.{is_often}
use Rattle.terms.proofs.BypassMembers.{list_of}

-- No member that the BYPASS of the command may have occurs twice.
abbrev pub AreSingle : CommandWord → List Word → Type 0
AreSingle w words = list_any (is_often 2 (runs_in (list_of (operand (codes "BYPASS") words)))) (members_of w) ≡ false
