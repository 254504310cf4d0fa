-- The parts of what a command has, and why it has none.
use Rattle.std.proofs.Common.{◌≡◌, true, List}
use Rattle.std.specs.Prelude.{codes}
use Rattle.terms.specs.declared.codes.CommandWord.TheVariants as word
use Rattle.terms.specs.Types.{Text, Install, Command, Reject, Apply, Accept, Restore, Report}
use Rattle.terms.specs.Types.{RestoreList}
use Rattle.terms.specs.Forms.{IsId}
use Rattle.terms.specs.Words.{Word}
use Rattle.terms.specs.Operands.{operand, HasFlag}
use Rattle.terms.specs.CommandForms.{HasSome, HasInstall, HasRestoreList, HasOperands, command_word}

-- what a command of each word has
pub of_reject : (ws : List Word) (c : Command) → command_word c ≡ word.Reject → HasOperands ws c
    → (ids : List Text) × HasSome IsId (operand (codes "SELECT") ws) ids
of_reject ws (Reject ids) e h = (ids, h)
of_reject ws c e h = absurd (cc (e))

pub of_apply : (ws : List Word) (c : Command) → command_word c ≡ word.Apply → HasOperands ws c
    → (i : Install) × HasInstall word.Apply ws i
of_apply ws (Apply i) e h = (i, h)
of_apply ws c e h = absurd (cc (e))

pub of_accept : (ws : List Word) (c : Command) → command_word c ≡ word.Accept → HasOperands ws c
    → (i : Install) × HasInstall word.Accept ws i
of_accept ws (Accept i) e h = (i, h)
of_accept ws c e h = absurd (cc (e))

pub of_restore : (ws : List Word) (c : Command) → command_word c ≡ word.Restore → HasOperands ws c
    → (list : RestoreList) × HasRestoreList ws list
of_restore ws (Restore list check) e h = (list, h.0)
of_restore ws c e h = absurd (cc (e))

pub of_report : (ws : List Word) (c : Command) → command_word c ≡ word.Report → HasOperands ws c
    → HasFlag (operand (codes "ERRSYSMODS") ws) true
of_report ws Report e h = h
of_report ws c e h = absurd (cc (e))
