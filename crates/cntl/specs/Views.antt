-- Commands as the definitions see them.
use Rattle.terms.specs.Types as terms
use Rattle.cntl.specs.declared.command.Command.{Command}
use Rattle.cntl.specs.declared.command.Command.TheVariants.{Set, Receive, Reject, Apply, Accept, Restore, List, Report}
use Rattle.fields.specs.Choices.{restore_list_of}

abbrev pub command_of : Command → terms.Command
command_of (Set zone) = terms.Set zone
command_of (Receive what) = terms.Receive what
command_of (Reject ids) = terms.Reject ids
command_of (Apply install) = terms.Apply install
command_of (Accept install) = terms.Accept install
command_of (Restore list check) = terms.Restore (restore_list_of list) check
command_of (List text) = terms.ListZone text
command_of Report = terms.Report
