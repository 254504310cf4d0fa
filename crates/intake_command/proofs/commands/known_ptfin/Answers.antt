use Rattle.std.proofs.Common.{inl}
use Rattle.intake_command.proofs.commands.known_ptfin.Goals as goal

pub returns : goal.returns
returns c = inl (c.in_ok-known_of_statements.ensures.ptfin, c.in_ok-file.file, c.in_ok-known_of_statements.ensures.stated)
