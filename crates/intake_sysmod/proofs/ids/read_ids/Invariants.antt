use Rattle.std.proofs.Common.{◌≡◌, take}
use Rattle.intake_read.specs.Stated.{texts}
use Rattle.intake_sysmod.proofs.ids.read_ids.Given as goal

abbrev pub invariant-loop-text : goal.invariant-loop-text
invariant-loop-text l = l.ids.items ≡ texts (take l.text-index l.stated)
