use Rattle.std.proofs.Common.{◌≡◌, take}
use Rattle.terms.specs.Texts.{given}
use Rattle.text80.proofs.update.Update.given_records.Given as goal

-- what the records so far give
abbrev pub invariant-loop-line : goal.invariant-loop-line
invariant-loop-line l = l.given.items ≡ given (take l.line-index l.line-items)
