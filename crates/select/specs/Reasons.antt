-- Ids that SELECT or GROUP names and that are not candidates, each with the reason.
use Rattle.std.specs.Prelude.{Option, None, Some}
use Rattle.terms.specs.declared.not_chosen.NotChosen.{NotChosen}
use Rattle.terms.specs.Types.{Id}
use Rattle.terms.specs.Candidates.{not_chosen}
use Rattle.select.specs.Scopes.{Selecting}

-- a reason, together with the id
abbrev pub beside : Id → Option NotChosen → Option (Id × NotChosen)
beside x None = None
beside x (Some why) = Some (x, why)

-- why it is not a candidate
abbrev pub reason_in : Selecting → Id → Option NotChosen
reason_in scope x = not_chosen scope.global scope.zone scope.selection x

abbrev pub with_reason : Selecting → Id → Option (Id × NotChosen)
with_reason scope x = beside x (reason_in scope x)
