-- What an element statement does, as the definitions see it, and its word.
use Rattle.terms.specs.declared.statement_words.StatementWord.{StatementWord}
use Rattle.terms.specs.Types as terms
use Rattle.terms.specs.Ptfin.{IsUpdateWord}
use Rattle.sysmods_values.specs.declared.change.Action.{Action}
use Rattle.sysmods_values.specs.declared.change.Action.TheVariants.{Replaces, Updates}

abbrev pub action_of : Action → terms.Action
action_of (Replaces distlib syslib lines) = terms.Replaces distlib syslib lines.items
action_of (Updates update) = terms.Updates update

-- the word of an update for an update, and of a replacement for a replacement
abbrev pub IsWordOf : terms.Action → StatementWord → Type 0
IsWordOf (terms.Replaces distlib syslib text) w = ¬ IsUpdateWord w
IsWordOf (terms.Updates text) w = IsUpdateWord w
