-- What an install of judged candidates installs, and when those that are kept may be installed together.
use Rattle.std.specs.Prelude.{◌≢◌, ◌⊎◌, List, Contains, filter}
use Rattle.terms.specs.Types.{Text, Id, Zone}
use Rattle.terms.specs.Install.{Installation}
use Rattle.terms.specs.Lookups.{is_in}
use Rattle.terms.specs.Over.{IsOver}
use Rattle.terms.specs.Tests.{ShareElement}
use Rattle.sysmods.specs.declared.ver_choice.VerChoice.{VerChoice}
use Rattle.sysmods.specs.Choices.{number_in, choice}
use Rattle.sysmods.specs.Overs.{AreOver}
use Rattle.judge_system.specs.declared.judged.Judged.{Judged}
use Rattle.change.specs.Elements.{HasBases}
use Rattle.change.specs.Plans.{installation}

-- what is installed by the ++VERs that count
abbrev pub install_by : VerChoice → Zone → List Id → List (Id × Id) → Text → Installation
install_by vers zone kept bypassed date =
    installation vers.global.now (choice vers) (number_in vers) zone kept bypassed date

-- with those bypassed requisites that are of kept SYSMODs
abbrev pub install_of : Judged → Zone → List Id → Text → Installation
install_of j zone kept date = install_by j.vers zone kept (filter (λ p. is_in kept p.0) j.bypassed.items) date

-- The pairs that are known to be over each other are. Over orders the kept ones that share an element, and an element
-- that one of them updates is there, or one of them replaces it.
pub record MayBeInstalled (j : Judged) (zone : Zone) (kept : List Id) : Type 0 where
  pub known : AreOver (choice j.vers) j.overs
  pub order : (x y : Id) → Contains kept x → Contains kept y → x ≢ y → ShareElement j.vers.global.now x y
      → IsOver (choice j.vers) x y ⊎ IsOver (choice j.vers) y x
  pub base : (date : Text) → HasBases (install_of j zone kept date)
