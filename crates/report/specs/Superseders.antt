-- Who names an id in SUP, by the values of the code.
use Rattle.std.specs.Prelude.{List, filter}
use Rattle.terms.specs.Types.{Id}
use Rattle.terms.specs.Lookups.{is_in}
use Rattle.terms.specs.Choice.{sup_of}
use Rattle.sysmods.specs.Choices.{choice}
use Rattle.sysmods.specs.Namers.{namers_for}
use Rattle.sysmods.specs.declared.ver_choice.VerChoice.{VerChoice}

-- the received SYSMODs whose counting ++VER names it
abbrev pub direct_superseders : VerChoice → Id → List Id
direct_superseders vers z =
    filter (λ y. is_in (sup_of (choice vers) y) z) (namers_for vers.global.now.sysmods vers.srel z)
