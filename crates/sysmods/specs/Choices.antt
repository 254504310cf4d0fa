-- The choice of `++VER`s that a value stands for.
use Rattle.std.specs.Prelude.{◌-◌, ℕ, Bool, not, List, Option, option_map, find, slice_get, unwrap_or}
use Rattle.std.specs.Str.{bytes_eq}
use Rattle.terms.specs.Types.{Text, Id, Global}
use Rattle.terms.specs.Lookups.{is_nil}
use Rattle.terms.specs.Choice.{Choice, vers_of}
use Rattle.sysmods.specs.declared.ver_choice.Pick.{Pick}
use Rattle.sysmods.specs.declared.ver_choice.VerChoice.{VerChoice}

-- whether it is received with a ++VER for the SREL
abbrev pub has_ver : Global → Text → Id → Bool
has_ver g srel x = not (is_nil (vers_of g srel x))

-- the number that is picked for an id
abbrev pub picked : List Pick → Id → Option ℕ
picked picks x = option_map (λ p. p.number) (find (λ p. bytes_eq p.id x) picks)

-- the number of the ++VER that counts: the kept one, otherwise the fitting one, otherwise 1
abbrev pub number_in : VerChoice → Id → ℕ
number_in c x = unwrap_or (picked c.kept x) (unwrap_or (picked c.fitting x) 1)

-- the ++VER of that number among those for the value's SREL
abbrev pub choice : VerChoice → Choice
choice c x = slice_get (vers_of c.global.now c.srel x) (number_in c x - 1)
