-- The numbers that a choice picks.
use Rattle.std.specs.Prelude.{◌+◌, ℕ, Bool, List, filter, position, nat_lt, unwrap_or, if◌then◌else◌}
use Rattle.std.specs.Option.{option_map_or}
use Rattle.std.specs.Str.{bytes_eq}
use Rattle.terms.specs.Types.{Id, Sysmod, Entry, Zone}
use Rattle.terms.specs.Lookups.{is_in, is_applied}
use Rattle.terms.specs.Choice.{fits}
use Rattle.sysmods.specs.declared.ver_choice.Pick.{Pick}

abbrev pub a_pick : Id → ℕ → Pick
a_pick x number = record { id = x; number = number }

-- whether it is not the number of the first one
abbrev pub is_further : Pick → Bool
is_further p = nat_lt 1 p.number

-- the number by which it was installed, if it was
abbrev pub kept_pick : Entry → Pick
kept_pick e = a_pick e.id (option_map_or (λ a. a.number) e.applied 1)

-- the number of the first that fits, for a SYSMOD that is not applied
abbrev pub fitting_pick : Zone → List Id → Sysmod → Pick
fitting_pick zone cands s =
    a_pick s.id (if is_applied zone s.id then 1
    else unwrap_or (position (fits zone (is_in cands)) (filter (λ v. bytes_eq v.srel zone.srel) s.vers)) 0 + 1)
