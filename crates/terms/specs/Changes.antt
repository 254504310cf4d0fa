-- What SYSMODs do to elements: a replacement as by ++MAC, or an update as by ++MACUPD.
-- (IBM z/OS SMP/E Reference, the element statements.)
use Rattle.std.specs.Prelude.{Bool, true, false, not}
use Rattle.std.specs.Option.{option_map_or}
use Rattle.terms.specs.declared.kinds.ElemType.{ElemType}
use Rattle.terms.specs.Types.{Text, Id, Action, Replaces, Updates, Global}
use Rattle.terms.specs.Lookups.{change_of}

abbrev pub is_replacement : Action → Bool
is_replacement (Replaces distlib syslib lines) = true
is_replacement (Updates lines) = false

-- whether the SYSMOD replaces the element of this type and name
abbrev pub has_replacement : Global → Id → ElemType → Text → Bool
has_replacement g x type name = option_map_or (λ h. is_replacement h.action) (change_of g x type name) false

-- whether it updates it
abbrev pub has_update : Global → Id → ElemType → Text → Bool
has_update g x type name = option_map_or (λ h. not (is_replacement h.action)) (change_of g x type name) false
