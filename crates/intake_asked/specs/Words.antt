-- The operands of a shop's commands: those that have one of some names, and the members of their lists.
use Rattle.std.specs.Prelude.{◌&&◌, ◌-◌, Bool, false, not, List, [], ◌∷◌, ◌++◌}
use Rattle.std.specs.Prelude.{if◌then◌else◌, filter, map, is_none, length, nat_eq, take, drop, codes}
use Rattle.std.specs.List.{list_any, flat_map, starts_with}
use Rattle.std.specs.Str.{bytes_eq}
use Rattle.terms.specs.declared.kinds.Kind.{Kind}
use Rattle.terms.specs.declared.kinds.Kind.TheVariants.{Apar, Usermod}
use Rattle.terms.specs.Types.{Text}
use Rattle.terms.specs.Lookups.{is_in}
use Rattle.intake_read.specs.Stated.{value_text, members}
use Rattle.intake_read.specs.declared.items.WideOperand.{WideOperand}
use Rattle.intake_asked.specs.declared.known.KnownSysmod.{KnownSysmod}

abbrev pub is_called : List Text → WideOperand → Bool
is_called names operand = is_in names operand.name.items

abbrev pub has : List Text → List WideOperand → Bool
has names operands = list_any (λ o. is_called names o) operands

-- without a list
abbrev pub stands_alone : List Text → List WideOperand → Bool
stands_alone names operands = list_any (λ o. is_called names o && is_none o.value) operands

-- the members of the operands of these names
abbrev pub listed : List Text → List WideOperand → List Text
listed names operands =
    flat_map (λ o. if is_called names o then members (value_text o.value) else []) operands

-- ---- names, as SMP/E spells and abbreviates them

abbrev pub select_names : List Text
select_names = codes "SELECT" ∷ codes "S" ∷ []

abbrev pub exclude_names : List Text
exclude_names = codes "EXCLUDE" ∷ codes "E" ∷ []

abbrev pub group_names : List Text
group_names = codes "GROUP" ∷ codes "G" ∷ []

abbrev pub groupextend_names : List Text
groupextend_names = codes "GROUPEXTEND" ∷ codes "GEXT" ∷ []

abbrev pub check_names : List Text
check_names = codes "CHECK" ∷ codes "C" ∷ []

-- ---- what other words make of lists

-- GROUP without a list takes SELECT's ids.
abbrev pub selected : List WideOperand → List Text
selected operands = if stands_alone group_names operands then [] else listed select_names operands

abbrev pub grouped : List WideOperand → List Text
grouped operands =
    listed group_names operands ++ (if stands_alone group_names operands then listed select_names operands else [])

-- the types that GROUPEXTEND keeps out, by its members
abbrev pub is_kept_out : List Text → Kind → Bool
is_kept_out members Apar = is_in members (codes "NOAPARS")
is_kept_out members Usermod = is_in members (codes "NOUSERMODS")
is_kept_out members _ = false

-- Those of the known SYSMODs that GROUPEXTEND keeps out, unless SELECT or GROUP names them.
abbrev pub kept_out : List KnownSysmod → List WideOperand → List Text
kept_out known operands =
    filter (λ x. not (is_in (listed select_names operands ++ listed group_names operands) x))
    (map (λ k. k.id) (filter (λ k. is_kept_out (listed groupextend_names operands) k.kind) known))

abbrev pub excluded : List KnownSysmod → List WideOperand → List Text
excluded known operands = listed exclude_names operands ++ kept_out known operands

-- A member of SOURCEID that ends with an asterisk names all known source ids that begin so.
abbrev pub is_starred : Text → Bool
is_starred member = bytes_eq (drop (length member - 1) member) (codes "*")

abbrev pub sources_of : List KnownSysmod → Text → List Text
sources_of known member =
    if is_starred member
    then filter (λ s. starts_with nat_eq s (take (length member - 1) member)) (flat_map (λ k. k.sources.items) known)
    else member ∷ []

abbrev pub sources : List KnownSysmod → List WideOperand → List Text
sources known operands = flat_map (sources_of known) (listed (codes "SOURCEID" ∷ []) operands)
