-- How GROUP's list grows: by steps between SYSMODs and elements.
use Rattle.std.specs.Prelude.{Bool, false, List, [], ◌∷◌, ◌++◌, map, Contains, IsTrue, if◌then◌else◌}
use Rattle.std.specs.List.{flat_map}
use Rattle.terms.specs.Types.{Id, Change}
use Rattle.terms.specs.Lookups.{is_in, is_nil, applied_ids, changes_of}
use Rattle.terms.specs.Restore.{Restoring}
use Rattle.undo.specs.declared.nodes.Node.{Node}
use Rattle.undo.specs.declared.nodes.Node.TheVariants.{Sysmod, Element}
use Rattle.undo.specs.declared.nodes.Step.{Step as RustStep}
use Rattle.undo.specs.Dependences.{dependences_of}
use Rattle.undo.specs.Scopes.{unaccepted}

-- once all of these are in the set, that one is
pub record Step : Type 0 where
  pub these : List Node
  pub that : Node

-- a step, apart from where its list is in memory
abbrev pub as_step : RustStep → Step
as_step s = record { these = s.these.items; that = s.that }

abbrev pub as_steps : List RustStep → List Step
as_steps steps = map as_step steps

-- the element of a statement
abbrev pub element_at : Change → Node
element_at h = Element h.elem_type h.name

-- from y to an element that it changes
abbrev pub to_element : Id → Change → Step
to_element y h = record { these = Sysmod y ∷ []; that = element_at h }

-- and back to y
abbrev pub from_element : Id → Change → Step
from_element y h = record { these = element_at h ∷ []; that = Sysmod y }

-- from all of these together to y, if there are any
abbrev pub from_all : Id → List Id → List Step
from_all y ids = if is_nil ids then [] else record { these = map Sysmod ids; that = Sysmod y } ∷ []

-- from y to the elements that it changes, from these to it, and to it from what it depends on
abbrev pub to_elements : Restoring → Id → List Step
to_elements r y = map (to_element y) (changes_of r.global y)

abbrev pub from_elements : Restoring → Id → List Step
from_elements r y = map (from_element y) (changes_of r.global y)

abbrev pub from_groups : Restoring → Id → List Step
from_groups r y = flat_map (from_all y) (dependences_of r y)

-- The steps from and to the applied SYSMODs. An accepted SYSMOD follows no element.
abbrev pub all_steps : Restoring → List Step
all_steps r =
    flat_map (to_elements r) (applied_ids r.zone) ++ flat_map (from_elements r) (unaccepted r)
    ++ flat_map (from_groups r) (applied_ids r.zone)

-- GROUP's ids
abbrev pub is_start : List Id → Node → Bool
is_start ids (Sysmod x) = is_in ids x
is_start ids (Element type name) = false

-- The set contains GROUP's ids and is closed under the steps.
pub record AreClosed (ids : List Id) (steps : List Step) (set : Node → Bool) : Type 0 where
  pub start : (n : Node) → IsTrue (is_start ids n) → IsTrue (set n)
  pub grown : (s : Step) → Contains steps s → ((m : Node) → Contains s.these m → IsTrue (set m)) → IsTrue (set s.that)

-- it is in every closed set
abbrev pub IsReached : List Id → List Step → Node → Type 0
IsReached ids steps n = (set : Node → Bool) → AreClosed ids steps set → IsTrue (set n)
