-- Which SYSMODs depend on which.
use Rattle.std.specs.Prelude.{Bool, List, [], ◌∷◌, ◌++◌, filter, map}
use Rattle.std.specs.List.{flat_map, list_all}
use Rattle.terms.specs.Types.{Id, Zone}
use Rattle.terms.specs.Lookups.{at_most_one, is_applied, supby_of}
use Rattle.terms.specs.Choice.{fmid_of}
use Rattle.terms.specs.Needs.{binding_ids}
use Rattle.terms.specs.Restore.{Restoring}

-- the applied SYSMODs that supply the id
abbrev pub suppliers : Zone → Id → List Id
suppliers zone z = filter (is_applied zone) (z ∷ supby_of zone z)

-- the groups on which y depends: all SYSMODs that supply a requisite of it, and its function, if that is applied
abbrev pub dependences_of : Restoring → Id → List (List Id)
dependences_of r y =
    map (suppliers r.zone) (binding_ids r.choice r.zone (is_applied r.zone) y)
    ++ map (λ f. filter (is_applied r.zone) (f ∷ [])) (at_most_one (fmid_of r.choice y))

-- the members of those groups all of whose members are listed
abbrev pub all_within : (Id → Bool) → List (List Id) → List Id
all_within listed groups = flat_map (λ group. group) (filter (list_all listed) groups)

-- each of them with y
abbrev pub dependents : Restoring → (Id → Bool) → Id → List (Id × Id)
dependents r listed y = map (λ x. (x, y)) (all_within listed (dependences_of r y))
