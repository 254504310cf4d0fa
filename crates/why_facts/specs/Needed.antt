-- The SYSMODs that need what an id supplies, by the values of the code.
use Rattle.std.specs.Prelude.{◌≡◌, ◌↔◌, ◌&&◌, not, List, [], ◌∷◌, map, Contains, if◌then◌else◌}
use Rattle.std.specs.List.{flat_map, list_all}
use Rattle.std.specs.Str.{bytes_eq}
use Rattle.terms.specs.Types.{Id, Global, Zone}
use Rattle.terms.specs.Lookups.{IsRising, applied_ids}
use Rattle.terms.specs.Restore.{Restoring}
use Rattle.undo.specs.Dependences.{dependences_of}
use Rattle.report.specs.Facts.{Fact, NeededFact, NeedsIt}

-- the one member of the group, if all its members are one
abbrev pub sole : List Id → List Id
sole [] = []
sole (x ∷ xs) = if list_all (bytes_eq x) xs then x ∷ [] else []

-- the SYSMODs each of which alone supplies something that y needs
abbrev pub soles : Restoring → Id → List Id
soles r y = flat_map sole (dependences_of r y)

-- each of them with y, for all applied SYSMODs
abbrev pub needed_pairs : Restoring → List (Id × Id)
needed_pairs r = flat_map (λ y. map (λ x. (x, y)) (soles r y)) (applied_ids r.zone)

-- the second of the pair, if the first is x and the second another one
abbrev pub needing : Id → Id × Id → List Id
needing x p = if bytes_eq p.0 x && not (bytes_eq p.1 x) then p.1 ∷ [] else []

-- the pairs are those of an id and one that needs what it supplies
abbrev pub AllNeeded : Global → Zone → List (Id × Id) → Type 0
AllNeeded g zone pairs = (x y : Id) → Contains (flat_map (needing x) pairs) y ↔ NeedsIt g zone x y

-- the facts of those that need what x supplies
pub record AreNeeded (g : Global) (zone : Zone) (x : Id) (facts : List Fact) : Type 0 where
  pub ids : List Id
  pub rising : IsRising ids
  pub needed : (y : Id) → Contains ids y ↔ NeedsIt g zone x y
  pub facts_are : facts ≡ map NeededFact ids
