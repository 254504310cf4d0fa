-- The open needs of candidates, by places, and those of one candidate, by kind and id.
use Rattle.std.specs.Prelude.{◌≡◌, ◌↔◌, ◌<◌, ◌==◌, ◌&&◌, ℕ, Bool, not, List, [], ◌∷◌, Some, IsTrue, Contains, Vec}
use Rattle.std.specs.Prelude.{AllPairs, map, slice_get, if◌then◌else◌}
use Rattle.std.specs.Ordering.{nat_cmp, is_lt, ordering_then}
use Rattle.std.specs.Cmp.Lexicographic.{slice_cmp}
use Rattle.std.specs.declared.cmp.Ordering.{Ordering}
use Rattle.terms.specs.contracts.codes.NeedKindOrd.TheImpl as kind_order
use Rattle.std.specs.List.{list_any, flat_map}
use Rattle.std.specs.declared.alloc.Global.{Global}
use Rattle.terms.specs.declared.codes.NeedKind.{NeedKind}
use Rattle.terms.specs.Types.{Id}
use Rattle.terms.specs.Lookups.{IsRising}
use Rattle.solve.specs.System.{Need, holds}
use Rattle.solve.specs.Rows.{row_at}
use Rattle.machine.specs.Outcome.{OpenNeed}
use Rattle.terms.specs.Failures.{all_needs}

-- whether the numbered need is of x, and no kept candidate serves it
abbrev pub is_open_of : List Bool → Need → ℕ → Bool
is_open_of kept d x = (d.of == x) && not (list_any (holds kept) d.any)

-- the need as one of x, if it is open and of x
abbrev pub open_of : List Bool → Need → NeedKind × Id → ℕ → List (NeedKind × Id)
open_of kept d need x = if is_open_of kept d x then need ∷ [] else []

-- each candidate's row has its open needs among those before a place
abbrev pub HaveOpen : List Bool → List Need → List (NeedKind × Id) → ℕ → List (Vec (NeedKind × Id) Global)
    → Type 0
HaveOpen kept needs needed end rows = (x : ℕ) (need : NeedKind × Id) → Contains (row_at rows x) need
    ↔ ((i : ℕ) × (d : Need) × (i < end) × (slice_get needs i ≡ Some d) × (slice_get needed i ≡ Some need)
    × IsTrue (is_open_of kept d x))

-- the order of kinds and then of ids
abbrev pub need_cmp : NeedKind × Id → NeedKind × Id → Ordering
need_cmp a b = ordering_then (kind_order.ghosts.cmp a.0 b.0) (slice_cmp nat_cmp a.1 b.1)

-- they rise by kind and id, none twice, and are those of the row
pub record AreEachOnce (unserved needs : List (NeedKind × Id)) : Type 0 where
  pub rise : AllPairs (λ a b. IsTrue (is_lt (need_cmp a b))) needs
  pub members : (need : NeedKind × Id) → Contains needs need ↔ Contains unserved need

-- the needs of a kind, by their ids
abbrev pub of_kind : NeedKind → List Id → List OpenNeed
of_kind kind ids = map (λ z. record { kind = kind; id = z }) ids

-- the ids of a row's needs of a kind, rising
pub record AreIdsOf (unserved : List (NeedKind × Id)) (kind : NeedKind) (ids : List Id) : Type 0 where
  pub rising : IsRising ids
  pub members : (z : Id) → Contains ids z ↔ Contains unserved (kind, z)

-- the row's needs by kind and id
pub record AreNeedsOf (unserved : List (NeedKind × Id)) (needs : List OpenNeed) : Type 0 where
  pub ids_of : NeedKind → List Id
  pub are_ids : (kind : NeedKind) → AreIdsOf unserved kind (ids_of kind)
  pub needs_are : needs ≡ flat_map (λ kind. of_kind kind (ids_of kind)) all_needs
