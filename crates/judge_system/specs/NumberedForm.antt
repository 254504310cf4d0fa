-- The system with numbers instead of ids.
use Rattle.std.specs.Prelude.{◌≡◌, ◌↔◌, ℕ, List, Some, length, Contains, IsTrue, slice_get}
use Rattle.terms.specs.declared.codes.NeedKind.{NeedKind}
use Rattle.terms.specs.Types.{Id}
use Rattle.solve.specs.System.{Need, System, IsSystem, holds}

module _ (Eligible : Id → Type 0) (Needs : Id → NeedKind → Id → Type 0) (Serves : NeedKind → Id → Id → Type 0) where
  -- The need is one for z: it belongs to the number of an id that has the need, and lists all that serve it, eligible
  -- or not.
  pub record NeedFor (ids : List Id) (d : Need) (kind : NeedKind) (z : Id) : Type 0 where
    pub of : (x : Id) × (slice_get ids d.of ≡ Some x) × Needs x kind z
    pub any : (n : ℕ) (y : Id) → slice_get ids n ≡ Some y → Contains d.any n ↔ Serves kind y z

  -- The ids are numbered by their places in the list. The system has their needs, each once, and no others. `needed`
  -- gives the kind and the id of each.
  pub record IsNumberedForm (ids : List Id) (p : System) (needed : List (NeedKind × Id)) : Type 0 where
    pub numbers : IsSystem p
    pub size : p.size ≡ length ids
    pub eligible : (n : ℕ) (x : Id) → slice_get ids n ≡ Some x → IsTrue (holds p.eligible n) ↔ Eligible x
    pub lengths : length needed ≡ length p.needs
    pub needs : (i : ℕ) (d : Need) (need : NeedKind × Id) → slice_get p.needs i ≡ Some d
        → slice_get needed i ≡ Some need →
        NeedFor ids d need.0 need.1
    pub all : (n : ℕ) (x z : Id) (kind : NeedKind) → slice_get ids n ≡ Some x → Needs x kind z →
        (i : ℕ) × (d : Need) × (slice_get p.needs i ≡ Some d) × (slice_get needed i ≡ Some (kind, z))
        × (d.of ≡ n)
    pub once : (i j : ℕ) (d e : Need) (need : NeedKind × Id) → slice_get p.needs i ≡ Some d
        → slice_get p.needs j ≡ Some e →
        slice_get needed i ≡ Some need → slice_get needed j ≡ Some need → d.of ≡ e.of → i ≡ j
