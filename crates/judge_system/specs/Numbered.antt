-- The numbered system of the needs.
use Rattle.std.specs.Prelude.{◌≡◌, ℕ, Bool, List, [], ◌∷◌, ◌++◌, Some, length, slice_get}
use Rattle.terms.specs.Beside.{Beside}
use Rattle.terms.specs.declared.codes.NeedKind.{NeedKind}
use Rattle.terms.specs.Types.{Id}
use Rattle.solve.specs.System.{Need, System, IsNeed}
use Rattle.judge_system.specs.declared.stated.RequisiteOf.{RequisiteOf}
use Rattle.judge_system.specs.Serving.{AreServed, IsServedIn}

-- the kind of a need, and the id that is needed
abbrev pub need_of : RequisiteOf → NeedKind × Id
need_of w = (w.kind, w.id)

-- the numbered need is the need: it is of the place of the candidate that has it, and lists all that serve it, rising
pub record IsNeedFor (ids : List Id) (pairs : List (Id × ℕ)) (w : RequisiteOf) (d : Need) : Type 0 where
  pub of : slice_get ids d.of ≡ Some w.of
  pub any : IsServedIn ids w.kind w.id pairs d.any
  pub admitted : IsNeed (length ids) d

-- the system of the candidates with these flags has these needs
pub record HasNeeds (ids : List Id) (pairs : List (Id × ℕ)) (flags : List Bool) (stated : List RequisiteOf)
    (p : System) :
    Type 0 where
  pub size : p.size ≡ length ids
  pub eligible : p.eligible ≡ flags
  pub needs : Beside (λ n w d. IsNeedFor ids pairs w d) stated p.needs

-- the system with one more
pub record AddsNeed (ids : List Id) (pairs : List (Id × ℕ)) (w : RequisiteOf) (old new : System) : Type 0 where
  pub numbered : Need
  pub for : IsNeedFor ids pairs w numbered
  pub system : new ≡ record old { needs = old.needs ++ numbered ∷ [] }

-- the system of the candidates with these flags has these needs, served by the candidates that stand for the needed id
pub record HasSystem (ids : List Id) (superseded : List (Id × Id)) (flags : List Bool) (stated : List RequisiteOf)
    (p : System) : Type 0 where
  pub pairs : List (Id × ℕ)
  pub served : AreServed ids superseded pairs
  pub needs : HasNeeds ids pairs flags stated p
