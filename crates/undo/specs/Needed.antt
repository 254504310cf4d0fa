-- What each candidate needs.
use Rattle.std.specs.Prelude.{◌≢◌, ◌↔◌, List, AllPairs, Contains}
use Rattle.terms.specs.declared.codes.NeedKind.{NeedKind}
use Rattle.terms.specs.Types.{Id}
use Rattle.terms.specs.Lookups.{is_in}
use Rattle.terms.specs.Restore.{Restoring, NeedsElem, NeedsDep, NeedsInRestore}
use Rattle.judge_system.specs.declared.stated.RequisiteOf.{RequisiteOf}
use Rattle.judge_system.specs.Said.{a_need}

-- the first needs the second
abbrev pub pair_need : NeedKind → Id × Id → RequisiteOf
pair_need kind p = a_need p.0 kind p.1

-- the pairs are of candidates that share an element
abbrev pub HaveElem : Restoring → List Id → List (Id × Id) → Type 0
HaveElem r cands pairs =
    (x y : Id) → y ≢ x → Contains {X = Id × Id} pairs (x, y) ↔ (Contains cands x × NeedsElem r x y)

-- the pairs are of candidates and what depends on them
abbrev pub HaveDep : Restoring → List Id → List (Id × Id) → Type 0
HaveDep r cands pairs =
    (x y : Id) → y ≢ x → Contains cands x → Contains {X = Id × Id} pairs (x, y) ↔ NeedsDep r (is_in cands) x y

-- the list has the needs of the candidates, each once
pub record AreNeeds (r : Restoring) (cands : List Id) (needs : List RequisiteOf) : Type 0 where
  pub members : (x : Id) (kind : NeedKind) (y : Id)
      → Contains needs (a_need x kind y) ↔ (Contains cands x × NeedsInRestore r (is_in cands) x kind y)
  pub once : AllPairs (λ v w. v ≢ w) needs
