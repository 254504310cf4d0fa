-- Which eligible ids are kept: the union of all sets that support themselves.
use Rattle.std.specs.Prelude.{Bool, IsTrue}
use Rattle.terms.specs.declared.codes.NeedKind.{NeedKind}
use Rattle.terms.specs.Types.{Id}
use Rattle.terms.specs.Judging.{Judging}

module _ (judging : Judging) where
  -- All members of the set are eligible, and each need of each member is served by a member.
  pub record SupportsItself (set : Id → Bool) : Type 0 where
    pub eligible : (x : Id) → IsTrue (set x) → judging.eligible x
    pub served : (x z : Id) (kind : NeedKind) → IsTrue (set x) → judging.needs x kind z
        → (y : Id) × IsTrue (set y) × judging.serves kind y z

  -- x is kept: some set that supports itself contains it
  abbrev pub StaysKept : Id → Type 0
  StaysKept x = (set : Id → Bool) × SupportsItself set × IsTrue (set x)
