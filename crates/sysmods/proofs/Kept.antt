-- What a call that may fail leaves.
use Rattle.std.proofs.Common.{◌≡◌, sym, subst}
use Rattle.std.specs.Prelude.{Result, Ok, Err, OnOk, OnErr}

pub kept_either : {A E X : Type 0} (P : X → Type 0) (r : Result A E) (old next new : X) → OnOk r (new ≡ next)
    → OnErr r (new ≡ old) → P old → P next → P new
kept_either P (Ok a) old next new ok err was will = subst P (sym ok) will
kept_either P (Err e) old next new ok err was will = subst P (sym err) was
