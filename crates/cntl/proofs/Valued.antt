-- The limit of a list.
use Rattle.std.proofs.Common.{◌<◌, List, length}
use Rattle.std.proofs.Common.{ap, arith}
use Rattle.terms.specs.Types.{Text}
use Rattle.terms.specs.Words.{IsShort, Word}
use Rattle.terms.specs.Operands.{HasSorted}
use Rattle.terms.proofs.ExactOperands.{has_sorted_only}

-- a list above the limit
pub too_long : (form : Text → Type 0) (w : Word) (list : List Text) → HasSorted form w list → 1000 < length list
    → ((others : List Text) × (HasSorted form w others × IsShort others)) → ⊥
too_long form w list h long x = omega (arith, long, x.1.1, ap length (has_sorted_only form w x.0 list x.1.0 h))
