use Rattle.std.specs.Prelude.{◌&&◌, ◌↔◌, ℕ, Bool, List, nat_le, IsTrue}
use Rattle.std.specs.List.{list_any}
use Rattle.text80.specs.declared.control.Range.{Range}
use Rattle.terms.specs.Types.{Lines}
use Rattle.terms.specs.Texts.{Deletes}

-- whether a range contains the number
abbrev pub covers : List Range → ℕ → Bool
covers ranges n = list_any (λ r. nat_le r.low n && nat_le n r.high) ranges

-- the ranges contain the numbers that the records delete
abbrev pub AreRangesOf : Lines → List Range → Type 0
AreRangesOf records ranges = (n : ℕ) → IsTrue (covers ranges n) ↔ Deletes records n
