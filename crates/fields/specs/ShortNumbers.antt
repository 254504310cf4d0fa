-- The number by which short texts are compared.
use Rattle.std.specs.Prelude.{ℕ, zero, suc, ◌+◌, ◌*◌, List, [], ◌∷◌, length}

-- the number, followed by the next n bytes of a text, zeros if it has no more, and the length of the whole text
abbrev pub number_from : ℕ → ℕ → ℕ → List ℕ → ℕ
number_from zero before len text = before * 256 + len
number_from (suc n) before len [] = number_from n (before * 256) len []
number_from (suc n) before len (b ∷ text) = number_from n (before * 256 + b) len text

-- a text of at most seven bytes, padded with zeros, and its length
abbrev pub number_of : List ℕ → ℕ
number_of text = number_from 7 0 (length text) text
