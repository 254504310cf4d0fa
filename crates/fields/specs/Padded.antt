-- A text of a few bytes, padded with zeros.
use Rattle.std.specs.Prelude.{◌≡◌, ◌≤◌, ◌-◌, ℕ, List, ◌++◌, length, take, replicate}
use Rattle.std.proofs.Common.{sym, arith}
use Rattle.std.proofs.lemmas.List.{length-take-le}

-- the text, padded with zeros to n bytes
abbrev pub padded : ℕ → List ℕ → List ℕ
padded n text = text ++ replicate (n - length text) 0

-- the first `len` of the n bytes are a text, and the rest are zeros
pub record IsPadded (n : ℕ) (bytes : List ℕ) (len : ℕ) : Type 0 where
  pub size : length bytes ≡ n
  pub fits : len ≤ n
  pub zeros : bytes ≡ padded n (take len bytes)

-- the text determines the bytes
pub padded_take : (n len : ℕ) (bytes : List ℕ) → IsPadded n bytes len → padded n (take len bytes) ≡ bytes
padded_take n len bytes h = sym h.zeros

pub length_text : (n len : ℕ) (bytes : List ℕ) → IsPadded n bytes len → length (take len bytes) ≡ len
length_text n len bytes h = length-take-le len bytes (omega (arith, h.size, h.fits))
