-- A text that is copied over zeros.
use Rattle.std.proofs.Common.{◌≤◌, ◌-◌, ℕ, List, ◌++◌, length, drop, arith, ap, sym, length-append}
use Rattle.std.specs.Prelude.{replicate}
use Rattle.std.proofs.Math.Seq.{take-append_seam}
use Rattle.std.proofs.lemmas.List.{drop-replicate, length-replicate}
use Rattle.fields.specs.Padded.{IsPadded, padded}

pub IsPadded_copied : (n : ℕ) (text : List ℕ) → length text ≤ n
    → IsPadded n (text ++ drop (length text) (replicate n 0)) (length text)
IsPadded_copied n text fits =
    rw (drop-replicate {X = ℕ} (length text) n 0) record {
      size = omega (
        arith,
        length-append text (replicate (n - length text) 0),
        length-replicate {A = ℕ} (n - length text) 0,
      );
      fits = fits;
      zeros = ap (padded n) (sym (take-append_seam text (replicate (n - length text) 0)));
    }
