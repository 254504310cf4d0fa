-- Texts filled up to records.
use Rattle.std.proofs.Common.{◌≡◌, ◌≤◌, ◌∙◌, ◌++◌, ◌-◌, ◌+◌, ℕ, take, length, take_all, append_assoc, ap, arith}
use Rattle.std.specs.Prelude.{replicate}
use Rattle.std.proofs.lemmas.List.{length-append, length-replicate}
use Rattle.terms.specs.Types.{Text}
use Rattle.machine.specs.Report.{left_in}
use Rattle.smpe_jobs.specs.ListJob.{two_records}

-- what a resize makes of a text that is no longer
filled : (n : ℕ) (text : Text) → length text ≤ n → take n text ++ replicate (n - length text) 32 ≡ left_in n text
filled n text short = ap (λ t. t ++ replicate (n - length text) 32) (take_all n text short)

left_length : (n : ℕ) (text : Text) → length text ≤ n → length (left_in n text) ≡ n
left_length n text short = length-append text (replicate (n - length text) 32)
    ∙ ap (λ k. length text + k) (length-replicate (n - length text) 32) ∙ omega arith

pub are_records : (first second one both file : Text) → length first ≤ 80 → length second ≤ 80
    → one ≡ take 80 first ++ replicate (80 - length first) 32
    → both ≡ one ++ second
    → file ≡ take 160 both ++ replicate (160 - length both) 32
    → file ≡ two_records first second
are_records first second one both file small short one_is both_is file_is =
    let front : length (left_in 80 first) ≡ 80 = left_length 80 first small in
    let whole : both ≡ left_in 80 first ++ second = both_is ∙ ap (λ t. t ++ second) (one_is ∙ filled 80 first small) in
    let long : length (left_in 80 first ++ second) ≡ 80 + length second = length-append (left_in 80 first) second
    ∙ ap (λ k. k + length second) front in
    let rest : 160 - length (left_in 80 first ++ second) ≡ 80 - length second = omega (arith, long) in
    file_is ∙ ap (λ t. take 160 t ++ replicate (160 - length t) 32) whole
    ∙ filled 160 (left_in 80 first ++ second) (omega (arith, long))
    ∙ ap (λ k. (left_in 80 first ++ second) ++ replicate k 32) rest
    ∙ append_assoc (left_in 80 first) second (replicate (80 - length second) 32)
