-- The greatest status, one answer after the other.
use Rattle.std.proofs.Common.{◌≡◌, ◌∙◌, ◌<◌, ◌+◌, ◌++◌, ◌∷◌, [], ℕ, List, map, take, length, get_or, ap, arith}
use Rattle.std.proofs.lemmas.List.{take_more, map-append}
use Rattle.std.specs.Prelude.{max}
use Rattle.machine.specs.Machine as machine
use Rattle.smpe_jobs.specs.declared.jobs.Answer.{Answer}
use Rattle.smpe_jobs.specs.Ending.{answer_of}
use Rattle.smpe_jobs.specs.Messages.{answer_status}
use Rattle.smpe_rehearsal.specs.ServiceSet.{greatest}

pub greatest_more : (xs : List machine.Answer) (a : machine.Answer)
    → greatest (xs ++ a ∷ []) ≡ max (greatest xs) (answer_status a)
greatest_more [] a = omega arith
greatest_more (x ∷ xs) a = let e = greatest_more xs a in omega (arith, e)

-- of the first answers, one more
pub greatest_taken : (xs : List Answer) (i : ℕ) (x : Answer) → i < length xs
    → greatest (map answer_of (take (i + 1) xs))
    ≡ max (greatest (map answer_of (take i xs))) (answer_status (answer_of (get_or xs i x)))
greatest_taken xs i x below = ap (λ ys. greatest (map answer_of ys)) (take_more xs i x below)
    ∙ ap greatest (map-append answer_of (take i xs) (get_or xs i x ∷ []))
    ∙ greatest_more (map answer_of (take i xs)) (answer_of (get_or xs i x))
