use Rattle.std.proofs.Common.{◌≡◌, ◌++◌, ◌∷◌, drop}
use Rattle.std.specs.List.{flat_map}
use Rattle.terms.specs.Bytes.{comma}
use Rattle.smpe_mend.specs.Words.{joined}
use Rattle.smpe_mend.proofs.words.append_reasons.Given as goal

-- with what the rest adds, all of it
abbrev pub invariant-loop-reason : goal.invariant-loop-reason
invariant-loop-reason l =
    l.text.items ++ flat_map (λ y. comma ∷ y) (drop l.reason-index l.rest) ≡ l.fn.text.items ++ joined l.reasons
