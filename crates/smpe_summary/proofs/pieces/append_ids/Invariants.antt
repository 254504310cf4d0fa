use Rattle.std.proofs.Common.{◌≡◌, ◌++◌, take}
use Rattle.std.specs.Prelude.{codes}
use Rattle.std.specs.List.{flat_map}
use Rattle.smpe_summary.proofs.pieces.append_ids.Given as goal

abbrev pub invariant-loop-id : goal.invariant-loop-id
invariant-loop-id l =
    l.text.items ≡ l.initial.text.items ++ flat_map (λ y. codes ", " ++ y) (take l.id-index l.rest)
