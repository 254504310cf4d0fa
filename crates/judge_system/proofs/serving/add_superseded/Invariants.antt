use Rattle.std.proofs.Common.{take}
use Rattle.judge_system.specs.Serving.{AddsSuperseded}
use Rattle.judge_system.proofs.serving.add_superseded.Given as goal

-- what is superseded so far
abbrev pub invariant-loop-pair : goal.invariant-loop-pair
invariant-loop-pair l =
    AddsSuperseded l.ids.keys (take l.pair-index l.superseded) l.initial.pairs.items l.pairs.items
