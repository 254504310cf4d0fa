use Rattle.std.proofs.Common.{◌≡◌, ◌++◌, drop, map}
use Rattle.std.specs.List.{flat_map}
use Rattle.judge_system.specs.Views.{need_view}
use Rattle.smpe_mend.specs.Words.{need_line}
use Rattle.smpe_mend.proofs.words.append_needs.Given as goal

-- with what the rest adds, all of it
abbrev pub invariant-loop-need : goal.invariant-loop-need
invariant-loop-need l =
    l.text.items ++ flat_map need_line (map need_view (drop l.need-index l.needs))
    ≡ l.fn.text.items ++ flat_map need_line (map need_view l.needs)
