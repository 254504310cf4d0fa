use Rattle.std.proofs.Common.{◌≡◌, map, drop}
use Rattle.intake_list.specs.Says.{is_among}
use Rattle.intake_list.proofs.says.is_among.Given as goal

-- what the words that are left say is what all say
abbrev pub invariant-loop-word : goal.invariant-loop-word
invariant-loop-word l =
    is_among (map (λ word. word.now) (drop l.word-index l.words)) l.text
    ≡ is_among (map (λ word. word.now) l.words) l.text
