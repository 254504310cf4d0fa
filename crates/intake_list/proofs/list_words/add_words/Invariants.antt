use Rattle.std.proofs.Common.{◌≡◌, ◌++◌, map, take}
use Rattle.intake_list.proofs.list_words.add_words.Given as goal

-- the words so far
abbrev pub invariant-loop-word : goal.invariant-loop-word
invariant-loop-word l =
    map (λ word. word.now) l.words.items
    ≡ map (λ word. word.now) l.fn.words.items ++ map (λ word. word.now) (take l.word-index l.more)
