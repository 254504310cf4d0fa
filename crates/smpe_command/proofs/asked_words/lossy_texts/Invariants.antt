use Rattle.std.proofs.Common.{◌≡◌, map, take}
use Rattle.std.specs.String.{string_bytes}
use Rattle.smpe_command.specs.Asking.{shown}
use Rattle.smpe_command.proofs.asked_words.lossy_texts.Given as goal

abbrev pub invariant-loop-word : goal.invariant-loop-word
invariant-loop-word l = map string_bytes l.texts.items ≡ shown (map (λ word. word.items) (take l.word-index l.words))
