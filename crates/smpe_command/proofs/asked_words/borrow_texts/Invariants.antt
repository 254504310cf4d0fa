use Rattle.std.proofs.Common.{◌≡◌, map, take}
use Rattle.std.specs.String.{string_bytes}
use Rattle.smpe_command.proofs.asked_words.borrow_texts.Given as goal

abbrev pub invariant-loop-text : goal.invariant-loop-text
invariant-loop-text l = map (λ view. view.now) l.views.items ≡ map string_bytes (take l.text-index l.texts)
