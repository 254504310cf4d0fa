use Rattle.std.proofs.Common.{List, map, inl, Ok, Err, subst, refl}
use Rattle.smpe_command.specs.Asking.{IsAsked}
use Rattle.smpe_command.proofs.program.command.Goals as goal

pub returns-in-Ok-serve-clause-words : goal.returns-in-Ok-serve-clause-words
returns-in-Ok-serve-clause-words g c = rw c.in-Ok.is (inl (
  c.in-Ok-read_words.request,
  subst (λ (words : List _). IsAsked (map (λ word. word.items) words) c.in-Ok-read_words.request)
      c.as_slice-words.ensures.value c.in-Ok-read_words.ensures.ok,
  c.serve.new.host,
  Ok c.in-Ok-serve.status,
  c.in-Ok-serve.ensures,
  (refl, refl, refl),
))

pub returns-in-Ok-read_words-clause-words : goal.returns-in-Ok-read_words-clause-words
returns-in-Ok-read_words-clause-words g c = rw c.in-Ok.is (inl (
  c.in-Ok-read_words.request,
  subst (λ (words : List _). IsAsked (map (λ word. word.items) words) c.in-Ok-read_words.request)
      c.as_slice-words.ensures.value c.in-Ok-read_words.ensures.ok,
  c.serve.new.host,
  Err c.in-Err-serve.fault,
  c.in-Err-serve.ensures,
  c.report_fault-in-Err-serve.ensures,
))
