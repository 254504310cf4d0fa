use Rattle.std.proofs.Common.{refl}
use Rattle.std.proofs.lemmas.Result.{IfOk-equal}
use Rattle.why_facts.proofs.element_lines.append_maker.Goals as goal

pub returns : goal.returns
returns c =
    IfOk-equal c.append_words.result c.append_words.new.text.items _ _ c.append_words.ensures
    (rw (c.as_bytes.ensures.same, c.relation_word.ensures) refl)
