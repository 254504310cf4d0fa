use Rattle.std.proofs.Common.{[], ◌∷◌, ◌++◌, ap, sym}
use Rattle.std.proofs.lemmas.List.{append-nil}
use Rattle.std.specs.Prelude.{codes}
use Rattle.std.proofs.lemmas.Result.{IfOk-equal}
use Rattle.report.specs.WordTexts.{inner_line}
use Rattle.why_facts.proofs.asked_lines.append_comment.Goals as goal

pub returns-in-Some : goal.returns-in-Some
returns-in-Some c =
    rw c.in-Some.is (IfOk-equal c.append_words.result c.append_words.new.text.items _ _ c.append_words.ensures
    (ap (λ t. c.args.text.now.items ++ inner_line (codes "COMMENT" ∷ t ∷ [])) c.as_bytes.ensures.value))

pub returns-in-None : goal.returns-in-None
returns-in-None c = rw c.in-None.is (sym (append-nil c.args.text.now.items))
