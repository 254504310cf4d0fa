use Rattle.std.proofs.Common.{◌∙◌, sym, subst}
use Rattle.terms.specs.Types.{Command}
use Rattle.terms.specs.Operands.{AreOperands}
use Rattle.terms.specs.CommandForms.{IsCommand, HasOperands}
use Rattle.terms.proofs.CommandLines.{of_command, is_command}
use Rattle.terms.proofs.ExactWords.{words_only}
use Rattle.terms.proofs.OperandWords.{are_operands}
use Rattle.rec80.specs.Views.{words_of}
use Rattle.cntl.specs.Views.{command_of}
use Rattle.cntl.proofs.Bypassing.{single_words}
use Rattle.cntl.proofs.command_reading.read_command.Goals as goal

pub returns-then-has_double-clause-fault : goal.returns-then-has_double-clause-fault
returns-then-has_double-clause-fault c = λ pieces h.
    let t = c.in-Some.ensures.word pieces h in
    let r = c.in-Ok.ensures t.0 t.2 in
    (c.in-Some.word, t.0, t.1, sym (c.has_double.ensures t.0 r) ∙ c.if-has_double.true)

pub returns-then-lacks_single_list-clause-fault : goal.returns-then-lacks_single_list-clause-fault
returns-then-lacks_single_list-clause-fault c = λ pieces h.
    let t = c.in-Some.ensures.word pieces h in
    let r = c.in-Ok.ensures t.0 t.2 in
    (c.in-Some.word, t.0, t.1, cc (c.has_double.ensures t.0 r), cc (c.lacks_single_list.ensures t.0 r))

pub returns-in_default-words_named-clause-fault : goal.returns-in_default-words_named-clause-fault
returns-in_default-words_named-clause-fault c = λ pieces h.
    let t = c.in-Some.ensures.word pieces h in
    let r = c.in-Ok.ensures t.0 t.2 in
    let single = sym (c.has_double.ensures t.0 r) ∙ c.if-has_double.false in
    let none : (d : Command) → IsCommand pieces d → ⊥ = λ d k.
    let o = of_command pieces c.in-Some.word t.0 d t.1 k in
    c.in_default-words_named.ensures.none t.0 r o.1.0 o.1.1
    (subst (λ names. AreOperands names o.1.0) (sym c.operands_of.ensures)
    (are_operands c.in-Some.word t.0 o.1.0 o.1.1 o.1.2 single)) in
    (c.in-Some.word, t.0, t.1, single, cc (c.lacks_single_list.ensures t.0 r), none)

pub returns-clause-fault : goal.returns-clause-fault
returns-clause-fault c = λ pieces h.
    let t = c.in-Some.ensures.word pieces h in
    let r = c.in-Ok.ensures t.0 t.2 in
    let words = c.in-Some-words_named.ensures.words t.0 r in
    let none : (d : Command) → IsCommand pieces d → ⊥ = λ d k.
    let o = of_command pieces c.in-Some.word t.0 d t.1 k in
    let bad = rw c.in-Err-Bad.field-0-is at c.in-Err-Bad.ensures.bad in
    bad (
      d,
      (
        o.0,
        subst (λ ws. HasOperands ws d) (words_only t.0 o.1.0 (words_of c.in-Some-words_named.named.now) o.1.1 words)
            o.1.3,
      ),
    ) in
    (c.in-Some.word, t.0, t.1, cc (c.has_double.ensures t.0 r), cc (c.lacks_single_list.ensures t.0 r), none)

pub returns-in-Ok-read_operands-clause-command : goal.returns-in-Ok-read_operands-clause-command
returns-in-Ok-read_operands-clause-command c = λ pieces h.
    let t = c.in-Some.ensures.word pieces h in
    let r = c.in-Ok.ensures t.0 t.2 in
    let ws = words_of c.in-Some-words_named.named.now in
    let words = c.in-Some-words_named.ensures.words t.0 r in
    let known =
    (subst (λ names. AreOperands names ws) c.operands_of.ensures c.in-Some-words_named.ensures.operands).known in
    let single = sym (c.has_double.ensures t.0 r) ∙ c.if-has_double.false in
    is_command pieces c.in-Some.word t.0 ws (command_of c.in-Ok-read_operands.command) t.1 words known single
    c.in-Ok-read_operands.ensures.word
    (c.in-Ok-read_operands.ensures.ok (single_words c.in-Some.word t.0 ws words single))
