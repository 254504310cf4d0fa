use Rattle.std.proofs.lemmas.Result.{IfOk-weaker}
use Rattle.intake_words.proofs.Shapes.{one_more}
use Rattle.intake_words.proofs.command_line.command_line.Goals as goal

pub returns : goal.returns
returns c =
    let at1 = one_more _ _ _ _ _ c.bare_command.ensures c.in_ok-arg.ensures
    c.required_arg.ensures.rule c.required_arg.ensures.global in
    let at2 = one_more _ _ _ _ _ at1 c.in_ok-arg-2.ensures c.optional_arg.ensures.rule c.optional_arg.ensures.global in
    let at3 = one_more _ _ _ _ _ at2 c.in_ok-arg-3.ensures
    c.repeatable_arg.ensures.rule c.repeatable_arg.ensures.global in
    let at4 = one_more _ _ _ _ _ at3 c.in_ok-arg-4.ensures c.flag_arg.ensures.rule c.flag_arg.ensures.global in
    let at5 = one_more _ _ _ _ _ at4 c.in_ok-arg-5.ensures c.flag_arg-2.ensures.rule c.flag_arg-2.ensures.global in
    let at6 = one_more _ _ _ _ _ at5 c.in_ok-arg-6.ensures c.code_arg.ensures.rule.2 c.code_arg.ensures.global in
    let at7 = one_more _ _ _ _ _ at6 c.in_ok-arg-7.ensures
    c.repeatable_arg-2.ensures.rule c.repeatable_arg-2.ensures.global in
    let at8 = one_more _ _ _ _ _ at7 c.in_ok-arg-8.ensures
    c.optional_arg-2.ensures.rule c.optional_arg-2.ensures.global in
    let at9 = one_more _ _ _ _ _ at8 c.in_ok-arg-9.ensures c.flag_arg-3.ensures.rule c.flag_arg-3.ensures.global in
    let at10 = one_more _ _ _ _ _ at9 c.in_ok-arg-10.ensures
    c.summary_arg.ensures.rule.2 c.summary_arg.ensures.global in
    IfOk-weaker c.arg-11.result _ _
    (λ new added. (
      c.code_arg.ensures.rule.0,
      c.summary_arg.ensures.rule.0,
      c.code_arg.ensures.rule.1,
      c.summary_arg.ensures.rule.1,
      (one_more _ _ _ _ _ at10 added c.file_arg.ensures.rule c.file_arg.ensures.global).0,
    ))
    c.arg-11.ensures
