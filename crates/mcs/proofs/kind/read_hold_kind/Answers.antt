use Rattle.std.proofs.Common.{sym, subst}
use Rattle.terms.specs.declared.kinds.HoldKind.TheVariants.{Error, System, User}
use Rattle.terms.specs.Operands.{HasFlag}
use Rattle.rec80.specs.Views.{words_of}
use Rattle.mcs.proofs.KindWords.{kind_is, kind_none, kind_flag, is_kind}
use Rattle.mcs.proofs.kind.read_hold_kind.Goals as goal

pub returns-in_default-clause-none : goal.returns-in_default-clause-none
returns-in_default-clause-none c = λ kind k.
    c.in_default.ensures.bad (is_kind kind Error) (subst (λ o. HasFlag o (is_kind kind Error))
    (sym c.operand.ensures) (kind_flag (words_of c.args.words.now) kind Error k))

pub returns-in_default-flag-clause-none : goal.returns-in_default-flag-clause-none
returns-in_default-flag-clause-none c = λ kind k.
    c.in_default-flag.ensures.bad (is_kind kind System) (subst (λ o. HasFlag o (is_kind kind System))
    (sym c.operand-2.ensures) (kind_flag (words_of c.args.words.now) kind System k))

pub returns-in_default-flag-2-clause-none : goal.returns-in_default-flag-2-clause-none
returns-in_default-flag-2-clause-none c = λ kind k.
    c.in_default-flag-2.ensures.bad (is_kind kind User) (subst (λ o. HasFlag o (is_kind kind User))
    (sym c.operand-3.ensures) (kind_flag (words_of c.args.words.now) kind User k))

pub returns-clause-some : goal.returns-clause-some
returns-clause-some c =
    let ws = words_of c.args.words.now in
    rw c.kind_from.ensures (kind_is ws c.in-Ok.error c.in-Ok-flag.system c.in-Ok-flag-2.user (record {
      error_flag = subst (λ o. HasFlag o c.in-Ok.error) c.operand.ensures c.in-Ok.ensures.ok;
      system_flag = subst (λ o. HasFlag o c.in-Ok-flag.system) c.operand-2.ensures c.in-Ok-flag.ensures.ok;
      user_flag = subst (λ o. HasFlag o c.in-Ok-flag-2.user) c.operand-3.ensures c.in-Ok-flag-2.ensures.ok;
    }))

pub returns-clause-none : goal.returns-clause-none
returns-clause-none c =
    let ws = words_of c.args.words.now in
    rw c.kind_from.ensures (kind_none ws c.in-Ok.error c.in-Ok-flag.system c.in-Ok-flag-2.user (record {
      error_flag = subst (λ o. HasFlag o c.in-Ok.error) c.operand.ensures c.in-Ok.ensures.ok;
      system_flag = subst (λ o. HasFlag o c.in-Ok-flag.system) c.operand-2.ensures c.in-Ok-flag.ensures.ok;
      user_flag = subst (λ o. HasFlag o c.in-Ok-flag-2.user) c.operand-3.ensures c.in-Ok-flag-2.ensures.ok;
    }))
