use Rattle.std.proofs.Common.{sym, subst, List, Option}
use Rattle.std.specs.Prelude.{codes}
use Rattle.terms.specs.Types.{Text, Hold}
use Rattle.terms.specs.Forms.{IsClass, IsDate}
use Rattle.terms.specs.Words.{Word, HasWords}
use Rattle.terms.specs.Operands.{operand, HasOptional}
use Rattle.terms.specs.HoldStatements.{HasComment, IsHoldOf}
use Rattle.terms.proofs.ExactWords.{words_only}
use Rattle.rec80.specs.Views.{words_of}
use Rattle.std.proofs.lemmas.Result.{err_from_is_err_and}
use Rattle.mcs.specs.KnownWords.{own_list}
use Rattle.mcs.specs.Holds.{HasKey}
use Rattle.rec80.proofs.Failing.{excludes_more}
use Rattle.rec80.proofs.Owning.{optional_text}
use Rattle.mcs.proofs.HoldKeys.{key_of, hold_key}
use Rattle.mcs.proofs.Printables.{operand_printable}
use Rattle.mcs.proofs.hold_operands.hold_of_operands.Goals as goal

pub returns-in_default-clause-bad : goal.returns-in_default-clause-bad
returns-in_default-clause-bad c = λ rest h printable x. c.in_default.ensures.none rest h x.0 x.2 x.3.are_operands

pub returns-in_default-read_key-clause-bad : goal.returns-in_default-read_key-clause-bad
returns-in_default-read_key-clause-bad c = λ rest h printable x.
    let own = own_list c.args.known.now in
    let same = words_only rest x.0 (words_of c.in-Some.words.now) x.2 (c.in-Some.ensures.words rest h) in
    c.in_default-read_key.ensures.none (key_of x.1)
    (subst (λ l. HasKey own l (key_of x.1)) same (hold_key own x.0 x.1 x.3))

pub returns-in_err-class-clause-bad : goal.returns-in_err-class-clause-bad
returns-in_err-class-clause-bad c = λ rest h printable.
    let p = err_from_is_err_and c.from_residual.result c.from_residual.ensures.1 in
    rw (p.1, p.2) (λ x.
    let same = words_only rest x.0 (words_of c.in-Some.words.now) x.2 (c.in-Some.ensures.words rest h) in
    c.in_err-class.ensures.bad x.1.class
    (subst (λ l. HasOptional IsClass (operand (codes "CLASS") l) x.1.class) same x.3.class))

pub returns-in_err-date-clause-bad : goal.returns-in_err-date-clause-bad
returns-in_err-date-clause-bad c = λ rest h printable.
    let p = err_from_is_err_and c.from_residual-in_err-date.result c.from_residual-in_err-date.ensures.1 in
    rw (p.1, p.2) (λ x.
    let same = words_only rest x.0 (words_of c.in-Some.words.now) x.2 (c.in-Some.ensures.words rest h) in
    c.in_err-date.ensures.bad x.1.date
    (subst (λ l. HasOptional IsDate (operand (codes "DATE") l) x.1.date) same x.3.date))

pub returns-in_err-comment-clause-bad : goal.returns-in_err-comment-clause-bad
returns-in_err-comment-clause-bad c = λ rest h printable.
    let p = err_from_is_err_and c.from_residual-in_err-comment.result c.from_residual-in_err-comment.ensures.1 in
    let ws = words_of c.in-Some.words.now in
    let words = c.in-Some.ensures.words rest h in
    let One : Type 0 = (comment : Option Text) × HasComment (operand (codes "COMMENT") ws) comment in
    let All : Type 0 = (ws : List Word) × (hold : Hold) × HasWords rest ws
    × IsHoldOf (own_list c.args.known.now) ws hold in
    let pick : All → One =
    λ x. (
      x.1.comment,
      subst (λ l. HasComment (operand (codes "COMMENT") l) x.1.comment) (words_only rest x.0 ws x.2 words) x.3.comment,
    ) in
    rw (p.1, p.2) (excludes_more c.in_err-comment.field-0.0 One All pick
    (c.in_err-comment.ensures.bad (operand_printable rest ws (codes "COMMENT") printable words)))

pub returns-clause-ok : goal.returns-clause-ok
returns-clause-ok c = λ rest h.
    let ws = words_of c.in-Some.words.now in
    let k = subst (HasKey (own_list c.args.known.now) ws) (sym c.key.view_is) c.in-Some-read_key.ensures.some in (
      ws,
      c.in-Some.ensures.words rest h,
      record {
        id = k.id;
        are_operands = c.in-Some.ensures.operands;
        kind = k.kind;
        fmid = k.fmid;
        reason = k.reason;
        class = optional_text IsClass (operand (codes "CLASS") ws) c.in_ok-class.class c.in_ok-class.ensures.ok;
        date = optional_text IsDate (operand (codes "DATE") ws) c.in_ok-date.date c.in_ok-date.ensures.ok;
        comment = c.in_ok-comment.ensures.ok;
      },
    )
