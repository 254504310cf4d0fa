use Rattle.std.specs.Prelude.{codes}
use Rattle.terms.specs.Operands.{operand}
use Rattle.rec80.specs.Views.{words_of}
use Rattle.mcs.specs.KnownWords.{own_list}
use Rattle.mcs.proofs.HoldKeys.{reason_of}
use Rattle.mcs.proofs.hold_operands.read_key.Goals as goal

pub returns-in_err-reason-clause-none : goal.returns-in_err-reason-clause-none
returns-in_err-reason-clause-none c =
    rw c.from_residual-in_err-reason.ensures (λ r k.
    let ws = words_of c.args.words.now in
    c.in_err-reason.ensures.none r.reason
    (reason_of (own_list c.args.known.now) ws (operand (codes "REASON") ws) c.in_ok-kind.kind r
    c.in_ok-kind.ensures.some k.kind k.reason))

pub returns-clause-some : goal.returns-clause-some
returns-clause-some c = record {
  id = c.in_ok-id.ensures.one;
  kind = c.in_ok-kind.ensures.some;
  fmid = c.in_ok-fmid.ensures.some;
  reason = c.in_ok-reason.ensures.some;
}
