use Rattle.std.proofs.Common.{◌∙◌, sym}
use Rattle.smpe_lint.proofs.answer.judge.Goals as goal

pub returns : goal.returns
returns c on = record {
  received = c.in_ok-received.received.global;
  all = c.in_ok-received.ensures (sym c.as_slice.ensures.value ∙ c.is_clean-clean.ensures.received on);
  global = c.take_holds.new.global;
  same = c.in_ok-take_holds.ensures;
  clean = c.is_clean-clean.ensures.clean on c.take_holds.new.global c.args.srel c.in_ok-findings.ensures;
}
