use Rattle.std.proofs.Common.{◌∷◌, [], subst}
use Rattle.std.specs.Prelude.{codes}
use Rattle.std.proofs.lemmas.Result.{IfOk-weaker}
use Rattle.terms.specs.Types.{ReceiveOperands}
use Rattle.intake_asked.specs.Said.{AreThese, one_of}
use Rattle.intake_asked.specs.Words.{listed}
use Rattle.intake_asked.proofs.commands.says_receive.Goals as goal

pub returns : goal.returns
returns c =
    IfOk-weaker c.says_source.result _ _ (λ says said t. record {
      sysmods = c.says_received_kinds.ensures.sysmods c.if-not-says_received_kinds.false;
      holddata = c.says_received_kinds.ensures.holddata c.if-not-says_received_kinds.false;
      source = subst (λ (w : ReceiveOperands). AreThese (one_of w.source) (listed (codes "SOURCEID" ∷ []) c.args.operands.now))
          c.receive.view_is (said t);
    }) c.says_source.ensures
